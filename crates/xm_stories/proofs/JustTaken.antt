-- A desk that has just taken a command.
use Rattle.std.proofs.Common.{◌≡◌, ℕ, ◌-◌, ◌≤◌, List, drop, length, take, ap, ◌∙◌, arith}
use Rattle.std.proofs.lemmas.List.{length-append, length-drop, take_all}
use Rattle.xm_events.proofs.Seeing.{last-seen-push}
use Rattle.xm_events.specs.Life.{units_named}
use Rattle.xm_events.specs.Seen.{Seen, last_seen}
use Rattle.xm_rules.proofs.Journals.{replay-push}
use Rattle.xm_rules.specs.State.{State}
use Rattle.xm_rules.specs.Step.{Journal, new_trades, replay, step}
use Rattle.xm_rules.specs.declared.commands.Command.{Command}
use Rattle.xm_rules.specs.declared.orders.Stop.{Stop}
use Rattle.xm_rules.specs.declared.orders.Trade.{Trade}
use Rattle.xm_stories.specs.OfDesks.{HasJustTaken}
use Rattle.xm_stories.specs.Telling.{IsTakenByJournal}
use Rattle.xm_stories.specs.declared.around.After.{After}
use Rattle.xm_stories.specs.declared.around.Before.{Before}

module _ {A : Type 0} (desk : Journal) (command : Command) (before : Before A) (first : ℕ) (j : Journal) (it : HasJustTaken desk command before first j) where
  stepped : replay desk ≡ step (replay j) command
  stepped = ap replay it.journal ∙ replay-push j command

  -- the trades behind the first ones are those that the command made
  pub first-within : first ≤ length (replay desk).trades
  first-within = (let all = ap length it.appended ∙ length-append (replay j).trades (new_trades (replay j) (replay desk)) in omega (arith, it.first_is, all))

  pub just-taken : (after : After) (trades : List Trade) (triggered : List Stop) → after.sweeps ≡ (replay desk).sweeps → after.phase ≡ (replay desk).phase
      → after.interruption ≡ (last_seen desk).interruption → triggered ≡ (last_seen desk).triggered → trades ≡ (replay desk).trades
      → IsTakenByJournal j (λ m r. units_named (replay desk) m r) command before after (take (length trades - first) (drop first trades)) triggered
  just-taken after trades triggered sweeps phase interruption stops are = record {
    lawful = it.lawful;
    accepted = it.accepted;
    is_before = it.is_before;
    is_after = record { sweeps = sweeps ∙ ap (λ (t : State). t.sweeps) stepped; phase = phase ∙ ap (λ (t : State). t.phase) stepped };
    trades_are =
        take_all (length trades - first) (drop first trades) (omega (arith, length-drop first trades))
        ∙ ap (drop first) are ∙ ap (λ n. drop n (replay desk).trades) it.first_is ∙ ap (λ (t : State). drop (length (replay j).trades) t.trades) stepped;
    seen_is = (λ k. (let seen : Seen = record { triggered = stops k; interruption = interruption k } in seen)) ∙ ap last_seen it.journal ∙ last-seen-push j command;
    left_are = λ m r. ap (λ (t : State). units_named t m r) stepped;
  }
