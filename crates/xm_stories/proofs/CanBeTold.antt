-- A command that a lawful journal takes can be told.
use Rattle.std.proofs.Common.{◌≡◌, ℕ, List, sum_by, arith}
use Rattle.xm_events.specs.Life.{taken}
use Rattle.xm_events.specs.Seen.{seen_of}
use Rattle.xm_events.specs.SeenStory.{seen_story}
use Rattle.xm_rules.specs.Step.{Journal, new_trades, replay, step}
use Rattle.xm_rules.specs.declared.commands.Command.{Command}
use Rattle.xm_rules.specs.declared.orders.Stop.{Stop}
use Rattle.xm_rules.specs.declared.orders.Trade.{Trade}
use Rattle.xm_events.proofs.FewUnits.{seen_few}
use Rattle.xm_stories.specs.Telling.{CanBeTold, IsTakenByJournal}
use Rattle.xm_stories.specs.declared.around.After.{After}
use Rattle.xm_stories.specs.declared.around.Before.{Before}

module _ {A : Type 0} where
  pub taken_can_be_told : (j : Journal) (left : ℕ → ℕ → ℕ) (command : Command) (before : Before A) (after : After) (trades : List Trade) (triggered : List Stop)
      → IsTakenByJournal j left command before after trades triggered → CanBeTold left command before after trades triggered
  taken_can_be_told j left command before after trades triggered it =
      let s = replay j in
      let t = step s command in
      record {
        s = s;
        t = t;
        is_before = it.is_before;
        is_after = it.is_after;
        fit = λ member reference.
            (let few = seen_few member reference j command it.lawful it.accepted in
            let same :
            sum_by (taken member reference) (seen_story s command (record { triggered = triggered; interruption = after.interruption }) trades t)
            ≡ sum_by (taken member reference) (seen_story s command (seen_of s command) (new_trades s t) t) =
            λ k. sum_by (taken member reference) (seen_story s command (it.seen_is k) (it.trades_are k) t) in
            let left_so = it.left_are member reference in
            omega (arith, few, same, left_so));
      }
