use Rattle.std.proofs.Common.{◌≡◌, ◌≤◌, ◌∙◌, ℕ, All, drop, length, List, Some, None, [], ◌∷◌, ◌++◌, ap, sym, subst, rules, true}
use Rattle.std.proofs.lemmas.List.Elements.{All-drop}
use Rattle.xm_positions.specs.Positions.{Recorded}
use Rattle.xm_events.proofs.Seeing.{last-seen-push}
use Rattle.xm_events.specs.Seen.{last_seen, seen_of}
use Rattle.xm_rules.proofs.Journals.{is_lawful-push, journal_of, replay-push, reply-parts}
use Rattle.xm_rules.proofs.Kept.{step-settings}
use Rattle.xm_rules.proofs.Memory.{refusal-not_memory}
use Rattle.xm_rules.specs.Refusals.{refusal_of}
use Rattle.xm_rules.specs.State.{State}
use Rattle.xm_rules.specs.Step.{Journal, is_lawful, new_trades, replay, reply, step}
use Rattle.xm_rules.specs.Sums.{AreWithinLimits, IsBetweenMembers, total_money, total_quantity}
use Rattle.xm_rules.specs.declared.commands.Command.{Command}
use Rattle.xm_rules.specs.declared.orders.Trade.{Trade}
use Rattle.xm_rules.specs.declared.replies.Refusal.TheVariants.{OutOfMemory}
use Rattle.xm_rules.specs.declared.replies.Reply.{Reply}
use Rattle.xm_rules.specs.declared.settings.DeskSettings.{DeskSettings}
use Rattle.xm_ticks.specs.declared.numbers.TheConstants.{MAX_JOURNAL_LIMIT, MAX_PRICE}
use Rattle.xm_desk.proofs.Recording.{ArePriced, all-recorded, are_between, are_within, recorded}
use Rattle.xm_desk.proofs.desk.Desk.apply.Given.{Over}
use Rattle.xm_desk.proofs.desk.Desk.apply.Goals.{After-drop-accepted-2}
use Rattle.xm_desk.proofs.desk.Desk.apply.Goals as goal

pub returns-in-Err-clause-memory : goal.returns-in-Err-clause-memory
returns-in-Err-clause-memory g c =
    λ e.
    let refused : refusal_of (replay c.args.self.now) c.args.command.now ≡ Some c.in-Err.refusal = search rules in
    let same : c.in-Err.refusal ≡ OutOfMemory tt = cc in
    absurd (refusal-not_memory (replay c.args.self.now) c.args.command.now (refused ∙ ap Some same))

-- what the desk holds, and what of it was there before the step
held : (g : Over) (c : After-drop-accepted-2 g) → c.trades-first_trade.result.now ≡ c.self.inside.market.state.trades
held g c = search rules

whole : (g : Over) (c : After-drop-accepted-2 g) → c.self.inside.market.state.trades ++ drop (length c.trades-first_trade.result.now) c.step.new.self.state.trades ≡ c.step.new.self.state.trades
whole g c = all-recorded c.self.inside.market.state.trades c.trades-first_trade.result.now c.step.new.self.state.trades (held g c) (search rules)

pub invariant_of-self-2 : goal.invariant_of-self-2
invariant_of-self-2 g c =
    let s = c.self.inside.market.state in
    let command = c.args.command.now in
    let i = c.self.invariant in
    let j = journal_of s.settings (g.J.Journaling.commands c.self.inside.journal) in
    let more = j.commands ++ command ∷ [] in
    let t = c.step.new.self.state in
    let took : t ≡ step s command = search rules in
    let saw : c.step.new.self.seen ≡ seen_of s command = search rules in
    let items : g.J.Journaling.commands c.add.new.self ≡ more = cc in
    let passed : refusal_of s command ≡ None = search rules in
    let same : t.settings ≡ s.settings = ap (λ (u : State). u.settings) took ∙ step-settings s command in
    let journal = ap (λ (settings : DeskSettings). journal_of settings more) (sym same) ∙ ap (λ (cs : List Command). journal_of t.settings cs) (sym items) in
    record {
      replayed = took ∙ ap (λ (u : State). step u command) i.replayed ∙ sym (replay-push j command) ∙ ap replay journal;
      lawful = subst (λ (k : Journal). is_lawful k ≡ true) journal (is_lawful-push j command i.lawful (subst (λ (u : State). refusal_of u command ≡ None) i.replayed passed));
      ready = search rules;
      seen = saw ∙ ap (λ (u : State). seen_of u command) i.replayed ∙ sym (last-seen-push j command) ∙ ap last_seen journal;
      positions = c.record_from-reply.ensures.recorded
          ∙ ap (λ (p : Recorded). recorded p.members (p.trades ++ drop (length c.trades-first_trade.result.now) t.trades)) i.positions
          ∙ ap (recorded s.settings.members) (whole g c)
          ∙ ap (λ (settings : DeskSettings). recorded settings.members t.trades) (sym same);
    }

pub returns-clause-journal : goal.returns-clause-journal
returns-clause-journal g c =
    let s = c.self.inside.market.state in
    let commands = (g.J.Journaling.commands c.self.inside.journal) in
    let took : c.step.new.self.state ≡ step s c.args.command.now = search rules in
    let items : g.J.Journaling.commands c.add.new.self ≡ commands ++ c.args.command.now ∷ [] = cc in
    let same = ap (λ (t : State). t.settings) took ∙ step-settings s c.args.command.now in
    ap (λ (settings : DeskSettings). journal_of settings (g.J.Journaling.commands c.add.new.self)) same
    ∙ ap (λ (cs : List Command). journal_of s.settings cs) items
    ∙ ap (λ (j : Journal). journal_of j.settings (j.commands ++ c.args.command.now ∷ [])) c.self.view_is

pub returns-clause-reply : goal.returns-clause-reply
returns-clause-reply g c =
    let s = c.self.inside.market.state in
    let t = c.step.new.self.state in
    let before : s ≡ replay c.args.self.now = c.self.invariant.replayed ∙ ap replay c.self.view_is in
    let replied : ℕ → Reply = λ k. (let ts = drop k t.trades in
    let r : Reply = record { version = t.accepted; first_trade = k; trades = length ts; quantity = total_quantity ts; money = total_money ts; phase = t.phase } in
    r) in
    c.record_from-reply.ensures.reply
    ∙ ap (λ (ts : List Trade). replied (length ts)) (held g c)
    ∙ sym (reply-parts s t)
    ∙ ap (λ (u : State). reply u t) before
    ∙ ap (λ (u : State). reply (replay c.args.self.now) u) (invariant_of-self-2 g c).replayed

pub returns-clause-appended : goal.returns-clause-appended
returns-clause-appended g c =
    let s = c.self.inside.market.state in
    let t = c.step.new.self.state in
    let IsAppended : State → State → Type 0 = λ a b. b.trades ≡ a.trades ++ new_trades a b in
    let appended : IsAppended s t = search rules in
    let before : s ≡ replay c.args.self.now = c.self.invariant.replayed ∙ ap replay c.self.view_is in
    subst (IsAppended (replay c.args.self.now)) (invariant_of-self-2 g c).replayed (subst (λ (a : State). IsAppended a t) before appended)

pub record_from-reply-requires-clause-members : goal.record_from-reply-requires-clause-members
record_from-reply-requires-clause-members g c =
    let s = c.self.inside.market.state in
    let command = c.args.command.now in
    let i = c.self.invariant in
    let took : c.step.new.self.state ≡ step s command = search rules in
    let passed : refusal_of s command ≡ None = search rules in
    let between = are_between (journal_of s.settings (g.J.Journaling.commands c.self.inside.journal)) command i.lawful (subst (λ (t : State). refusal_of t command ≡ None) i.replayed passed) in
    let first = length c.trades-first_trade.result.now in
    let all : All (IsBetweenMembers s.settings.members) c.step.new.self.state.trades =
    subst (All (IsBetweenMembers s.settings.members)) (ap (λ (t : State). (step t command).trades) (sym i.replayed) ∙ ap (λ (t : State). t.trades) (sym took)) between in
    subst (λ (p : Recorded). All (IsBetweenMembers p.members) (drop first c.step.new.self.state.trades)) (sym i.positions) (All-drop (IsBetweenMembers s.settings.members) first c.step.new.self.state.trades all)

pub record_from-reply-requires-clause-limits : goal.record_from-reply-requires-clause-limits
record_from-reply-requires-clause-limits g c =
    let s = c.self.inside.market.state in
    let command = c.args.command.now in
    let i = c.self.invariant in
    let t = c.step.new.self.state in
    let took : t ≡ step s command = search rules in
    let passed : refusal_of s command ≡ None = search rules in
    let j = journal_of s.settings (g.J.Journaling.commands c.self.inside.journal) in
    let stepped : t ≡ step (replay j) command = took ∙ ap (λ (u : State). step u command) i.replayed in
    let limited : s.settings.limit ≤ MAX_JOURNAL_LIMIT = search rules in
    let priced : ArePriced t = subst (All (λ (x : Trade). x.price ≤ MAX_PRICE)) c.trades.ensures.trades c.trades.ensures.priced in
    let within = are_within j command i.lawful (subst (λ (u : State). refusal_of u command ≡ None) i.replayed passed) limited (subst ArePriced stepped priced) in
    let held : c.trades-first_trade.result.now ≡ s.trades = search rules in
    let whole = all-recorded s.trades c.trades-first_trade.result.now t.trades held (search rules) in
    let added = drop (length c.trades-first_trade.result.now) t.trades in
    subst AreWithinLimits (ap (λ (u : State). u.trades) (sym stepped) ∙ sym whole ∙ ap (λ (p : Recorded). p.trades ++ added) (sym i.positions)) within
