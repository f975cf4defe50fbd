-- No command changes the settings of the day, nor the number of accepted commands before it is counted.
use Rattle.std.proofs.Common.{◌≡◌, ◌∙◌, ℕ, ◌+◌, zero, suc, Bool, true, false, ◌&&◌, ◌==◌, if◌then◌else◌, List, [], ◌∷◌, ◌++◌, Option, Some, None, refl, ap, sym}
use Rattle.std.specs.Prelude.{find}
use Rattle.xm_rules.specs.Allotment.{Uncrossing}
use Rattle.xm_rules.specs.Auction.{auction_price}
use Rattle.xm_rules.specs.Commands.{trigger_of}
use Rattle.xm_rules.specs.Orders.{is_named}
use Rattle.xm_rules.specs.Settling.{come, is_continuous, is_free, joined, order_of_stop, reached, released, settle, settle_in, sweep_of, swept, take_pending}
use Rattle.xm_rules.specs.State.{State, ranges, ref1}
use Rattle.xm_rules.specs.Step.{act, cancelled, changed, changed_order, come_under, determined, entered, keeps_priority, reduced, replaced, stage_after, step, uncrossed, uncrossed_at}
use Rattle.xm_rules.specs.Sweep.{is_fillable, rest_after}
use Rattle.xm_rules.specs.declared.commands.Command.{Command}
use Rattle.xm_rules.specs.declared.commands.Command.TheVariants.{Enter, Change, Uncross}
use Rattle.xm_rules.specs.declared.commands.Condition.{Condition}
use Rattle.xm_rules.specs.declared.commands.Condition.TheVariants.{Plain, Ioc, Fok, Boc}
use Rattle.xm_rules.specs.declared.orders.Order.{Order}
use Rattle.xm_rules.specs.declared.orders.Stop.{Stop}
use Rattle.xm_rules.specs.declared.phases.Auction.{Auction}
use Rattle.xm_rules.specs.declared.phases.CallStage.{CallStage}
use Rattle.xm_rules.specs.declared.phases.Phase.{Phase}
use Rattle.xm_rules.specs.declared.phases.Phase.TheVariants.{Call}
use Rattle.xm_rules.proofs.CallTrades.{call_of}

-- the second state has the settings of the first, and its number of accepted commands
pub record Keeps (s t : State) : Type 0 where
  pub settings : t.settings ≡ s.settings
  pub accepted : t.accepted ≡ s.accepted

in_turn : (s t u : State) → Keeps s t → Keeps t u → Keeps s u
in_turn s t u h i = record { settings = i.settings ∙ h.settings; accepted = i.accepted ∙ h.accepted }

either : (s a b : State) (t : Bool) → Keeps s a → Keeps s b → Keeps s (if t then a else b)
either s a b true h i = h
either s a b false h i = i

pub come-keeps : (s : State) (o : Order) → Keeps s (come s o)
come-keeps s o =
    either s _ (joined s o) (is_continuous s.phase && is_free o.restriction)
    (either s (swept s o) _ (rest_after (sweep_of s o) == 0) (record { settings = refl; accepted = refl }) (record { settings = refl; accepted = refl }))
    (record { settings = refl; accepted = refl })

taken-keeps : (more : State → List Stop → State) → ((s : State) (pending : List Stop) → Keeps s (more s pending)) → (s : State) (pending : List Stop) → Keeps s (take_pending more s pending)
taken-keeps more keeps s [] = record { settings = refl; accepted = refl }
taken-keeps more keeps s (stop ∷ stops) = in_turn s (come s (order_of_stop stop)) _ (come-keeps s (order_of_stop stop)) (keeps (come s (order_of_stop stop)) stops)

settled-keeps : (turns : ℕ) (s : State) (pending : List Stop) → Keeps s (settle_in turns s pending)
settled-keeps zero s pending = record { settings = refl; accepted = refl }
settled-keeps (suc turns) s pending =
    let more = taken-keeps (settle_in turns) (settled-keeps turns) (released s) (pending ++ reached s) in
    record { settings = more.settings; accepted = more.accepted }

pub settle-keeps : (s : State) (pending : List Stop) → Keeps s (settle s pending)
settle-keeps s pending = settled-keeps _ s pending

condition-keeps : (condition : Condition) (s : State) (o : Order) → Keeps s (come_under condition s o)
condition-keeps Plain s o = come-keeps s o
condition-keeps Ioc s o = record { settings = refl; accepted = refl }
condition-keeps Fok s o = either s (come s o) s (is_fillable (sweep_of s o)) (come-keeps s o) (record { settings = refl; accepted = refl })
condition-keeps Boc s o = come-keeps s o

entered-keeps : (s : State) (condition : Condition) (trigger : Option ℕ) (o : Order) → Keeps s (entered s condition trigger o)
entered-keeps s condition None o = condition-keeps condition s o
entered-keeps s condition (Some trigger) o = record { settings = refl; accepted = refl }

replaced-keeps : (s : State) (o again : Order) → Keeps s (replaced s o again)
replaced-keeps s o again =
    let more = come-keeps (cancelled s o.member o.reference) again in
    record { settings = more.settings; accepted = more.accepted }

changed-keeps : (s : State) (quantity : ℕ) (limit : Option ℕ) (found : Option Order) → Keeps s (changed s quantity limit found)
changed-keeps s quantity limit None = record { settings = refl; accepted = refl }
changed-keeps s quantity limit (Some o) =
    either s (reduced s quantity o) (replaced s o (changed_order quantity limit o)) (keeps_priority quantity limit o)
    (record { settings = refl; accepted = refl }) (replaced-keeps s o (changed_order quantity limit o))

determined-keeps : (s : State) (u : Uncrossing) (next : Option CallStage) → Keeps s (determined s u next)
determined-keeps s u None = record { settings = refl; accepted = refl }
determined-keeps s u (Some stage) = record { settings = refl; accepted = refl }

priced-keeps : (s : State) (auction : Auction) (stage : CallStage) (priced : Option (ℕ × ℕ)) → Keeps s (uncrossed_at s auction stage priced)
priced-keeps s auction stage None = record { settings = refl; accepted = refl }
priced-keeps s auction stage (Some priced) = determined-keeps s (call_of s auction stage priced) (stage_after (ranges s) stage priced.0)

uncrossed-keeps : (s : State) (phase : Phase) → Keeps s (uncrossed s phase)
uncrossed-keeps s (Call auction stage) = priced-keeps s auction stage (auction_price (Call auction stage) s.orders (ref1 s))
uncrossed-keeps s _ = record { settings = refl; accepted = refl }

pub act-keeps : (s : State) (c : Command) → Keeps s (act s c)
act-keeps s (Enter member reference side k quantity validity restriction condition) = entered-keeps s condition (trigger_of k) _
act-keeps s (Change member reference quantity limit) = changed-keeps s quantity limit (find (is_named member reference) s.orders)
act-keeps s Uncross = uncrossed-keeps s s.phase
act-keeps s _ = record { settings = refl; accepted = refl }

pub step-settings : (s : State) (c : Command) → (step s c).settings ≡ s.settings
unfolding step
step-settings s c = (settle-keeps (act s c) []).settings ∙ (act-keeps s c).settings

-- the step is what the command does, settled and counted
pub step-counts : (s : State) (c : Command) → step s c ≡ record (settle (act s c) []) { accepted = (settle (act s c) []).accepted + 1 }
unfolding step
step-counts s c =
    ap (λ (n : ℕ). record (settle (act s c) []) { accepted = n + 1 }) (sym ((settle-keeps (act s c) []).accepted ∙ (act-keeps s c).accepted))
