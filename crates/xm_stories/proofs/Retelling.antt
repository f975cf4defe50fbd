-- A story from the values that lie around its command.
use Rattle.std.proofs.Common.{◌≡◌, ℕ, ◌+◌, ◌++◌, List, [], filter, not, take, drop, sym, ap, ◌∙◌}
use Rattle.xm_events.specs.Life.{units_named, with_rests}
use Rattle.xm_events.specs.Story.{story}
use Rattle.xm_events.specs.SeenStory.{arrivals, numbered_so, seen_own, seen_story, trades_behind, trades_numbered}
use Rattle.xm_events.specs.declared.events.Event.{Event}
use Rattle.xm_rules.specs.Commands.{outlasts}
use Rattle.xm_rules.specs.State.{State, last_price}
use Rattle.xm_rules.specs.Step.{Journal, replay, step}
use Rattle.xm_rules.specs.declared.commands.Command.{Command}
use Rattle.xm_rules.specs.declared.orders.Order.{Order}
use Rattle.xm_rules.specs.declared.orders.Stop.{Stop}
use Rattle.xm_rules.specs.declared.orders.Trade.{Trade}
use Rattle.xm_events.proofs.Retold.{story_retold}
use Rattle.xm_stories.specs.Around.{IsAfter, IsBefore, between_of, outcome_in}
use Rattle.xm_stories.specs.Telling.{IsTakenByJournal}
use Rattle.xm_stories.specs.declared.around.After.{After}
use Rattle.xm_stories.specs.declared.around.Before.{Before}
use Rattle.xm_stories.specs.declared.around.Between.{Between}

-- what leaves at the end of the day
abbrev pub leaving_orders : State → List Order
leaving_orders s = let today = s.settings.today in filter (λ (o : Order). not (outlasts today o.validity)) s.orders

abbrev pub leaving_stops : State → List Stop
leaving_stops s = let today = s.settings.today in filter (λ (stop : Stop). not (outlasts today stop.validity)) s.stops

module _ {A : Type 0} where
  pub retold : (s t : State) (command : Command) (before : Before A) (after : After) (trades : List Trade) (triggered : List Stop) → IsBefore s command before → IsAfter t after
      → seen_own (outcome_in (between_of before after)) s command trades after.phase
      ++ arrivals (outcome_in (between_of before after)) (before.sweeps + 1 + 1) (last_price before.last (trades_numbered (before.sweeps + 1) trades))
      (trades_behind (before.sweeps + 1) trades) triggered
      ≡ seen_story s command (record { triggered = triggered; interruption = after.interruption }) trades t
  unfolding seen_story
  retold s t command before after trades triggered b a =
      λ k. seen_own (record { widths = b.widths k; last = a.sweeps k; interruption = after.interruption }) s command trades (a.phase k)
      ++ arrivals (record { widths = b.widths k; last = a.sweeps k; interruption = after.interruption }) (b.sweeps k + 1 + 1)
      (last_price (b.last k) (trades_numbered (b.sweeps k + 1) trades)) (trades_behind (b.sweeps k + 1) trades) triggered

  -- the same, from what each part of it is
  pub put_together : (s t : State) (command : Command) (before : Before A) (after : After) (trades : List Trade) (triggered : List Stop) → IsBefore s command before → IsAfter t after
      → (none own all : List Event) (between : Between) (number last : ℕ) (front behind : List Trade)
      → none ≡ [] → own ≡ none ++ seen_own (outcome_in (between_of before after)) s command trades after.phase → between ≡ between_of before after
      → number ≡ numbered_so (before.sweeps + 1) trades → front ≡ take number trades → behind ≡ drop number trades → last ≡ last_price before.last front
      → all ≡ own ++ arrivals (outcome_in between) (before.sweeps + 1 + 1) last behind triggered
      → all ≡ seen_story s command (record { triggered = triggered; interruption = after.interruption }) trades t
  put_together s t command before after trades triggered b a none own all between number last front behind e_none e_own e_between e_number e_front e_behind e_last e_all =
      let its_own : own ≡ seen_own (outcome_in (between_of before after)) s command trades after.phase =
      e_own ∙ ap (λ (es : List Event). es ++ seen_own (outcome_in (between_of before after)) s command trades after.phase) e_none in
      let its_front : front ≡ trades_numbered (before.sweeps + 1) trades = e_front ∙ ap (λ (n : ℕ). take n trades) e_number in
      let its_behind : behind ≡ trades_behind (before.sweeps + 1) trades = e_behind ∙ ap (λ (n : ℕ). drop n trades) e_number in
      let its_last : last ≡ last_price before.last (trades_numbered (before.sweeps + 1) trades) = e_last ∙ ap (λ (ts : List Trade). last_price before.last ts) its_front in
      e_all
      ∙ (λ k. its_own k ++ arrivals (outcome_in (e_between k)) (before.sweeps + 1 + 1) (its_last k) (its_behind k) triggered)
      ∙ retold s t command before after trades triggered b a

  -- what is told of a command that a lawful journal takes is its story
  pub story_told : (j : Journal) (left : ℕ → ℕ → ℕ) (command : Command) (before : Before A) (after : After) (trades : List Trade) (triggered : List Stop)
      → IsTakenByJournal j left command before after trades triggered
      → with_rests left (seen_story (replay j) command (record { triggered = triggered; interruption = after.interruption }) trades (step (replay j) command)) ≡ story (replay j) command
  story_told j left command before after trades triggered it =
      let s = replay j in
      let t = step s command in
      let same_left : left ≡ units_named t = λ k member reference. it.left_are member reference k in
      (λ k. with_rests (same_left k) (seen_story s command (it.seen_is k) (it.trades_are k) t)) ∙ sym (story_retold j command it.lawful it.accepted)
