-- What holds of each state that a replay reaches, by what a turn of settling and a command keep.
use Rattle.std.proofs.Common.{◌≡◌, ℕ, zero, suc, ◌+◌, true, List, [], ◌∷◌, ◌++◌, length, All, None}
use Rattle.std.specs.Prelude.{is_none}
use Rattle.std.proofs.lemmas.Bool.{and_parts}
use Rattle.std.proofs.lemmas.List.Elements.{All-append, All-head, All-nil, All-tail}
use Rattle.xm_rules.specs.Opening.{are_carriable, opening}
use Rattle.xm_rules.specs.Refusals.{refusal_of}
use Rattle.xm_rules.specs.Settling.{come, order_of_stop, reached, released, settle, settle_in, take_pending}
use Rattle.xm_rules.specs.State.{State}
use Rattle.xm_rules.specs.Step.{Journal, is_lawful, is_lawful_from, replay, replay_from, step}
use Rattle.xm_rules.specs.declared.commands.Command.{Command}
use Rattle.xm_rules.specs.declared.orders.Stop.{Stop}
use Rattle.xm_rules.proofs.LawfulJournals.{none_from_test}

-- what the release of stops and the coming in of each keep, settling keeps
module _ (P : State → Type 0) (Q : Stop → Type 0) (comes : (s : State) (stop : Stop) → Q stop → P s → P (come s (order_of_stop stop)))
    (releases : (s : State) → P s → P (released s)) (gives : (s : State) → P s → All Q (reached s)) where
  taken-has : (more : State → List Stop → State) → ((s : State) (pending : List Stop) → All Q pending → P s → P (more s pending))
      → (s : State) (pending : List Stop) → All Q pending → P s → P (take_pending more s pending)
  taken-has more keeps s [] each p = p
  taken-has more keeps s (stop ∷ stops) each p =
      keeps (come s (order_of_stop stop)) stops (All-tail Q stop stops each) (comes s stop (All-head Q stop stops each) p)

  settled-has : (turns : ℕ) (s : State) (pending : List Stop) → All Q pending → P s → P (settle_in turns s pending)
  settled-has zero s pending each p = p
  settled-has (suc turns) s pending each p =
      taken-has (settle_in turns) (settled-has turns) (released s) (pending ++ reached s) (All-append Q pending (reached s) each (gives s p)) (releases s p)

  pub settle-has : (s : State) → P s → P (settle s [])
  settle-has s p = settled-has (length s.stops + 0) s [] (All-nil Q) p

-- what each command keeps, a replay has
module _ (P : State → Type 0) (steps : (s : State) (c : Command) → P s → P (step s c)) where
  replay_from-has : (s : State) (cs : List Command) → P s → P (replay_from s cs)
  replay_from-has s [] p = p
  replay_from-has s (c ∷ cs) p = replay_from-has (step s c) cs (steps s c p)

  pub replay-has : (j : Journal) → P (opening j.settings) → P (replay j)
  unfolding replay
  replay-has j p = replay_from-has (opening j.settings) j.commands p

-- what each accepted command keeps, the replay of a lawful journal has
module _ (P : State → Type 0) (steps : (s : State) (c : Command) → refusal_of s c ≡ None → P s → P (step s c)) where
  lawful_from-has : (s : State) (cs : List Command) → is_lawful_from s cs ≡ true → P s → P (replay_from s cs)
  lawful_from-has s [] h p = p
  lawful_from-has s (c ∷ cs) h p =
      let parts = and_parts (is_none (refusal_of s c)) (is_lawful_from (step s c) cs) h in
      lawful_from-has (step s c) cs parts.1 (steps s c (none_from_test (refusal_of s c) parts.0) p)

  pub lawful-has : (j : Journal) → is_lawful j ≡ true → (are_carriable j.settings ≡ true → P (opening j.settings)) → P (replay j)
  unfolding replay is_lawful
  lawful-has j h p =
      let parts = and_parts (are_carriable j.settings) (is_lawful_from (opening j.settings) j.commands) h in
      lawful_from-has (opening j.settings) j.commands parts.1 (p parts.0)
