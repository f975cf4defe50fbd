-- A queue beside the list of its keys.
use Rattle.std.proofs.Common.{◌≡◌, ℕ, zero, suc, ◌<◌, true, false, List, [], ◌∷◌, length, get_or, Contains, arith, eqb, eq-eqb, ne_eqb, refl, inl, inr}
use Rattle.std.proofs.lemmas.Bool.{cases_eq}
use Rattle.std.specs.List.{list_any}
use Rattle.xm_queues.proofs.Changes.{key_within}
use Rattle.xm_queues.proofs.Keys.{Contains-none, Contains-cases}
use Rattle.xm_queues.specs.Queue.{IsQueue}
use Rattle.xm_queues.specs.declared.links.Link.{Link}
use Rattle.xm_queues.specs.declared.queues.Ends.{Ends}

present : (key : ℕ) (keys : List ℕ) → Contains keys key → list_any (λ k. eqb k key) keys ≡ true
present key [] at = absurd (Contains-none key at)
present key (k ∷ ks) at =
    elim (Contains-cases k ks key at) [
      | inl same ↦ rw (eq-eqb k key same) refl
      | inr later ↦
          elim (cases_eq k key) [
            | inl same ↦ rw (eq-eqb k key same) refl
            | inr differs ↦ rw (ne_eqb k key differs) (present key ks later)
          ]
    ]

pub missing : (key : ℕ) (keys : List ℕ) → list_any (λ k. eqb k key) keys ≡ false → ¬ Contains keys key
missing key keys h at = let yes = present key keys at in cc

get_or_same : (keys : List ℕ) (i a b : ℕ) → i < length keys → get_or keys i a ≡ get_or keys i b
get_or_same [] i a b within = absurd (omega arith)
get_or_same (k ∷ ks) zero a b within = refl
get_or_same (k ∷ ks) (suc i) a b within = get_or_same ks i a b (omega arith)

-- each key of a queue has room
pub has_room : (links : List Link) (ends : Ends) (keys : List ℕ) (i : ℕ) → IsQueue links ends keys → i < length keys → get_or keys i 0 < length links
has_room links ends keys i q within =
    key_within links ends keys (get_or keys i 0) q (i, within, get_or_same keys i _ 0 within)
