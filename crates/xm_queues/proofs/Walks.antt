-- A queue is what a walk from its first key finds, so that the links and the ends tell its keys.
use Rattle.std.proofs.Common.{◌≡◌, ℕ, zero, suc, ◌<◌, ◌≤◌, true, false, eqb, List, [], ◌∷◌, length, Contains, Option, Some, None, refl, sym, ap, ◌∙◌, subst, inl, inr, arith, ne_eqb}
use Rattle.std.proofs.lemmas.Bool.{cases_eq}
use Rattle.std.proofs.lemmas.Map.Steps.{length-le_from_distinct_below}
use Rattle.std.specs.List.{AllByRecursion, IsDistinct, list_any}
use Rattle.xm_queues.proofs.Keys.{Contains-here, Contains-there}
use Rattle.xm_queues.specs.Keys.{AreDistinct}
use Rattle.xm_queues.specs.Queue.{IsSegment, IsQueue, HasKey, LacksKey, keys_from, keys_of}
use Rattle.xm_queues.specs.declared.queues.Ends.{Ends}
use Rattle.xm_queues.specs.declared.links.Link.{Link}

pub queue_nil : (links : List Link) → IsQueue links (record { first = None; last = None }) []
unfolding IsSegment
queue_nil links = record { linked = (refl, refl); distinct = tt }

-- ---- a queue has no more keys than there are links

all_other : (k : ℕ) (ks : List ℕ) → ¬ Contains ks k → AllByRecursion (λ j. eqb k j ≡ false) ks
all_other k [] absent = tt
all_other k (j ∷ js) absent = (
  ne_eqb k j (λ same. absent (subst (Contains (j ∷ js)) (sym same) (Contains-here j js))),
  all_other k js (λ at. absent (Contains-there j js k at)),
)

distinct_by_test : (ks : List ℕ) → AreDistinct ks → IsDistinct eqb ks
unfolding IsDistinct
distinct_by_test [] distinct = tt
distinct_by_test (k ∷ ks) distinct = (all_other k ks distinct.0, distinct_by_test ks distinct.1)

found_within : (links : List Link) (before after : Option ℕ) (ks : List ℕ) (first last : Option ℕ) (q : ℕ) → IsSegment links before after ks first last → list_any (eqb q) ks ≡ true → q < length links
unfolding IsSegment
found_within links before after [] first last q s found = cc
found_within links before after (k ∷ ks) first last q s found =
    elim (cases_eq q k) [
      | inl same ↦ subst (λ i. i < length links) (sym same) s.1
      | inr differs ↦ found_within links (Some k) after ks _ last q s.3 (rw (ne_eqb q k differs) at found)
    ]

pub length-queue : (links : List Link) (ends : Ends) (keys : List ℕ) → IsQueue links ends keys → length keys ≤ length links
length-queue links ends keys q =
    length-le_from_distinct_below keys (length links) (distinct_by_test keys q.distinct)
    (λ k found. found_within links None None keys _ _ k q.linked found)

-- ---- the walk

keys_from-none : (links : List Link) (n : ℕ) → keys_from links n None ≡ []
unfolding keys_from
keys_from-none links zero = refl
keys_from-none links (suc n) = refl

keys_from-segment : (links : List Link) (before : Option ℕ) (ks : List ℕ) (first last : Option ℕ) (n : ℕ) → length ks ≤ n → IsSegment links before None ks first last → keys_from links n first ≡ ks
unfolding keys_from IsSegment
keys_from-segment links before [] first last n within s = rw s.0 (keys_from-none links n)
keys_from-segment links before (k ∷ ks) first last zero within s = absurd (omega arith)
keys_from-segment links before (k ∷ ks) first last (suc n) within s =
    rw s.0 (ap (λ xs. k ∷ xs) (keys_from-segment links (Some k) ks _ last n (omega arith) s.3))

-- the keys of a queue are those that the walk finds
pub keys_of-is : (links : List Link) (ends : Ends) (keys : List ℕ) → IsQueue links ends keys → keys_of links ends ≡ keys
unfolding keys_of
keys_of-is links ends keys q =
    keys_from-segment links None keys _ _ (length links) (length-queue links ends keys q) q.linked

-- two lists of one queue are the same list
pub same_keys : (links : List Link) (ends : Ends) (keys keys' : List ℕ) → IsQueue links ends keys → IsQueue links ends keys' → keys ≡ keys'
same_keys links ends keys keys' q q' = sym (keys_of-is links ends keys q) ∙ keys_of-is links ends keys' q'

pub queue_of : (links : List Link) (ends : Ends) (keys : List ℕ) → IsQueue links ends keys → IsQueue links ends (keys_of links ends)
queue_of links ends keys q = subst (IsQueue links ends) (sym (keys_of-is links ends keys q)) q

-- what is known of one list of a queue is known of each
pub lacks : (links : List Link) (ends : Ends) (keys : List ℕ) (key : ℕ) → IsQueue links ends keys → LacksKey links ends key → ¬ Contains keys key
lacks links ends keys key q l =
    subst (λ ks. ¬ Contains ks key) (same_keys links ends l.keys keys l.queue q) l.absent

pub has : (links : List Link) (ends : Ends) (keys : List ℕ) (key : ℕ) → IsQueue links ends keys → HasKey links ends key → Contains keys key
has links ends keys key q h = subst (λ ks. Contains ks key) (same_keys links ends h.keys keys h.queue q) h.member
