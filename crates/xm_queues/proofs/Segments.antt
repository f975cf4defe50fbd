-- Links along keys, and how they follow a write.
use Rattle.std.proofs.Common.{◌≡◌, ◌≢◌, ℕ, ◌<◌, ◌≤◌, List, [], ◌∷◌, ◌++◌, length, Contains, Option, Some, None, refl, sym, ap, ◌∙◌, subst, inl, inr, arith, length-set, get_or-set_same, get_or-set_other}
use Rattle.std.proofs.lemmas.Option.{none-some, same_Some}
use Rattle.xm_queues.proofs.Keys.{Contains-here, Contains-there, Contains-none, Contains-cases}
use Rattle.xm_queues.specs.Keys.{AreDistinct}
use Rattle.xm_queues.specs.Queue.{no_link, link_at, with_next, with_prev, end_after, IsSegment}
use Rattle.xm_queues.specs.declared.links.Link.{Link}

-- ---- what a write to a link leaves

pub length-with_next : (links : List Link) (at to : Option ℕ) → length (with_next links at to) ≡ length links
length-with_next links None to = refl
length-with_next links (Some key) to = length-set links key _

pub length-with_prev : (links : List Link) (at to : Option ℕ) → length (with_prev links at to) ≡ length links
length-with_prev links None to = refl
length-with_prev links (Some key) to = length-set links key _

pub other_next : (links : List Link) (at to : Option ℕ) (k : ℕ) → at ≢ Some k → link_at (with_next links at to) k ≡ link_at links k
other_next links None to k differs = refl
other_next links (Some key) to k differs = get_or-set_other links key k _ no_link (λ same. differs (ap Some (sym same)))

pub other_prev : (links : List Link) (at to : Option ℕ) (k : ℕ) → at ≢ Some k → link_at (with_prev links at to) k ≡ link_at links k
other_prev links None to k differs = refl
other_prev links (Some key) to k differs = get_or-set_other links key k _ no_link (λ same. differs (ap Some (sym same)))

here_next : (links : List Link) (at to : Option ℕ) (k : ℕ) → at ≡ Some k → k < length links → link_at (with_next links at to) k ≡ record { prev = (link_at links k).prev; next = to }
here_next links at to k is within = rw is (get_or-set_same links k _ no_link within)

here_prev : (links : List Link) (at to : Option ℕ) (k : ℕ) → at ≡ Some k → k < length links → link_at (with_prev links at to) k ≡ record { prev = to; next = (link_at links k).next }
here_prev links at to k is within = rw is (get_or-set_same links k _ no_link within)

-- ---- segments

-- a segment reads the links of its keys alone
pub segment_kept : (links links' : List Link) (before after : Option ℕ) (ks : List ℕ) (first last : Option ℕ) → length links ≤ length links' → ((k : ℕ) → Contains ks k → k < length links → link_at links' k ≡ link_at links k) → IsSegment links before after ks first last → IsSegment links' before after ks first last
unfolding IsSegment
segment_kept links links' before after [] first last longer same s = s
segment_kept links links' before after (k ∷ ks) first last longer same s =
    let within : k < length links = s.1 in
    let here = same k (Contains-here k ks) within in (
      s.0,
      omega arith,
      ap (λ (l : Link). l.prev) here ∙ s.2,
      subst (λ n. IsSegment links' (Some k) after ks n last) (sym (ap (λ (l : Link). l.next) here))
          (segment_kept links links' (Some k) after ks _ last longer (λ j at. same j (Contains-there k ks j at)) s.3),
    )

pub segment_within : (links : List Link) (before after : Option ℕ) (ks : List ℕ) (first last : Option ℕ) (j : ℕ) → IsSegment links before after ks first last → Contains ks j → j < length links
unfolding IsSegment
segment_within links before after [] first last j s at = absurd (Contains-none j at)
segment_within links before after (k ∷ ks) first last j s at =
    elim (Contains-cases k ks j at) [
      | inl same ↦ subst (λ i. i < length links) same s.1
      | inr later ↦ segment_within links (Some k) after ks _ last j s.3 later
    ]

-- the last key of a segment that has keys
pub record LastOf (ks : List ℕ) (last : Option ℕ) : Type 0 where
  pub key : ℕ
  pub is : last ≡ Some key
  pub member : Contains ks key

pub last_of : (links : List Link) (before after : Option ℕ) (k : ℕ) (ks : List ℕ) (first last : Option ℕ) → IsSegment links before after (k ∷ ks) first last → LastOf (k ∷ ks) last
unfolding IsSegment
last_of links before after k [] first last s = record { key = k; is = s.3.1; member = Contains-here k [] }
last_of links before after k (j ∷ js) first last s =
    let rest = last_of links (Some k) after j js _ last s.3 in
    record { key = rest.key; is = rest.is; member = Contains-there k (j ∷ js) rest.key rest.member }

-- the key that a queue ends with is one of its keys
pub last_member : (links : List Link) (after : Option ℕ) (ks : List ℕ) (first last : Option ℕ) (key : ℕ) → IsSegment links None after ks first last → last ≡ Some key → Contains ks key
unfolding IsSegment
last_member links after [] first last key s is = absurd (none-some key (sym s.1 ∙ is))
last_member links after (k ∷ ks) first last key s is =
    let found = last_of links None after k ks first last s in
    subst (Contains (k ∷ ks)) (same_Some found.key key (sym found.is ∙ is)) found.member

pub first_member : (links : List Link) (before : Option ℕ) (ks : List ℕ) (first last : Option ℕ) (key : ℕ) → IsSegment links before None ks first last → first ≡ Some key → Contains ks key
unfolding IsSegment
first_member links before [] first last key s is = absurd (none-some key (sym s.0 ∙ is))
first_member links before (k ∷ ks) first last key s is =
    subst (Contains (k ∷ ks)) (same_Some k key (sym s.0 ∙ is)) (Contains-here k ks)

-- the last key of a segment leads to another place
some_to : (links : List Link) (before after : Option ℕ) (k : ℕ) (ks : List ℕ) (first last to : Option ℕ) → AreDistinct (k ∷ ks) → IsSegment links before after (k ∷ ks) first last → IsSegment (with_next links last to) before to (k ∷ ks) first last
unfolding IsSegment
some_to links before after k [] first last to distinct s =
    let here = here_next links last to k s.3.1 s.1 in
    (s.0, rw length-with_next s.1, ap (λ (l : Link). l.prev) here ∙ s.2, (ap (λ (l : Link). l.next) here, s.3.1))
some_to links before after k (j ∷ js) first last to distinct s =
    let found = last_of links (Some k) after j js _ last s.3 in
    let differs : last ≢ Some k =
    λ same. distinct.0 (subst (Contains (j ∷ js)) (same_Some found.key k (sym found.is ∙ same)) found.member) in
    let here = other_next links last to k differs in (
      s.0,
      rw length-with_next s.1,
      ap (λ (l : Link). l.prev) here ∙ s.2,
      subst (λ n. IsSegment (with_next links last to) (Some k) to (j ∷ js) n last) (sym (ap (λ (l : Link). l.next) here))
          (some_to links (Some k) after j js _ last to distinct.1 s.3),
    )

pub segment_to : (links : List Link) (after : Option ℕ) (ks : List ℕ) (first last to : Option ℕ) → AreDistinct ks → IsSegment links None after ks first last → IsSegment (with_next links last to) None to ks (end_after first last to) last
unfolding IsSegment
segment_to links after [] first last to distinct s = (rw s.1 refl, s.1)
segment_to links after (k ∷ ks) first last to distinct s =
    let found = last_of links None after k ks first last s in
    let same : end_after first last to ≡ first = rw found.is refl in
    subst (λ f. IsSegment (with_next links last to) None to (k ∷ ks) f last) (sym same)
    (some_to links None after k ks first last to distinct s)

-- the first key of a segment leads back to another place
pub segment_from : (links : List Link) (before : Option ℕ) (ks : List ℕ) (first last to : Option ℕ) → AreDistinct ks → IsSegment links before None ks first last → IsSegment (with_prev links first to) to None ks first (end_after last first to)
unfolding IsSegment
segment_from links before [] first last to distinct s = (s.0, rw s.0 refl)
segment_from links before (k ∷ ks) first last to distinct s =
    let here = here_prev links first to k s.0 s.1 in
    let same : end_after last first to ≡ last = rw s.0 refl in
    let longer : length links ≤ length (with_prev links first to) = rw length-with_prev (omega arith) in (
      s.0,
      rw length-with_prev s.1,
      ap (λ (l : Link). l.prev) here,
      subst (λ n. IsSegment (with_prev links first to) (Some k) None ks n (end_after last first to)) (sym (ap (λ (l : Link). l.next) here))
          (subst (λ e. IsSegment (with_prev links first to) (Some k) None ks (link_at links k).next e) (sym same)
          (segment_kept links (with_prev links first to) (Some k) None ks (link_at links k).next last longer
          (λ j at within. other_prev links first to j (λ is. distinct.0 (subst (Contains ks) (sym (same_Some k j (sym s.0 ∙ is))) at))) s.3)),
    )

-- a segment is cut between two keys, and two are put together
pub record Halves (links : List Link) (before after : Option ℕ) (xs ys : List ℕ) (first last : Option ℕ) : Type 0 where
  pub middle : Option ℕ
  pub back : Option ℕ
  pub ahead : IsSegment links before middle xs first back
  pub behind : IsSegment links back after ys middle last

pub halves : (links : List Link) (before after : Option ℕ) (xs ys : List ℕ) (first last : Option ℕ) → IsSegment links before after (xs ++ ys) first last → Halves links before after xs ys first last
unfolding IsSegment
halves links before after [] ys first last s = record { middle = first; back = before; ahead = (refl, refl); behind = s }
halves links before after (k ∷ ks) ys first last s =
    let rest = halves links (Some k) after ks ys _ last s.3 in
    record { middle = rest.middle; back = rest.back; ahead = (s.0, s.1, s.2, rest.ahead); behind = rest.behind }

pub together : (links : List Link) (before middle back after : Option ℕ) (xs ys : List ℕ) (first last : Option ℕ) → IsSegment links before middle xs first back → IsSegment links back after ys middle last → IsSegment links before after (xs ++ ys) first last
unfolding IsSegment
together links before middle back after [] ys first last s t =
    subst (λ f. IsSegment links before after ys f last) (sym s.0)
    (subst (λ b. IsSegment links b after ys middle last) s.1 t)
together links before middle back after (k ∷ ks) ys first last s t =
    (s.0, s.1, s.2, together links (Some k) middle back after ks ys _ last s.3 t)
