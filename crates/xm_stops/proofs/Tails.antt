-- The end of a queue is sorted.
use Rattle.xm_rules.specs.declared.orders.Stop.{Stop}
use Rattle.std.proofs.Common.{◌≡◌, ℕ, ◌+◌, ◌-◌, ◌≤◌, List, ◌++◌, length, take, drop, sym, ap, ◌∙◌, subst, arith}
use Rattle.std.specs.List.Sorted.{IsNonDecreasingBy, IsPermutation}
use Rattle.std.proofs.lemmas.List.{drop-append-le, drop-drop, drop-take, length-drop, length-take, take-append-le, take_all}
use Rattle.std.proofs.lemmas.List.Sorted.{length_permutation}
use Rattle.std.proofs.lemmas.Slice.{take-put_mid}
use Rattle.xm_slots.specs.Listing.{time_of}
use Rattle.xm_stops.specs.Pending.{IsSortedBehind}
use Rattle.xm_slots.specs.declared.entry.Entry.{Entry}
use borrow.Rule.Slice.PartMut.{mid_of, put_mid, same_len_mid}

-- the queue is what is left of a list behind its head
module _ (xs ys : List (Entry Stop)) (head ahead : ℕ) (within : head + ahead ≤ length xs) (moved : IsPermutation (mid_of (head + ahead) (length xs - (head + ahead)) xs) ys) where
  abbrev a : ℕ
  a = head + ahead

  mid-is : mid_of a (length xs - a) xs ≡ drop a xs
  mid-is = take_all (length xs - a) (drop a xs) (omega (arith, length-drop a xs))

  as-long : length ys ≡ length xs - a
  as-long = omega (arith, length_permutation (mid_of a (length xs - a) xs) ys moved, ap length mid-is, length-drop a xs)

  abbrev put : List (Entry Stop)
  put = put_mid a (length xs - a) xs ys

  put-long : length put ≡ length xs
  put-long = same_len_mid a (length xs - a) xs ys (omega (arith, as-long, ap length mid-is, length-drop a xs))

  whole : (more : List (Entry Stop)) → take (length xs) (put ++ more) ≡ take a xs ++ ys
  whole more = take-append-le (length xs) put more (omega (arith, put-long)) ∙ take-put_mid a (length xs - a) xs ys (length xs) (omega (arith, as-long, within)) within

  behind-head : drop head (take a xs ++ ys) ≡ take ahead (drop head xs) ++ ys
  behind-head = drop-append-le head (take a xs) ys (omega (arith, length-take a xs, within)) ∙ ap (λ (l : List (Entry Stop)). l ++ ys) (drop-take head ahead xs)

  pub sorted-behind : (more : List (Entry Stop)) (n : ℕ) → n ≡ length xs → IsNonDecreasingBy time_of ys → IsSortedBehind ahead (drop head xs) (drop head (take n (put ++ more)))
  sorted-behind more n same up = record {
    behind = ys;
    kept = ap (λ (m : ℕ). drop head (take m (put ++ more))) same ∙ ap (drop head) (whole more) ∙ behind-head;
    same = subst (λ (l : List (Entry Stop)). IsPermutation l ys) (mid-is ∙ sym (drop-drop ahead head xs)) moved;
    sorted = up;
  }
