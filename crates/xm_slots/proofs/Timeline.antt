-- What a change leaves of the list.
use Rattle.std.proofs.Common.{◌≡◌, ℕ, List, [], ◌∷◌, ◌++◌, filter, map, sym, ap, ◌∙◌}
use Rattle.std.specs.declared.snapshot.Snapshot.{Snapshot}
use Rattle.xm_slots.specs.Listing.{is_other_key, replaced_by}
use Rattle.xm_slots.specs.Timeline.{list_after, listing_of}
use Rattle.xm_slots.specs.declared.listing.Change.{Change, fold-Change, fold-roll-Change}
use Rattle.xm_slots.specs.declared.listing.Change.TheOpen as open'
use Rattle.xm_slots.specs.declared.listing.Change.TheVariants.{Nothing, Joined, Left, Replaced, rolls-Nothing, rolls-Joined, rolls-Left, rolls-Replaced}
use Rattle.xm_slots.specs.declared.listing.Listed.{Listed}

module _ {I : Type 0} where
  pub listed-nothing : listing_of {I = I} Nothing ≡ []
  unfolding listing_of
  listed-nothing = ap (fold-Change I (List (Listed I)) list_after) (sym rolls-Nothing) ∙ fold-roll-Change I (List (Listed I)) list_after open'.Nothing

  -- where the snapshots show a value and what was before
  pub listed-joined : (shown : Snapshot (Listed I)) (before : Snapshot (Change I)) (x : Listed I) (c : Change I) → shown.value ≡ x → before.value ≡ c → listing_of (Joined shown before) ≡ listing_of c ++ x ∷ []
  unfolding listing_of
  listed-joined shown before x c e f =
      ap (fold-Change I (List (Listed I)) list_after) (sym (rolls-Joined shown before)) ∙ fold-roll-Change I (List (Listed I)) list_after (open'.Joined shown before) ∙ (λ i. fold-Change I (List (Listed I)) list_after (f i) ++ e i ∷ [])

  pub listed-left : (shown : Snapshot ℕ) (before : Snapshot (Change I)) (key : ℕ) (c : Change I) → shown.value ≡ key → before.value ≡ c → listing_of (Left shown before) ≡ filter (is_other_key key) (listing_of c)
  unfolding listing_of
  listed-left shown before key c e f =
      ap (fold-Change I (List (Listed I)) list_after) (sym (rolls-Left shown before)) ∙ fold-roll-Change I (List (Listed I)) list_after (open'.Left shown before) ∙ (λ i. filter (is_other_key (e i)) (fold-Change I (List (Listed I)) list_after (f i)))

  pub listed-replaced : (shown : Snapshot (Listed I)) (before : Snapshot (Change I)) (x : Listed I) (c : Change I) → shown.value ≡ x → before.value ≡ c → listing_of (Replaced shown before) ≡ map (replaced_by x) (listing_of c)
  unfolding listing_of
  listed-replaced shown before x c e f =
      ap (fold-Change I (List (Listed I)) list_after) (sym (rolls-Replaced shown before)) ∙ fold-roll-Change I (List (Listed I)) list_after (open'.Replaced shown before) ∙ (λ i. map (replaced_by (e i)) (fold-Change I (List (Listed I)) list_after (f i)))
