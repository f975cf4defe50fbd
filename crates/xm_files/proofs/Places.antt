-- The places of names in their list, as a map keeps them.
use Rattle.std.proofs.Common.{◌≡◌, ℕ, ◌+◌, ◌<◌, ◌≤◌, Bool, true, false, not, cond, List, [], ◌∷◌, ◌++◌, length, length-append, Option, Some, None, String, Global, string_bytes, eqb, nat_lt, refl, sym, ap, ◌∙◌, subst, arith}
use Rattle.std.specs.BTreeMap.{BTreeMap, UpdatesBy, get_by_text}
use Rattle.std.specs.List.{list_any, position_or_len, position}
use Rattle.std.specs.Prelude.{is_some}
use Rattle.std.specs.Str.{bytes_eq}
use Rattle.std.specs.String.{string_cmp}
use Rattle.std.proofs.lemmas.Bool.Decides.{nat_tests}
use Rattle.std.proofs.lemmas.List.Folds.{position_or_len_push}
use Rattle.std.proofs.lemmas.Map.Text.{btree_map_updates_text}
use Rattle.std.proofs.lemmas.Slice.Eq.{bytes_eq-Decides}
use Rattle.xm_files.proofs.NameFacts.{no-position, none-prefix, prefix-within}
use Rattle.xm_files.specs.Names.{ArePlaces, is_among}

-- ---- whether there is a place
module _ {A : Type 0} (p : A → Bool) where
  within-one : (x : A) (xs : List A) (b : Bool) → p x ≡ b → (list_any p xs ≡ true → position_or_len p xs < length xs) → list_any p (x ∷ xs) ≡ true → position_or_len p (x ∷ xs) < length (x ∷ xs)
  within-one x xs true e rest some = rw e (omega arith)
  within-one x xs false e rest some = rw e (let l = rest (rw e at some) in omega arith)

  any-within : (xs : List A) → list_any p xs ≡ true → position_or_len p xs < length xs
  any-within [] some = cc
  any-within (x ∷ xs) some = within-one x xs (p x) refl (any-within xs) some

  placed-if : (n m : ℕ) → n < m → is_some (cond (nat_lt n m) (Some n) None) ≡ true
  placed-if n m l = let within : nat_lt n m ≡ true = grind (arith, nat_tests) in rw within refl

  has-if : (xs : List A) (b : Bool) → list_any p xs ≡ b → is_some (position p xs) ≡ b
  has-if xs true some = placed-if (position_or_len p xs) (length xs) (any-within xs some)
  has-if xs false none = ap is_some (no-position p xs none)

  pub has-position : (xs : List A) → is_some (position p xs) ≡ list_any p xs
  has-position xs = has-if xs (list_any p xs) refl

-- ---- the places where a new name goes last
last-place : (n m : ℕ) → n ≡ m → cond (nat_lt (cond (eqb n m) (m + 0) n) (m + 1)) (Some (cond (eqb n m) (m + 0) n)) None ≡ Some m
last-place n m e = grind (arith, nat_tests)

other-place : (n m : ℕ) → n ≤ m → cond (nat_lt (cond (eqb n m) (m + 1) n) (m + 1)) (Some (cond (eqb n m) (m + 1) n)) None ≡ cond (nat_lt n m) (Some n) None
other-place n m l = grind (arith, nat_tests)

module _ (names : List (List ℕ)) (name : List ℕ) (none : is_among name names ≡ false) where
  pushed : (other : List ℕ) → position (bytes_eq other) (names ++ name ∷ [])
      ≡ (let n = position_or_len (bytes_eq other) names in let m = length names in let k = cond (eqb n m) (m + cond (bytes_eq other name) 0 1) n in cond (nat_lt k (m + 1)) (Some k) None)
  pushed other = rw (position_or_len_push (bytes_eq other) names name, length-append names (name ∷ [])) refl

  place-if : (other : List ℕ) (b : Bool) → bytes_eq name other ≡ b → position (bytes_eq other) (names ++ name ∷ []) ≡ cond b (Some (length names)) (position (bytes_eq other) names)
  place-if other true e =
      let same : name ≡ other = (bytes_eq-Decides name other).0 e in
      subst (λ (o : List ℕ). position (bytes_eq o) (names ++ name ∷ []) ≡ Some (length names)) same
      (pushed name ∙ rw ((bytes_eq-Decides name name).1 refl) (last-place (position_or_len (bytes_eq name) names) (length names) (none-prefix (bytes_eq name) names none)))
  place-if other false e = pushed other ∙ rw (apart (bytes_eq other name) refl) (other-place (position_or_len (bytes_eq other) names) (length names) (prefix-within (λ x. not (bytes_eq other x)) names))
    where
      apart : (b : Bool) → bytes_eq other name ≡ b → bytes_eq other name ≡ false
      apart true h = absurd (let back : bytes_eq name other ≡ true = (bytes_eq-Decides name other).1 (sym ((bytes_eq-Decides other name).0 h)) in cc)
      apart false h = h

  -- the map with the new name's place has the places of all
  pub places-push : (before after : BTreeMap (String Global) ℕ) (key : String Global) → string_bytes key ≡ name → ArePlaces names before
      → UpdatesBy string_cmp (string_cmp key) before after (Some (length names)) → ArePlaces (names ++ name ∷ []) after
  places-push before after key is are updates other =
      btree_map_updates_text (string_bytes key) before after (Some (length names)) updates other
      ∙ ap (λ (n : List ℕ). cond (bytes_eq n other) (Some (length names)) (get_by_text before other)) is
      ∙ ap (λ (o : Option ℕ). cond (bytes_eq name other) (Some (length names)) o) (are other)
      ∙ sym (place-if other (bytes_eq name other) refl)
