-- The places that are noted of members.
use Rattle.std.proofs.Common.{◌≡◌, ℕ, ◌+◌, ◌<◌, ◌≤◌, Bool, true, false, cond, if◌then◌else◌, List, [], ◌∷◌, Option, Some, None, IfSome, nat_eq, eq-eqb, position, length, replicate, refl, sym, subst, ap, ◌∙◌, arith}
use Rattle.std.proofs.lemmas.Iterator.Adapters.{position_from-zero}
use Rattle.std.proofs.lemmas.List.{get_or-replicate, length-replicate}
use Rattle.std.proofs.lemmas.Option.{get_or_from_slice_get, none-some, slice_get_within}
use Rattle.std.proofs.lemmas.Map.Entries.{length-keys_of}
use Rattle.std.specs.List.{position_from}
use Rattle.std.specs.Map.{keys_of}
use Rattle.std.specs.Map.Calls.{RetainsPairs}
use Rattle.indexmap.specs.IndexMap.{IndexMap, insert_entry, set_value_at}
use Rattle.indexmap.proofs.CallerLemmas.{keys-with_value_at}
use Rattle.indexmap.proofs.MapLemmas.{value_index}
use Rattle.xm_name_index.proofs.Tables.{stands-if}
use Rattle.xm_name_index.specs.declared.members.TheConstants.{NOWHERE}
use Rattle.xm_name_index.specs.Names.{AreNoted, NamesOfMember, StandsAt, names_of}

-- where nothing is noted yet
pub none-noted : (members : List ℕ) (n : ℕ) → length members ≤ NOWHERE → AreNoted (replicate n NOWHERE) members
none-noted members n few = record {
  few = few;
  own = λ member place at somewhere.
      let within : member < n = omega (arith, slice_get_within (replicate n NOWHERE) member place at, length-replicate n NOWHERE) in
      absurd (somewhere (sym (get_or_from_slice_get (replicate n NOWHERE) member place place at) ∙ get_or-replicate n member NOWHERE place within));
}

-- where no member has had a name
pub no-member : AreNoted [] []
no-member = none-noted [] 0 (omega arith)

-- a place that is noted is that of a table
pub stands-there : (es : List (ℕ × NamesOfMember)) (member place : ℕ) → position (nat_eq member) (keys_of es) ≡ Some place → StandsAt es member place
stands-there es member place at =
    let values = value_index (nat_eq member) es in
    subst (λ (o : Option ℕ). IfSome o (StandsAt es member)) at (stands-if es member (position (nat_eq member) (keys_of es)) refl values)

-- another table at a position leaves all in their places
pub noted-with : {S : Type 0} (places : List ℕ) (m : IndexMap ℕ NamesOfMember S) (i : ℕ) (x : NamesOfMember) → AreNoted places (keys_of m.entries) → AreNoted places (keys_of (set_value_at m.entries i x))
noted-with places m i x noted = subst (AreNoted places) (sym (keys-with_value_at m i x)) noted

-- ---- a member that is new goes last
module _ (k : ℕ) (v : NamesOfMember) where
  earlier : (t : ℕ → Bool) (es : List (ℕ × NamesOfMember)) (n i : ℕ) → position_from t n (keys_of es) ≡ Some i → position_from t n (keys_of (insert_entry nat_eq es k v)) ≡ Some i
  earlier t [] n i at = absurd (none-some i at)
  earlier t (e ∷ es) n i at = by (nat_eq k e.0) (next (t e.0) (earlier t es (n + 1) i) at)
    where
      next : (b : Bool) → (position_from t (n + 1) (keys_of es) ≡ Some i → position_from t (n + 1) (keys_of (insert_entry nat_eq es k v)) ≡ Some i)
          → cond b (Some n) (position_from t (n + 1) (keys_of es)) ≡ Some i → cond b (Some n) (position_from t (n + 1) (keys_of (insert_entry nat_eq es k v))) ≡ Some i
      next true later at = at
      next false later at = later at

      by : (b : Bool) → position_from t n (keys_of (e ∷ insert_entry nat_eq es k v)) ≡ Some i → position_from t n (keys_of (if b then (e.0, v) ∷ es else e ∷ insert_entry nat_eq es k v)) ≡ Some i
      by true later = at
      by false later = later

  last : (es : List (ℕ × NamesOfMember)) (n : ℕ) → names_of es k ≡ None → position_from (nat_eq k) n (keys_of (insert_entry nat_eq es k v)) ≡ Some (n + length es)
  last [] n none = rw (eq-eqb k k refl) (ap (λ (i : ℕ). Some i) (omega arith))
  last (e ∷ es) n none = by (nat_eq k e.0) refl none (last es (n + 1))
    where
      by : (b : Bool) → nat_eq k e.0 ≡ b → cond b (Some e.1) (names_of es k) ≡ None → (names_of es k ≡ None → position_from (nat_eq k) (n + 1) (keys_of (insert_entry nat_eq es k v)) ≡ Some (n + 1 + length es))
          → position_from (nat_eq k) n (keys_of (if b then (e.0, v) ∷ es else e ∷ insert_entry nat_eq es k v)) ≡ Some (n + length (e ∷ es))
      by true same none later = absurd (none-some e.1 (sym none))
      by false other none later = rw other (later none ∙ ap (λ (i : ℕ). Some i) (omega arith))

  one-more : (es : List (ℕ × NamesOfMember)) → length (keys_of (insert_entry nat_eq es k v)) ≤ length (keys_of es) + 1
  one-more [] = omega arith
  one-more (e ∷ es) = by (nat_eq k e.0) (one-more es)
    where
      by : (b : Bool) → length (keys_of (insert_entry nat_eq es k v)) ≤ length (keys_of es) + 1 → length (keys_of (if b then (e.0, v) ∷ es else e ∷ insert_entry nat_eq es k v)) ≤ length (keys_of (e ∷ es)) + 1
      by true later = omega arith
      by false later = omega (arith, later)

  module _ (es : List (ℕ × NamesOfMember)) where
    from-start : (t : ℕ → Bool) (ks : List ℕ) → position t ks ≡ position_from t 0 ks
    from-start t ks = position_from-zero t ks

    pub noted-before : (places : List ℕ) → length es < NOWHERE → AreNoted places (keys_of es) → AreNoted places (keys_of (insert_entry nat_eq es k v))
    noted-before places few noted = record {
      few = omega (arith, few, one-more es, length-keys_of es);
      own = λ member place at somewhere.
          from-start (nat_eq member) _ ∙ earlier (nat_eq member) es 0 place (sym (from-start (nat_eq member) (keys_of es)) ∙ noted.own member place at somewhere);
    }

    pub new-last : names_of es k ≡ None → position (nat_eq k) (keys_of (insert_entry nat_eq es k v)) ≡ Some (length es)
    new-last none = from-start (nat_eq k) _ ∙ last es 0 none ∙ ap (λ (i : ℕ). Some i) (omega arith)

-- ---- a test of the names of each member leaves all in their places
module _ {F : Type 0} (T : F → ℕ → NamesOfMember → Bool → NamesOfMember → F → Type 0) (f : F)
    (says : (m : ℕ) (t : NamesOfMember) (b : Bool) (u : NamesOfMember) (g : F) → T f m t b u g → (b ≡ true) × (g ≡ f)) where
  pub members-retained : (es kept : List (ℕ × NamesOfMember)) → RetainsPairs T f es kept → keys_of kept ≡ keys_of es
  members-retained [] kept h = ap keys_of h
  members-retained (e ∷ es) kept h =
      let said = says e.0 e.1 h.0 h.1 h.2 h.4 in
      let later = members-retained es h.3 (subst (λ g. RetainsPairs T g es h.3) said.1 h.5) in
      rw h.6 (rw said.0 (ap (λ (ks : List ℕ). e.0 ∷ ks) later))
