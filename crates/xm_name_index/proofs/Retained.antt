-- The names that a test leaves.
use Rattle.std.proofs.Common.{◌≡◌, ℕ, Bool, true, false, cond, List, [], ◌∷◌, Option, Some, None, nat_eq, eqb-true, refl, sym, subst, ap}
use Rattle.std.specs.List.{AllByRecursion, IsDistinct}
use Rattle.std.proofs.lemmas.Map.Keys.{IsDistinct-head, IsDistinct-tail}
use Rattle.std.specs.Map.{keys_of, lookup}
use Rattle.std.specs.Map.Calls.{RetainsPairs}
use Rattle.xm_name_index.specs.Names as names
use Rattle.xm_name_index.specs.Names.{NamesOfMember, Retains, key_among, key_of, names_of, reserved, reserved_among}

-- a key that no entry has isn't found
not_found : (k : ℕ) (es : List (ℕ × ℕ)) → AllByRecursion (λ y. nat_eq k y ≡ false) (keys_of es) → lookup (nat_eq k) es ≡ None
not_found k [] others = refl
not_found k (e ∷ es) others = rw others.0 (not_found k es others.1)

module _ (P : ℕ → Bool → Type 0) where
  left_first : (e : ℕ × ℕ) (es rest : List (ℕ × ℕ)) (k w : ℕ) (b : Bool) → P e.1 b → w ≡ e.1 → nat_eq k e.0 ≡ true → lookup (nat_eq k) rest ≡ None
      → Retains P (lookup (nat_eq k) (e ∷ es)) (lookup (nat_eq k) (cond b ((e.0, w) ∷ rest) rest))
  left_first e es rest k w true p same is none = rw is (true, p, ap (λ (n : ℕ). Some n) same)
  left_first e es rest k w false p same is none = rw is (false, p, none)

  left_later : (e : ℕ × ℕ) (es rest : List (ℕ × ℕ)) (k w : ℕ) (b : Bool) → nat_eq k e.0 ≡ false → Retains P (lookup (nat_eq k) es) (lookup (nat_eq k) rest)
      → Retains P (lookup (nat_eq k) (e ∷ es)) (lookup (nat_eq k) (cond b ((e.0, w) ∷ rest) rest))
  left_later e es rest k w true isnt later = rw isnt later
  left_later e es rest k w false isnt later = rw isnt later

  left_either : (e : ℕ × ℕ) (es rest : List (ℕ × ℕ)) (k w : ℕ) (b : Bool) → P e.1 b → w ≡ e.1 → AllByRecursion (λ y. nat_eq e.0 y ≡ false) (keys_of es)
      → Retains P (lookup (nat_eq k) es) (lookup (nat_eq k) rest) → Retains P (lookup (nat_eq k) (e ∷ es)) (lookup (nat_eq k) (cond b ((e.0, w) ∷ rest) rest))
  left_either e es rest k w b p same others later = by (nat_eq k e.0) refl
    where
      by : (c : Bool) → nat_eq k e.0 ≡ c → Retains P (lookup (nat_eq k) (e ∷ es)) (lookup (nat_eq k) (cond b ((e.0, w) ∷ rest) rest))
      by true is =
          let apart = subst (λ n. AllByRecursion (λ y. nat_eq n y ≡ false) (keys_of es)) (sym (eqb-true k e.0 is)) others in
          left_first e es rest k w b p same is (subst (λ o. Retains P o (lookup (nat_eq k) rest)) (not_found k es apart) later)
      by false isnt = left_later e es rest k w b isnt later

  module _ {F : Type 0} (T : F → ℕ → ℕ → Bool → ℕ → F → Type 0) (f : F)
      (says : (k v : ℕ) (b : Bool) (w : ℕ) (g : F) → T f k v b w g → P v b × (w ≡ v) × (g ≡ f)) where
    pub retained : (k : ℕ) (es kept : List (ℕ × ℕ)) → IsDistinct nat_eq (keys_of es) → RetainsPairs T f es kept → Retains P (lookup (nat_eq k) es) (lookup (nat_eq k) kept)
    retained k [] kept distinct h = ap (lookup (nat_eq k)) h
    retained k (e ∷ es) kept distinct h =
        let said = says e.0 e.1 h.0 h.1 h.2 h.4 in
        let later = retained k es h.3 (IsDistinct-tail nat_eq e.0 (keys_of es) distinct) (subst (λ g. RetainsPairs T g es h.3) said.2 h.5) in
        rw h.6 (left_either e es h.3 k h.1 h.0 said.0 said.1 (IsDistinct-head nat_eq e.0 (keys_of es) distinct) later)

-- what wasn't there isn't left
pub none-left : (P : ℕ → Bool → Type 0) (old left : Option ℕ) → old ≡ None → Retains P old left → left ≡ None
none-left P None left none h = h
none-left P (Some key) left none h = absurd (cc)

-- ---- the tables of all members

-- a member's table stays, with the keys that pass
abbrev IsTableLeft : (ℕ → Bool → Type 0) → Option NamesOfMember → Option NamesOfMember → Type 0
IsTableLeft P None left = left ≡ None
IsTableLeft P (Some t) left = (u : NamesOfMember) × (left ≡ Some u) × ((r : ℕ) → Retains P (key_of r t) (key_of r u))

keys-left : (P : ℕ → Bool → Type 0) (r : ℕ) (t u : Option NamesOfMember) → IsTableLeft P t u → Retains P (key_among r t) (key_among r u)
keys-left P r None u h = ap (key_among r) h
keys-left P r (Some t) u h = rw h.1 (h.2 r)

table-either : (P : ℕ → Bool → Type 0) (b : Bool) (t u : NamesOfMember) (ts us : Option NamesOfMember) → ((r : ℕ) → Retains P (key_of r t) (key_of r u)) → IsTableLeft P ts us
    → IsTableLeft P (cond b (Some t) ts) (cond b (Some u) us)
table-either P true t u ts us keys later = (u, refl, keys)
table-either P false t u ts us keys later = later

reserved-either : (b : Bool) (t u : NamesOfMember) (ts us : Option NamesOfMember) → u.reserved ≡ t.reserved → reserved_among us ≡ reserved_among ts → reserved_among (cond b (Some u) us) ≡ reserved_among (cond b (Some t) ts)
reserved-either true t u ts us same later = same
reserved-either false t u ts us same later = later

module _ {F : Type 0} (T : F → ℕ → NamesOfMember → Bool → NamesOfMember → F → Type 0) (f : F) where
  module _ (P : ℕ → Bool → Type 0)
      (says : (m : ℕ) (t : NamesOfMember) (b : Bool) (u : NamesOfMember) (g : F) → T f m t b u g → (b ≡ true) × ((r : ℕ) → Retains P (key_of r t) (key_of r u)) × (g ≡ f)) where
    table-left : (m : ℕ) (es kept : List (ℕ × NamesOfMember)) → RetainsPairs T f es kept → IsTableLeft P (names_of es m) (names_of kept m)
    table-left m [] kept h = ap (λ (ts : List (ℕ × NamesOfMember)). names_of ts m) h
    table-left m (e ∷ es) kept h =
        let said = says e.0 e.1 h.0 h.1 h.2 h.4 in
        let later = table-left m es h.3 (subst (λ g. RetainsPairs T g es h.3) said.2 h.5) in
        rw h.6 (rw said.0 (table-either P (nat_eq m e.0) e.1 h.1 (names_of es m) (names_of h.3 m) said.1 later))

    pub names-retained : (m r : ℕ) (es kept : List (ℕ × NamesOfMember)) → RetainsPairs T f es kept → Retains P (names.lookup es m r) (names.lookup kept m r)
    unfolding names.lookup
    names-retained m r es kept h = keys-left P r (names_of es m) (names_of kept m) (table-left m es kept h)

  module _ (says : (m : ℕ) (t : NamesOfMember) (b : Bool) (u : NamesOfMember) (g : F) → T f m t b u g → (b ≡ true) × (u.reserved ≡ t.reserved) × (g ≡ f)) where
    pub reserved-retained : (m : ℕ) (es kept : List (ℕ × NamesOfMember)) → RetainsPairs T f es kept → reserved kept m ≡ reserved es m
    unfolding reserved
    reserved-retained m [] kept h = ap (λ (ts : List (ℕ × NamesOfMember)). reserved_among (names_of ts m)) h
    reserved-retained m (e ∷ es) kept h =
        let said = says e.0 e.1 h.0 h.1 h.2 h.4 in
        let later = reserved-retained m es h.3 (subst (λ g. RetainsPairs T g es h.3) said.2 h.5) in
        rw h.6 (rw said.0 (reserved-either (nat_eq m e.0) e.1 h.1 (names_of es m) (names_of h.3 m) said.1 later))
