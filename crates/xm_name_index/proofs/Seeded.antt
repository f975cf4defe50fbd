-- The seed by which the tables of all members hash.
use Rattle.std.proofs.Common.{◌≡◌, ℕ, Bool, true, false, cond, ◌==◌, if◌then◌else◌, List, [], ◌∷◌, Option, Some, IfSome, nat_eq, sym, subst, ◌∙◌}
use Rattle.std.specs.Map.Calls.{RetainsPairs}
use Rattle.indexmap.specs.IndexMap.{IndexMap, IsUnique, set_value_at}
use Rattle.xm_name_index.proofs.Tables.{after}
use Rattle.xm_name_index.specs.Names.{HaveSeed, NamesOfMember, StandsAt, names_of}
use Rattle.xm_name_index.specs.declared.seed.Seed.{Seed}

module _ (seed : Seed) where
  abbrev HasSeed : Option NamesOfMember → Type 0
  HasSeed own = IfSome own (λ (x : NamesOfMember). x.table.seed ≡ seed)

  -- a member that is new has a table with the seed too
  pub seeded-more : (es es' : List (ℕ × NamesOfMember)) (k : ℕ) (x : NamesOfMember) → ((q : ℕ) → names_of es' q ≡ (if nat_eq k q then Some x else names_of es q)) → x.table.seed ≡ seed → HaveSeed seed es → HaveSeed seed es'
  seeded-more es es' k x updates same seeded q = subst HasSeed (sym (updates q)) (by (nat_eq k q))
    where
      by : (b : Bool) → HasSeed (if b then Some x else names_of es q)
      by true = same
      by false = seeded q

  -- ---- a test of the names of each member leaves the seed
  module _ {F : Type 0} (T : F → ℕ → NamesOfMember → Bool → NamesOfMember → F → Type 0) (f : F)
      (says : (m : ℕ) (t : NamesOfMember) (b : Bool) (u : NamesOfMember) (g : F) → T f m t b u g → (b ≡ true) × (u.table.seed ≡ t.table.seed) × (g ≡ f)) where
    either-has : (b : Bool) (t u : NamesOfMember) (ts us : Option NamesOfMember) → u.table.seed ≡ t.table.seed → (HasSeed ts → HasSeed us) → HasSeed (cond b (Some t) ts) → HasSeed (cond b (Some u) us)
    either-has true t u ts us same later has = same ∙ has
    either-has false t u ts us same later has = later has

    pub seed-retained : (m : ℕ) (es kept : List (ℕ × NamesOfMember)) → RetainsPairs T f es kept → HasSeed (names_of es m) → HasSeed (names_of kept m)
    seed-retained m [] kept h has = subst (λ (ts : List (ℕ × NamesOfMember)). HasSeed (names_of ts m)) (sym h) has
    seed-retained m (e ∷ es) kept h has =
        let said = says e.0 e.1 h.0 h.1 h.2 h.4 in
        let later = seed-retained m es h.3 (subst (λ g. RetainsPairs T g es h.3) said.2 h.5) in
        rw h.6 (rw said.0 (either-has (nat_eq m e.0) e.1 h.1 (names_of es m) (names_of h.3 m) said.1 later has))

-- ---- a table that stands among others
module _ {S : Type 0} (m : IndexMap ℕ NamesOfMember S) (member i : ℕ) (s : StandsAt m.entries member i) (seed : Seed) (seeded : HaveSeed seed m.entries) where
  own-seed : s.table.table.seed ≡ seed
  own-seed = subst (HasSeed seed) s.found (seeded member)

  pub seeded-with : IsUnique nat_eq m → (x : NamesOfMember) → x.table.seed ≡ s.table.table.seed → HaveSeed seed (set_value_at m.entries i x)
  seeded-with unique x same q = subst (HasSeed seed) (sym (after m member i s unique x q)) (by (q == member))
    where
      by : (b : Bool) → HasSeed seed (if b then Some x else names_of m.entries q)
      by true = same ∙ own-seed
      by false = seeded q
