-- Passes over rows: one row more.
use Rattle.std.proofs.Common.{◌≡◌, ℕ, suc, ◌+◌, ◌<◌, true, false, List, [], ◌∷◌, ◌++◌, take, length, get_or, filter, Some, refl, ap, sym, ◌∙◌, arith}
use Rattle.std.proofs.Math.Seq.{take-suc}
use Rattle.std.proofs.lemmas.List.{map-append}
use Rattle.std.proofs.lemmas.List.Elements.{filter-append}
use Rattle.xm_reasons.specs.RowRules.{better_than, group_prices, is_in_group, leader_from, leader_of, preferred_of}
use Rattle.xm_reasons.specs.Rules.{prices_of}
use Rattle.xm_reasons.specs.declared.candidates.Candidate.{Candidate}
use Rattle.xm_reasons.specs.declared.rules.Group.{Group}
use Rattle.xm_rules.specs.Sides.{best, best_from, better}
use Rattle.xm_rules.specs.declared.orders.Side.{Side}

pub taken-one : {X : Type 0} → (xs : List X) (k : ℕ) (x : X) → k < length xs → x ≡ get_or xs k x → take (k + 1) xs ≡ take k xs ++ x ∷ []
taken-one xs k x l e =
    let same : k + 1 ≡ suc k = omega arith in
    ap (λ (n : ℕ). take n xs) same ∙ take-suc xs k x l ∙ ap (λ (y : _). take k xs ++ y ∷ []) (sym e)

leader_from_push : (c : Candidate) (cs : List Candidate) (d : Candidate) → leader_from c (cs ++ d ∷ []) ≡ preferred_of (Some (leader_from c cs)) d
leader_from_push c [] d = refl
leader_from_push c (e ∷ cs) d = leader_from_push (preferred_of (Some c) e) cs d

pub leader-push : (rows : List Candidate) (row : Candidate) → leader_of (rows ++ row ∷ []) ≡ Some (preferred_of (leader_of rows) row)
leader-push [] row = refl
leader-push (c ∷ cs) row = ap (λ (d : Candidate). Some d) (leader_from_push c cs row)

best_from_push : (side : Side) (p : ℕ) (ps : List ℕ) (q : ℕ) → best_from side p (ps ++ q ∷ []) ≡ better side (best_from side p ps) q
best_from_push side p [] q = refl
best_from_push side p (r ∷ ps) q = best_from_push side (better side p r) ps q

best_push : (side : Side) (ps : List ℕ) (q : ℕ) → best side (ps ++ q ∷ []) ≡ Some (better_than side (best side ps) q)
best_push side [] q = refl
best_push side (p ∷ ps) q = ap (λ (r : ℕ). Some r) (best_from_push side p ps q)

module _ (leader : Candidate) (group : Group) (rows : List Candidate) (row : Candidate) where
  group_push : group_prices leader group (rows ++ row ∷ []) ≡ group_prices leader group rows ++ group_prices leader group (row ∷ [])
  group_push =
      ap prices_of (filter-append (is_in_group leader group) rows (row ∷ []))
      ∙ map-append (λ (c : Candidate). c.price) (filter (is_in_group leader group) rows) (filter (is_in_group leader group) (row ∷ []))

  pub best-in : (side : Side) → is_in_group leader group row ≡ true → best side (group_prices leader group (rows ++ row ∷ [])) ≡ Some (better_than side (best side (group_prices leader group rows)) row.price)
  best-in side e =
      let alone : group_prices leader group (row ∷ []) ≡ row.price ∷ [] = rw e refl in
      ap (best side) (group_push ∙ ap (λ (ps : List ℕ). group_prices leader group rows ++ ps) alone) ∙ best_push side (group_prices leader group rows) row.price

  pub best-out : (side : Side) → is_in_group leader group row ≡ false → best side (group_prices leader group (rows ++ row ∷ [])) ≡ best side (group_prices leader group rows)
  best-out side e =
      let none : group_prices leader group (row ∷ []) ≡ [] = rw e refl in
      ap (best side) (group_push ∙ ap (λ (ps : List ℕ). group_prices leader group rows ++ ps) none ∙ nothing_more (group_prices leader group rows)) where
        nothing_more : (ps : List ℕ) → ps ++ [] ≡ ps
        nothing_more [] = refl
        nothing_more (p ∷ ps) = ap (λ (l : List ℕ). p ∷ l) (nothing_more ps)
