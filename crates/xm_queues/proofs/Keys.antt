-- Where a key stands in a list of keys.
use Rattle.std.proofs.Common.{◌≡◌, ◌≢◌, ◌⊎◌, ℕ, zero, suc, ◌<◌, List, [], ◌∷◌, ◌++◌, length, not, ◌==◌, Contains, get_or, refl, sym, ap, ◌∙◌, subst, inl, inr, arith, eq-eqb, ne_eqb}
use Rattle.std.proofs.lemmas.Bool.{cases_eq, cond-true, cond-false, not_from_true, not_from_false}
use Rattle.std.proofs.lemmas.List.Elements.{Contains-append_left, Contains-append_right, Contains-append_cases, filter-append}
use Rattle.xm_queues.specs.Keys.{AreDistinct, AreApart, without}

pub Contains-here : (k : ℕ) (ks : List ℕ) → Contains (k ∷ ks) k
Contains-here k ks = (0, omega arith, refl)

pub Contains-there : (k : ℕ) (ks : List ℕ) (j : ℕ) → Contains ks j → Contains (k ∷ ks) j
Contains-there k ks j at = (suc at.0, (let within = at.1 in omega arith), at.2)

pub Contains-none : (j : ℕ) → Contains [] j → ⊥
Contains-none j at = let within = at.1 in omega arith

cases_at : (k : ℕ) (ks : List ℕ) (j i : ℕ) → i < length (k ∷ ks) → get_or (k ∷ ks) i j ≡ j → (k ≡ j) ⊎ Contains ks j
cases_at k ks j zero within same = inl same
cases_at k ks j (suc i) within same = inr (i, omega arith, same)

pub Contains-cases : (k : ℕ) (ks : List ℕ) (j : ℕ) → Contains (k ∷ ks) j → (k ≡ j) ⊎ Contains ks j
Contains-cases k ks j at = cases_at k ks j at.0 at.1 at.2

-- one more key at the end
pub AreDistinct-push : (ks : List ℕ) (key : ℕ) → AreDistinct ks → ¬ Contains ks key → AreDistinct (ks ++ key ∷ [])
AreDistinct-push [] key distinct absent = (λ at. Contains-none key at, tt)
AreDistinct-push (k ∷ ks) key distinct absent = (
  λ at.
      elim (Contains-append_cases ks (key ∷ []) k at) [
        | inl old ↦ distinct.0 old
        | inr new ↦
            elim (Contains-cases key [] k new) [
              | inl same ↦ absent (subst (Contains (k ∷ ks)) (sym same) (Contains-here k ks))
              | inr none ↦ Contains-none k none
            ]
      ],
  AreDistinct-push ks key distinct.1 (λ at. absent (Contains-there k ks key at)),
)

-- a key is where its list can be cut
pub record Cut (keys : List ℕ) (key : ℕ) : Type 0 where
  pub ahead : List ℕ
  pub behind : List ℕ
  pub is : keys ≡ ahead ++ key ∷ behind

cut_later : (k : ℕ) (ks : List ℕ) (key : ℕ) → Cut ks key → Cut (k ∷ ks) key
cut_later k ks key c = record { ahead = k ∷ c.ahead; behind = c.behind; is = ap (λ xs. k ∷ xs) c.is }

pub cut_at : (keys : List ℕ) (key : ℕ) → Contains keys key → Cut keys key
cut_at [] key at = absurd (Contains-none key at)
cut_at (k ∷ ks) key at =
    elim (Contains-cases k ks key at) [
      | inl same ↦ record { ahead = []; behind = ks; is = ap (λ j. j ∷ ks) same }
      | inr later ↦ cut_later k ks key (cut_at ks key later)
    ]

-- what is known of a list of distinct keys round one of them
pub record Parts (ahead : List ℕ) (key : ℕ) (behind : List ℕ) : Type 0 where
  pub ahead_distinct : AreDistinct ahead
  pub behind_distinct : AreDistinct behind
  pub not_ahead : ¬ Contains ahead key
  pub not_behind : ¬ Contains behind key
  pub apart : AreApart ahead behind
  pub left : AreDistinct (ahead ++ behind)

pub parts_of : (ahead : List ℕ) (key : ℕ) (behind : List ℕ) → AreDistinct (ahead ++ key ∷ behind) → Parts ahead key behind
parts_of [] key behind distinct =
    record {
      ahead_distinct = tt;
      behind_distinct = distinct.1;
      not_ahead = λ at. Contains-none key at;
      not_behind = distinct.0;
      apart = λ k at. absurd (Contains-none k at);
      left = distinct.1;
    }
parts_of (k ∷ ks) key behind distinct =
    let rest = parts_of ks key behind distinct.1 in
    let behind_not : ¬ Contains behind k =
    λ at. distinct.0 (Contains-append_right ks (key ∷ behind) k (Contains-there key behind k at)) in
    record {
      ahead_distinct = (λ at. distinct.0 (Contains-append_left ks (key ∷ behind) k at), rest.ahead_distinct);
      behind_distinct = rest.behind_distinct;
      not_ahead = λ at.
          elim (Contains-cases k ks key at) [
            | inl same ↦
                distinct.0 (Contains-append_right ks (key ∷ behind) k (subst (Contains (key ∷ behind)) (sym same) (Contains-here key behind)))
            | inr later ↦ rest.not_ahead later
          ];
      not_behind = rest.not_behind;
      apart = λ j at.
          elim (Contains-cases k ks j at) [
            | inl same ↦ λ there. behind_not (subst (Contains behind) (sym same) there)
            | inr later ↦ rest.apart j later
          ];
      left = (
        λ at. elim (Contains-append_cases ks behind k at) [
          | inl old ↦ distinct.0 (Contains-append_left ks (key ∷ behind) k old)
          | inr new ↦ behind_not new
        ],
        rest.left,
      );
    }

without_head : (k : ℕ) (ks : List ℕ) → without k (k ∷ ks) ≡ without k ks
without_head k ks = cond-false _ _ _ (not_from_true _ (eq-eqb k k refl))

without_past : (key k : ℕ) (ks : List ℕ) → k ≢ key → without key (k ∷ ks) ≡ k ∷ without key ks
without_past key k ks differs = cond-true _ _ _ (not_from_false _ (ne_eqb k key differs))

pub without_absent : (key : ℕ) (ks : List ℕ) → ¬ Contains ks key → without key ks ≡ ks
without_absent key [] absent = refl
without_absent key (k ∷ ks) absent =
    without_past key k ks (λ same. absent (subst (Contains (k ∷ ks)) same (Contains-here k ks)))
    ∙ ap (λ xs. k ∷ xs) (without_absent key ks (λ at. absent (Contains-there k ks key at)))

-- a key that stands once is cut out
pub without_cut : (ahead : List ℕ) (key : ℕ) (behind : List ℕ) → ¬ Contains ahead key → ¬ Contains behind key → without key (ahead ++ key ∷ behind) ≡ ahead ++ behind
without_cut ahead key behind not_ahead not_behind =
    filter-append (λ k. not (k == key)) ahead (key ∷ behind)
    ∙ ap (λ xs. xs ++ without key (key ∷ behind)) (without_absent key ahead not_ahead)
    ∙ ap (λ xs. ahead ++ xs) (without_head key behind ∙ without_absent key behind not_behind)

-- what is left holds the other keys
without_same : (key j : ℕ) (js : List ℕ) → j ≡ key → without key (j ∷ js) ≡ without key js
without_same key j js same = ap (λ i. without key (i ∷ js)) same ∙ without_head key js

pub record IsOther (ks : List ℕ) (key k : ℕ) : Type 0 where
  pub member : Contains ks k
  pub differs : k ≢ key

pub other_from_without : (key : ℕ) (ks : List ℕ) (k : ℕ) → Contains (without key ks) k → IsOther ks key k
other_from_without key [] k at = absurd (Contains-none k at)
other_from_without key (j ∷ js) k at =
    elim (cases_eq j key) [
      | inl same ↦
          let later = other_from_without key js k (subst (λ ks. Contains ks k) (without_same key j js same) at) in
          record { member = Contains-there j js k later.member; differs = later.differs }
      | inr differs ↦
          elim (Contains-cases j (without key js) k (subst (λ ks. Contains ks k) (without_past key j js differs) at)) [
            | inl here ↦
                record { member = subst (Contains (j ∷ js)) here (Contains-here j js); differs = λ same. differs (here ∙ same) }
            | inr there ↦
                let later = other_from_without key js k there in
                record { member = Contains-there j js k later.member; differs = later.differs }
          ]
    ]

pub without_from_other : (key : ℕ) (ks : List ℕ) (k : ℕ) → Contains ks k → k ≢ key → Contains (without key ks) k
without_from_other key [] k at differs = absurd (Contains-none k at)
without_from_other key (j ∷ js) k at differs =
    elim (cases_eq j key) [
      | inl same ↦
          subst (λ ks. Contains ks k) (sym (without_same key j js same))
          (elim (Contains-cases j js k at) [
            | inl here ↦ absurd (differs (sym here ∙ same))
            | inr there ↦ without_from_other key js k there differs
          ])
      | inr past ↦
          subst (λ ks. Contains ks k) (sym (without_past key j js past))
          (elim (Contains-cases j js k at) [
            | inl here ↦ subst (Contains (j ∷ without key js)) here (Contains-here j (without key js))
            | inr there ↦ Contains-there j (without key js) k (without_from_other key js k there differs)
          ])
    ]
