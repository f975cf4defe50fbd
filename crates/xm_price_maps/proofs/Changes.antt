-- A change of one bit, and of the places that stand for its word.
use Rattle.std.proofs.Common.{◌≡◌, ◌≢◌, ◌↔◌, ℕ, ◌+◌, ◌/◌, ◌%◌, ◌<◌, ◌≤◌, List, ◌∙◌, ap, sym, inl, inr, arith}
use Rattle.std.specs.Int.{bit_at}
use Rattle.std.proofs.lemmas.Bool.{cases_eq}
use Rattle.std.proofs.lemmas.Nat.Bits.{bit_at-zero}
use Rattle.xm_price_maps.specs.Words.{word}
use Rattle.xm_price_maps.specs.Marks.{mark, IsPut, IsMarkReady, IsChanged, IsTied}
use Rattle.xm_price_maps.proofs.Stored.{same_room}
use Rattle.xm_price_maps.specs.declared.marks.TheConstants.{PLACES, ROOT, UPPER}

module _ (old new : List (List ℕ)) (p v : ℕ) (small : p < PLACES) (ready : IsMarkReady old p v) (put : IsPut old new p v) where
  top : (j : ℕ) → PLACES ≤ j → mark new j ≡ 0
  top j beyond = put.same j (λ e. omega arith) ∙ ready.top j beyond

  -- each other word is tied
  tied : (w : ℕ) → w < ROOT → w ≢ p / 64 → IsTied new w
  tied w below differs =
      elim (cases_eq (UPPER + w) p) [
        | inl same ↦ rw (same, put.marked, put.others w differs) (ready.stands w same)
        | inr apart ↦ rw (put.same (UPPER + w) apart, put.others w differs) (ready.tied w below apart)
      ]

  -- a word of which a bit has been set has a bit
  used : v ≡ 1 → 0 < word new (p / 64)
  used one =
      elim (cases_eq (word new (p / 64)) 0) [
        | inl none ↦ absurd (let bit = sym put.marked ∙ ap (λ (n : ℕ). bit_at n (p % 64)) none ∙ bit_at-zero (p % 64) in omega arith)
        | inr some ↦ omega arith
      ]

  -- nothing above has to change
  pub changed_last : (p / 64 < ROOT → (word old (p / 64) ≡ 0) ↔ (word new (p / 64) ≡ 0)) → IsChanged old new p v
  changed_last stayed = record {
    sound = record {
      tied = λ w below.
          elim (cases_eq w (p / 64)) [
            | inl same ↦
                let apart : UPPER + w ≢ p = λ e. omega arith in
                let before : IsTied old (p / 64) = rw same at (ready.tied w below apart) in
                let place = rw same at (put.same (UPPER + w) apart) in
                let both = stayed (omega arith) in
                rw (same, place)
                (record {
                  used = λ m.
                      elim (cases_eq (word new (p / 64)) 0) [
                        | inl none ↦ absurd (let some = before.used m in let clear = both.1 none in omega arith)
                        | inr some ↦ omega arith
                      ];
                  empty = λ m. both.0 (before.empty m);
                })
            | inr differs ↦ tied w below differs
          ];
      top = top;
    };
    marked = put.marked;
    same = λ j e differs. put.same j differs;
    others = λ w low differs. put.others w differs;
    shape = put.shape;
  }

  module _ (below : p / 64 < ROOT) where
    pub ready_up : (0 < word new (p / 64) → word old (p / 64) ≡ 0) → IsMarkReady new (UPPER + p / 64) v
    ready_up turned = record {
      there = same_room old new put.shape ((UPPER + p / 64) / 64) (ready.upper ((UPPER + p / 64) / 64) (omega arith) (omega arith));
      upper = λ w high within. same_room old new put.shape w (ready.upper w high within);
      tied = λ w within differs. tied w within (λ e. differs (omega arith));
      top = top;
      stands = λ w e.
          let same : w ≡ p / 64 = omega arith in
          rw same
          (record {
            used = used;
            empty = λ clear.
                elim (cases_eq (word new (p / 64)) 0) [
                  | inl none ↦ none
                  | inr some ↦ put.empty clear (turned (omega arith))
                ];
          });
    }

    pub changed_up : (next : List (List ℕ)) → IsChanged new next (UPPER + p / 64) v → IsChanged old next p v
    changed_up next up =
        let here : word next (p / 64) ≡ word new (p / 64) = up.others (p / 64) (omega arith) (λ e. omega arith) in
        record {
          sound = up.sound;
          marked = ap (λ (n : ℕ). bit_at n (p % 64)) here ∙ put.marked;
          same = λ j e differs.
              let moved : mark next j ≡ mark new j = rw e (ap (λ (n : ℕ). bit_at n (j % 64)) here) in
              moved ∙ put.same j differs;
          others = λ w low differs. up.others w (omega arith) (λ e. omega arith) ∙ put.others w differs;
          shape = record { len = up.shape.len ∙ put.shape.len; pages = λ i. up.shape.pages i ∙ put.shape.pages i };
        }
