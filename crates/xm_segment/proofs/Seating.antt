-- Seats and rows with numbers in order.
use Rattle.std.proofs.Common.{◌≡◌, ◌⊎◌, ℕ, zero, suc, ◌+◌, List, [], ◌∷◌, ◌++◌, length, Some, refl, sym, ap, ◌∙◌, arith, inl, inr, ⊎_elim}
use Rattle.std.specs.Prelude.{slice_get}
use Rattle.std.proofs.lemmas.List.{length-append}
use Rattle.xm_rules.specs.declared.settings.DeskSettings.{DeskSettings}
use Rattle.xm_segment.specs.Seats.{AreRows, AreSeats, SeatView, fresh_seat}
use Rattle.xm_segment.specs.Watches.{RowView, fresh_row}

pub get-push : {A : Type 0} (xs : List A) (x : A) (i : ℕ) (y : A) → slice_get (xs ++ x ∷ []) i ≡ Some y → (slice_get xs i ≡ Some y) ⊎ ((i ≡ length xs) × (y ≡ x))
get-push [] x zero y e = inr (refl, cc)
get-push [] x (suc i) y e = absurd (cc)
get-push (z ∷ zs) x zero y e = inl e
get-push (z ∷ zs) x (suc i) y e = ⊎_elim (λ l. inl l) (λ r. inr (omega (arith, r.0), r.1)) (get-push zs x i y e)

pub seats-more : (settings : List DeskSettings) (n : ℕ) (seats : List SeatView) (seat : SeatView) → AreSeats settings n seats → seat ≡ fresh_seat settings n → AreSeats settings (n + 1) (seats ++ seat ∷ [])
seats-more settings n seats seat are is =
    record {
      all = omega (arith, length-append seats (seat ∷ []), are.all);
      each = λ i other at. ⊎_elim (λ before. are.each i other before) (λ last. last.1 ∙ is ∙ ap (fresh_seat settings) (sym (last.0 ∙ are.all))) (get-push seats seat i other at);
    }

pub rows-more : (settings : List DeskSettings) (first n : ℕ) (rows : List RowView) (row : RowView) → AreRows settings first n rows → row ≡ fresh_row settings (first + n) → AreRows settings first (n + 1) (rows ++ row ∷ [])
rows-more settings first n rows row are is =
    record {
      all = omega (arith, length-append rows (row ∷ []), are.all);
      each = λ i other at. ⊎_elim (λ before. are.each i other before) (λ last. last.1 ∙ is ∙ ap (λ (k : ℕ). fresh_row settings (first + k)) (sym (last.0 ∙ are.all))) (get-push rows row i other at);
    }

pub none-there : {A : Type 0} (i : ℕ) (x : A) → slice_get [] i ≡ Some x → ⊥
none-there i x at = cc
