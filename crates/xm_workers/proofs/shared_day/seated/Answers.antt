use Rattle.std.proofs.Common.{rules, ◌≡◌, ℕ, suc, ◌+◌, ◌++◌, ◌∷◌, [], List, Some, length, ap, arith, sym, ◌∙◌, ⊎_elim}
use Rattle.std.specs.Prelude.{slice_get}
use Rattle.std.specs.Vec.Iter.{into_iter_items}
use Rattle.std.proofs.lemmas.List.{length-append}
use Rattle.std.proofs.lemmas.List.Sums.{sum_by_push}
use Rattle.xm_board.proofs.Prefixes.{get_push}
use Rattle.xm_workers.specs.Workers.{WorkerView, fresh_worker, taken_by, taken_in}
use Rattle.xm_rules.specs.declared.settings.DeskSettings.{DeskSettings}
use Rattle.xm_segment.specs.Ledgers.{accepted_in}
use Rattle.xm_segment.specs.Seats.{SeatView, fresh_seat}
use Rattle.xm_workers.proofs.shared_day.seated.Goals as goal

-- seats that are left, of which the first has this number
abbrev FreshFrom : List DeskSettings → ℕ → List SeatView → Type 0
FreshFrom settings from left = (i : ℕ) (seat : SeatView) → slice_get left i ≡ Some seat → seat ≡ fresh_seat settings (from + i)

first-left : (settings : List DeskSettings) (from : ℕ) (left rest : List SeatView) (seat : SeatView) → left ≡ seat ∷ rest → FreshFrom settings from left → seat ≡ fresh_seat settings from
first-left settings from left rest seat is fresh =
    let same : from + 0 ≡ from = omega arith in
    fresh 0 seat (ap (λ (ss : List SeatView). slice_get ss 0) is) ∙ ap (fresh_seat settings) same

rest-left : (settings : List DeskSettings) (from next : ℕ) (left rest : List SeatView) (seat : SeatView) → left ≡ seat ∷ rest → next ≡ from + 1 → FreshFrom settings from left → FreshFrom settings next rest
rest-left settings from next left rest seat is more fresh i s at =
    let same : from + suc i ≡ next + i = omega (arith, more) in
    fresh (suc i) s (ap (λ (ss : List SeatView). slice_get ss (suc i)) is ∙ at) ∙ ap (fresh_seat settings) same

worker-pushed : (settings : List DeskSettings) (ws : List WorkerView) (w : WorkerView) → ((n : ℕ) (v : WorkerView) → slice_get ws n ≡ Some v → v ≡ fresh_worker settings n) → w ≡ fresh_worker settings (length ws)
    → (n : ℕ) (v : WorkerView) → slice_get (ws ++ w ∷ []) n ≡ Some v → v ≡ fresh_worker settings n
worker-pushed settings ws w each is n v at =
    ⊎_elim (λ before. each n v before) (λ last. sym last.1 ∙ is ∙ ap (fresh_worker settings) (sym last.0)) (get_push ws w n v at)

pub loop-seat-init : goal.loop-seat-init
loop-seat-init g c =
    let none = c.in_ok-workers.ensures.items in
    let left : into_iter_items c.into_iter-seat-iterator.result ≡ c.args.seats.items = search rules in
    record {
      all = omega (arith, ap (λ (ws : List WorkerView). length ws) none, ap (λ (ss : List SeatView). length ss) left);
      each = λ number w at. absurd (let nothing : slice_get [] number ≡ Some w = ap (λ (ws : List WorkerView). slice_get ws number) (sym none) ∙ at in cc);
      left = λ i seat at.
          let same : i ≡ length c.in_ok-workers.workers.items + i = omega (arith, ap (λ (ws : List WorkerView). length ws) none) in
          c.requires.each i seat (ap (λ (ss : List SeatView). slice_get ss i) (sym left) ∙ at) ∙ ap (fresh_seat g.S.Naming.settings) same;
      none = ap taken_by none;
    }

pub new-requires : goal.new-requires
new-requires g c =
    let left : into_iter_items c.loop-seat.seat-iterator ≡ c.in-Some.seat ∷ into_iter_items c.next.new.self = search rules in
    let fresh = first-left g.S.Naming.settings (length c.loop-seat.workers.items) _ _ c.in-Some.seat left c.loop-seat.invariant.left in
    ap (λ (s : SeatView). accepted_in s.sums) fresh

pub loop-seat-preserved : goal.loop-seat-preserved
loop-seat-preserved g c =
    let settings = g.S.Naming.settings in
    let workers = c.loop-seat.workers.items in
    let left : into_iter_items c.loop-seat.seat-iterator ≡ c.in-Some.seat ∷ into_iter_items c.next.new.self = search rules in
    let pushed : c.push.new.self.items ≡ workers ++ c.new.result ∷ [] = search rules in
    let longer = ap (λ (ws : List WorkerView). length ws) pushed ∙ length-append workers (c.new.result ∷ []) in
    let fresh = first-left settings (length workers) _ _ c.in-Some.seat left c.loop-seat.invariant.left in
    let is = c.new.ensures ∙ ap (λ (s : SeatView). record { seat = s; report = record { accepted = 0; refused = 0 } }) fresh in
    let none = ap (λ (w : WorkerView). taken_in w.report) c.new.ensures in
    record {
      all = omega (arith, longer, ap (λ (ss : List SeatView). length ss) left, c.loop-seat.invariant.all);
      each = λ number w at. worker-pushed settings workers c.new.result c.loop-seat.invariant.each is number w (ap (λ (ws : List WorkerView). slice_get ws number) (sym pushed) ∙ at);
      left = rest-left settings (length workers) (length c.push.new.self.items) _ _ c.in-Some.seat left longer c.loop-seat.invariant.left;
      none = ap taken_by pushed ∙ omega (arith, sum_by_push (λ (w : WorkerView). taken_in w.report) workers c.new.result, none, c.loop-seat.invariant.none);
    }
