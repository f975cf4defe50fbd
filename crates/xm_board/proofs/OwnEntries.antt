-- Where own entries stand.
use Rattle.std.proofs.Common.{◌≡◌, ◌≢◌, ℕ, zero, suc, ◌-◌, ◌<◌, List, [], ◌∷◌, Some, slice_get, ap, sym, ◌∙◌, subst, arith}
use Rattle.xm_board.specs.Journals.{Begins, HasOwnEntries, Own}
use Rattle.xm_board.specs.declared.journal.Entry.{Entry}
use Rattle.xm_board.specs.declared.journal.NumberedJournal.{NumberedJournal}
use Rattle.xm_board.specs.declared.watch.Known.{Known}
use Rattle.xm_board.proofs.Prefixes.{prefix_get}

pub own-stands : (number : ℕ) (seen : List Entry) (from : ℕ) (own : List (ℕ × Entry)) (k : ℕ) (x : ℕ × Entry) → Own number seen from own → slice_get own k ≡ Some x
    → (from < x.0) × (slice_get seen (x.0 - 1) ≡ Some x.1) × (x.1.number ≡ number)
own-stands number seen from [] k x h at = absurd cc
own-stands number seen from (m ∷ ms) zero x h at =
    let same : m ≡ x = cc in subst (λ (y : ℕ × Entry). (from < y.0) × (slice_get seen (y.0 - 1) ≡ Some y.1) × (y.1.number ≡ number)) same (h.0, h.1, h.2)
own-stands number seen from (m ∷ ms) (suc k) x h at =
    let r = own-stands number seen m.0 ms k x h.3 at in let l = h.0 in let m = r.0 in (omega arith, r.1, r.2)

-- those of two watches with two numbers stand at different versions of a journal of which both have seen a beginning
pub apart : (j : NumberedJournal) (a b : Known) → HasOwnEntries a → HasOwnEntries b → Begins a.seen j → Begins b.seen j → a.number ≢ b.number → (k l : ℕ) (x y : ℕ × Entry)
    → slice_get a.own_entries k ≡ Some x → slice_get b.own_entries l ≡ Some y → x.0 ≢ y.0
apart j a b of_a of_b begins_a begins_b other k l x y at_k at_l same =
    let s = own-stands a.number a.seen.entries 0 a.own_entries k x of_a at_k in
    let t = own-stands b.number b.seen.entries 0 b.own_entries l y of_b at_l in
    let first : slice_get j.entries (x.0 - 1) ≡ Some x.1 = prefix_get a.seen.entries j.entries (x.0 - 1) x.1 begins_a.1 s.1 in
    let second : slice_get j.entries (y.0 - 1) ≡ Some y.1 = prefix_get b.seen.entries j.entries (y.0 - 1) y.1 begins_b.1 t.1 in
    let both : Some x.1 ≡ Some y.1 = sym first ∙ (ap (λ (v : ℕ). slice_get j.entries (v - 1)) same ∙ second) in
    let entry : x.1 ≡ y.1 = cc in
    other (sym s.2 ∙ (ap (λ (e : Entry). e.number) entry ∙ t.2))
