use Rattle.std.proofs.Common.{[], ◌∷◌, ap, subst}
use Rattle.std.specs.Prelude.{All}
use Rattle.xm_segment.proofs.Telling.{all-each}
use Rattle.xm_segment.specs.Watches.{HasOwn, RowView}
use Rattle.xm_segment.proofs.seat.WatchRow.number.Goals as goal

pub returns-clause-own : goal.returns-clause-own
returns-clause-own g c =
    let r = c.self.inside in
    let watches = r.w0 ∷ r.w1 ∷ r.w2 ∷ r.w3 ∷ r.w4 ∷ r.w5 ∷ r.w6 ∷ r.w7 ∷ [] in
    subst (All HasOwn) (ap (λ (row : RowView). row.watches) c.self.view_is)
    (all-each HasOwn watches (c.find_own.ensures, (c.find_own-2.ensures, (c.find_own-3.ensures, (c.find_own-4.ensures, (c.find_own-5.ensures, (c.find_own-6.ensures, (c.find_own-7.ensures, (c.find_own-8.ensures, tt)))))))))
