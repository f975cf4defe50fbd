use Rattle.std.proofs.Common.{[], ◌∷◌, ◌∙◌, List, Option, ap, map, sym, subst, take}
use Rattle.std.proofs.lemmas.List.{take_all}
use Rattle.std.specs.Prelude.{slice_get}
use Rattle.xm_board.specs.Journals.{unnumbered}
use Rattle.xm_board.specs.declared.journal.NumberedJournal.{NumberedJournal}
use Rattle.xm_rules.specs.Step.{Journal}
use Rattle.xm_rules.specs.declared.settings.DeskSettings.{DeskSettings}
use Rattle.xm_segment.proofs.Telling.{desks-are}
use Rattle.xm_segment.specs.Gathering.{EachGathered}
use Rattle.xm_segment.specs.Ledgers.{SharedRow, Sums}
use Rattle.xm_segment.specs.Unlocked.{journals_in, with_desk}
use Rattle.xm_segment.proofs.gathered.Gathered.with_desks.Goals as goal

pub returns-clause-each : goal.returns-clause-each
returns-clause-each g c =
    let settings = g.S.Naming.settings in
    let all = c.args.shares.sums in
    let sums = ap (λ (r : SharedRow). r.sums) c.shares.view_is in
    let begun : EachGathered (take 0 settings) all c.args.self.desks.items = subst (EachGathered [] all) (sym c.requires.none) tt in
    let one = c.put.ensures.each all (ap (λ (ss : List Sums). slice_get ss 0) (sym sums)) begun in
    let two = c.put-2.ensures.each all (ap (λ (ss : List Sums). slice_get ss 1) (sym sums)) one in
    let three = c.put-3.ensures.each all (ap (λ (ss : List Sums). slice_get ss 2) (sym sums)) two in
    let four = c.put-4.ensures.each all (ap (λ (ss : List Sums). slice_get ss 3) (sym sums)) three in
    let five = c.put-5.ensures.each all (ap (λ (ss : List Sums). slice_get ss 4) (sym sums)) four in
    let six = c.put-6.ensures.each all (ap (λ (ss : List Sums). slice_get ss 5) (sym sums)) five in
    let seven = c.put-7.ensures.each all (ap (λ (ss : List Sums). slice_get ss 6) (sym sums)) six in
    let eight = c.put-8.ensures.each all (ap (λ (ss : List Sums). slice_get ss 7) (sym sums)) seven in
    subst (λ (os : List DeskSettings). EachGathered os all c.put-8.new.self.desks.items) (take_all 8 settings c.requires.few) eight

pub returns-clause-desks : goal.returns-clause-desks
returns-clause-desks g c =
    let l = c.lanes.inside in
    let lane : Option NumberedJournal → List Journal → List Journal = λ j desks. with_desk desks j in
    let one = c.put.ensures.desks ∙ ap (lane l.u0) c.requires.none in
    let two = c.put-2.ensures.desks ∙ ap (lane l.u1) one in
    let three = c.put-3.ensures.desks ∙ ap (lane l.u2) two in
    let four = c.put-4.ensures.desks ∙ ap (lane l.u3) three in
    let five = c.put-5.ensures.desks ∙ ap (lane l.u4) four in
    let six = c.put-6.ensures.desks ∙ ap (lane l.u5) five in
    let seven = c.put-7.ensures.desks ∙ ap (lane l.u6) six in
    let eight = c.put-8.ensures.desks ∙ ap (lane l.u7) seven in
    eight ∙ desks-are [] (l.u0 ∷ l.u1 ∷ l.u2 ∷ l.u3 ∷ l.u4 ∷ l.u5 ∷ l.u6 ∷ l.u7 ∷ []) ∙ ap (λ (js : List (Option NumberedJournal)). map unnumbered (journals_in js)) c.lanes.view_is
