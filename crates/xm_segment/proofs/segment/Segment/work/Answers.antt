use Rattle.std.proofs.Common.{rules, ◌≡◌, ◌+◌, ◌<◌, ◌∙◌, [], length, ap, arith, false, sym, subst, true}
use Rattle.std.specs.Prelude.{sum}
use Rattle.xm_segment.proofs.Answering.{HasWorked, IsWorked, none-worked, row-cut, row-room, row-worked, rows-worked, want-told}
use Rattle.xm_segment.specs.Seats.{lacks_memory}
use Rattle.xm_segment.specs.declared.working.WorkerReport.{WorkerReport}
use Rattle.xm_segment.proofs.segment.Segment.work.Given.{Over}
use Rattle.xm_segment.proofs.segment.Segment.work.Goals.{After-loop-row, Then-lacks_memory}
use Rattle.xm_segment.proofs.segment.Segment.work.Goals as goal

pub loop-row-init : goal.loop-row-init
loop-row-init g c =
    let seat = c.args.seat.now in
    record { answered = search rules; worked = subst (IsWorked g.S.Naming.settings seat [] seat) (sym c.new-report.ensures) (none-worked g.S.Naming.settings seat) }

pub count-requires : goal.count-requires
count-requires g c =
    let i = c.loop-row.row-index in
    let a = c.answer-answer.ensures in
    let within : i < length c.args.rows.now = omega arith in
    record { room = row-room g.S.Naming.settings c.args.seat.now c.loop-row.seat c.answer-answer.new.seat c.args.rows.now i _ c.answer-answer.result c.loop-row.report within c.loop-row.invariant.worked a.taken a.fit c.requires a.within }

-- the report, where memory was wanting for a row
cut_at : (g : Over) (c : Then-lacks_memory g) → HasWorked g.S.Naming.settings c.args.seat.now c.args.rows.now c.answer-answer.new.seat c.count.new.self
cut_at g c =
    let i = c.loop-row.row-index in
    let a = c.answer-answer.ensures in
    let within : i < length c.args.rows.now = omega arith in
    let lacks : lacks_memory c.answer-answer.result ≡ true = sym c.lacks_memory.ensures ∙ c.if-lacks_memory.true in
    subst (HasWorked g.S.Naming.settings c.args.seat.now c.args.rows.now c.answer-answer.new.seat) (sym c.count.ensures)
    (row-cut g.S.Naming.settings c.args.seat.now c.loop-row.seat c.answer-answer.new.seat c.args.rows.now i _ c.answer-answer.result c.loop-row.report within c.loop-row.invariant.worked a.taken a.fit lacks)

pub returns-then-lacks_memory-clause-answers : goal.returns-then-lacks_memory-clause-answers
returns-then-lacks_memory-clause-answers g c = let w = cut_at g c in (w.answers, w.were, w.reports)

pub returns-then-lacks_memory-clause-accepted : goal.returns-then-lacks_memory-clause-accepted
returns-then-lacks_memory-clause-accepted g c = (cut_at g c).accepted

pub returns-then-lacks_memory-clause-quantity : goal.returns-then-lacks_memory-clause-quantity
returns-then-lacks_memory-clause-quantity g c = (cut_at g c).quantity

pub returns-then-lacks_memory-clause-all : goal.returns-then-lacks_memory-clause-all
returns-then-lacks_memory-clause-all g c = λ none.
    let lacks : lacks_memory c.answer-answer.result ≡ true = sym c.lacks_memory.ensures ∙ c.if-lacks_memory.true in
    let told = ap (λ (r : WorkerReport). r.wanting) (sym c.count.ensures) ∙ none in
    absurd (want-told c.loop-row.report c.answer-answer.result lacks told)

pub loop-row-preserved : goal.loop-row-preserved
loop-row-preserved g c =
    let i = c.loop-row.row-index in
    let a = c.answer-answer.ensures in
    let within : i < length c.args.rows.now = omega arith in
    let has : lacks_memory c.answer-answer.result ≡ false = sym c.lacks_memory.ensures ∙ c.if-lacks_memory.false in
    let worked = row-worked g.S.Naming.settings c.args.seat.now c.loop-row.seat c.answer-answer.new.seat c.args.rows.now i _ c.answer-answer.result c.loop-row.report within c.loop-row.invariant.worked a.taken a.fit has in
    record { answered = ap (λ n. n + 1) c.loop-row.invariant.answered; worked = subst (IsWorked g.S.Naming.settings c.args.seat.now _ c.answer-answer.new.seat) (sym c.count.ensures) worked }

-- the report of all rows
whole_at : (g : Over) (c : After-loop-row g) → HasWorked g.S.Naming.settings c.args.seat.now c.args.rows.now c.loop-row.seat c.loop-row.report × (c.loop-row.report.accepted + sum c.loop-row.report.refused ≡ length c.args.rows.now)
whole_at g c = rows-worked g.S.Naming.settings c.args.seat.now c.loop-row.seat c.args.rows.now c.loop-row.row-index c.loop-row.report (omega arith) c.loop-row.invariant.worked

pub returns-clause-answers : goal.returns-clause-answers
returns-clause-answers g c = let w = (whole_at g c).0 in (w.answers, w.were, w.reports)

pub returns-clause-accepted : goal.returns-clause-accepted
returns-clause-accepted g c = (whole_at g c).0.accepted

pub returns-clause-quantity : goal.returns-clause-quantity
returns-clause-quantity g c = (whole_at g c).0.quantity

pub returns-clause-all : goal.returns-clause-all
returns-clause-all g c = λ none. (whole_at g c).1
