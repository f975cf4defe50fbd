use Rattle.std.proofs.Common.{◌≡◌, ℕ, arith, subst}
use Rattle.xm_files.proofs.WideRecords.{HasRead, read-first, read-next, read-wide}
use Rattle.xm_files.specs.Plain.{rest_of}
use Rattle.xm_files.proofs.wide.begin_wide.Goals as goal

pub loop-place-init : goal.loop-place-init
loop-place-init c = read-first (rest_of c.args.marks.now) c.in_ok-field.field-0.now (rest_of c.field.new.self) c.in_ok-field.ensures.field

pub loop-place-preserved : goal.loop-place-preserved
loop-place-preserved c =
    let at = c.loop-place in
    read-next (rest_of c.args.marks.now) (rest_of at.marks) c.in_ok-field-2.field-0.now (rest_of c.field-in-loop-place.new.self) at._place at.invariant c.in_ok-field-2.ensures.field

pub returns : goal.returns
returns c =
    let at = c.loop-place in
    let all : at._place ≡ 13 = omega (arith, c.loop-place-test.false, at.auto._place-end) in
    read-wide (rest_of c.args.marks.now) (rest_of at.marks) (subst (λ (count : ℕ). HasRead (rest_of c.args.marks.now) count (rest_of at.marks)) all at.invariant)
