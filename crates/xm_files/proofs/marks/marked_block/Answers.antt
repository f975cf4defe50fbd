use Rattle.std.proofs.Common.{◌+◌, arith}
use Rattle.xm_files.proofs.Marked.{more-looked, unlooked}
use Rattle.xm_files.specs.Plain.{IsMarked}
use Rattle.xm_files.proofs.marks.marked_block.Goals as goal

pub loop-block-init : goal.loop-block-init
loop-block-init c = unlooked c.args.text.now c.args.behind c.requires

pub returns-then-bits-ne0 : goal.returns-then-bits-ne0
returns-then-bits-ne0 c = more-looked c.args.text.now _ c.loop-block.block c.block_marks-bits.result c.loop-block.invariant (omega (arith, c.loop-block-test.true, c.loop-block.invariant.within)) c.block_marks-bits.ensures

pub loop-block-preserved : goal.loop-block-preserved
loop-block-preserved c =
    let looked : IsMarked c.args.text.now _ (c.loop-block.block + 64) c.block_marks-bits.result =
    more-looked c.args.text.now _ c.loop-block.block c.block_marks-bits.result c.loop-block.invariant (omega (arith, c.loop-block-test.true, c.loop-block.invariant.within)) c.block_marks-bits.ensures in
    rw c.if-bits-ne0.false at looked
