-- A security may go to another thread, to take its rows and to tell of itself.
use denote.Param.Send.{IsSend, sendable}
use Rattle.std.proofs.Crossing.{crosses}
use Rattle.xm_desk.proofs.Crosses.{desk-send}
use Rattle.xm_texts.specs.contracts.lines.Lines as Lines
use Rattle.xm_threads.specs.contracts.lanes.DeskLane as DeskLane
use Rattle.xm_threads.specs.contracts.sections.Section as Section

lines-send : IsSend Lines.the_field.row
lines-send = search (sendable, crosses) depth 30

pub lane-send : IsSend DeskLane.the_field.row
lane-send = let a = desk-send in let b = lines-send in search (sendable, crosses) depth 30 fits 5000

pub section-send : IsSend Section.the_field.row
section-send = let a = desk-send in search (sendable, crosses) depth 30
