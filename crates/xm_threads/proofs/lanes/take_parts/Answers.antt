use denote.Param.Send.{sendable}
use Rattle.std.proofs.Crossing.{crosses}
use Rattle.xm_threads.proofs.Crosses.{lane-send}
use Rattle.xm_threads.proofs.lanes.take_parts.Goals as goal

pub for_each_chunk_mut-requires-send-T : goal.for_each_chunk_mut-requires-send-T
for_each_chunk_mut-requires-send-T g c κs within = search (sendable, crosses, lane-send) depth 40
