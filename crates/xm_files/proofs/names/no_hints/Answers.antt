use Rattle.std.proofs.Common.{refl, []}
use Rattle.std.proofs.lemmas.List.Elements.{All-replicate}
use Rattle.xm_files.specs.Hints.{LeadsInto}
use Rattle.xm_files.proofs.Hinted.{leads-nowhere}
use Rattle.xm_files.proofs.names.no_hints.Goals as goal

pub returns : goal.returns
returns c = All-replicate (LeadsInto []) 1024 (record { number = 0; length = 13; index = 0 }) (leads-nowhere (record { number = 0; length = 13; index = 0 }) refl)
