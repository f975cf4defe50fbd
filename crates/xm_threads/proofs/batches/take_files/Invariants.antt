use Rattle.std.proofs.Common.{◌≡◌, ℕ, List, length, map}
use Rattle.xm_threads.specs.Lanes.{TookMore}
use Rattle.xm_files.specs.OrderFiles.{FilesRead, text_in_files}
use Rattle.xm_config.specs.declared.rows.Row.{Row}
use Rattle.xm_threads.proofs.batches.take_files.Given as goal

abbrev pub invariant-files : goal.invariant-files
invariant-files g l =
    (files : List (List ℕ)) × (rows : List Row) × FilesRead l.names l.config (map g.R.Read.remaining l.fn.orders) l.files files rows × (l.count ≡ length rows)
    × TookMore l.names (text_in_files files) rows l.fn.lanes l.fn.merged l.lanes l.merged

abbrev pub decreases-files : goal.decreases-files
decreases-files g l = length l.files.left
