use Rattle.std.proofs.Common.{◌≤◌, ◌*◌, ℕ, List, length, map}
use Rattle.xm_workers.specs.Workers.{HasShared, shared_so_far}
use Rattle.xm_files.specs.OrderFiles.{FilesRead}
use Rattle.xm_files.specs.Orders.{max_rows}
use Rattle.xm_config.specs.declared.rows.Row.{Row}
use Rattle.xm_workers.proofs.shared_day.take_files.Given as goal

abbrev pub invariant-files : goal.invariant-files
invariant-files g l =
    (files : List (List ℕ)) × (rows : List Row) × FilesRead l.names l.config (map g.R.Read.remaining l.fn.orders) l.files files rows × HasShared g.S.Naming.settings g.S.Naming.workers l.config rows l.day
    × (shared_so_far l.day ≤ l.files.number * max_rows)

abbrev pub decreases-files : goal.decreases-files
decreases-files g l = length l.files.left
