use Rattle.std.proofs.Common.{◌≤◌, ◌*◌, ℕ, List, IfOk, length, map}
use Rattle.xm_config.specs.declared.rows.Row.{Row}
use Rattle.xm_files.specs.OrderFiles.{FilesRead}
use Rattle.xm_files.specs.Orders.{max_rows}
use Rattle.xm_observers.specs.Observed.{HasObserved, observed_so_far}
use Rattle.xm_observers.proofs.observing.observe_rows.Given as goal

abbrev pub invariant-files : goal.invariant-files
invariant-files g l =
    (files : List (List ℕ)) × (rows : List Row) × FilesRead l.names l.config (map g.R.Read.remaining l.fn.orders) l.files files rows
    × HasObserved g.O.Observer.seen g.O.Observer.next (g.O.Observer.seen l.fn.observer) l.config rows l.day × (observed_so_far l.day ≤ l.files.number * max_rows)
    × IfOk l.day (λ d. g.O.Observer.rows (g.O.Observer.seen d.observer) ≤ observed_so_far l.day)

abbrev pub decreases-files : goal.decreases-files
decreases-files g l = length l.files.left
