use Rattle.std.proofs.Common.{◌≤◌, ◌*◌, ℕ, List, length, map}
use Rattle.xm_replay.specs.Taken.{HasTaken, taken_so_far}
use Rattle.xm_files.specs.OrderFiles.{FilesRead, text_in_files}
use Rattle.xm_files.specs.Orders.{max_rows}
use Rattle.xm_texts.specs.RowAnswers.{AgreeOn}
use Rattle.xm_config.specs.declared.rows.Row.{Row}
use Rattle.xm_replay.proofs.runs.run_rows.Given as goal

abbrev pub invariant-files : goal.invariant-files
invariant-files g l =
    (files : List (List ℕ)) × (rows : List Row) × FilesRead l.names l.config (map g.R.Read.remaining l.fn.orders) l.files files rows
    × ((texts : ℕ → List ℕ) → AgreeOn texts (text_in_files files) rows → HasTaken l.fn.asked l.names texts l.config rows l.day) × (taken_so_far l.day ≤ l.files.number * max_rows)

abbrev pub decreases-files : goal.decreases-files
decreases-files g l = length l.files.left
