-- The batches before one, as the list of their rows.
use Rattle.std.proofs.Common.{◌≡◌, ◌+◌, List, [], ◌++◌, length, append_assoc, sym, ap, ◌∙◌}
use Rattle.std.proofs.lemmas.List.{length-append}
use Rattle.std.specs.declared.snapshot.Snapshot.{Snapshot}
use Rattle.xm_files.specs.Batches.{RowsRead, earlier_rows, rows_after_batch, rows_so_far}
use Rattle.xm_files.specs.declared.batch.Earlier.{Earlier, fold-Earlier, fold-roll-Earlier}
use Rattle.xm_files.specs.declared.batch.Earlier.TheOpen as open'
use Rattle.xm_files.specs.declared.batch.Earlier.TheVariants.{Nothing, Batch, rolls-Nothing, rolls-Batch}
use Rattle.xm_config.specs.declared.rows.Row.{Row}

pub earlier-nothing : earlier_rows Nothing ≡ []
unfolding earlier_rows
earlier-nothing = ap (fold-Earlier (List Row) rows_after_batch) (sym rolls-Nothing) ∙ fold-roll-Earlier (List Row) rows_after_batch open'.Nothing

pub earlier-more : (rows : _) (earlier : Snapshot Earlier) → earlier_rows (Batch rows earlier) ≡ earlier_rows earlier.value ++ rows.value.items
unfolding earlier_rows
earlier-more rows earlier = ap (fold-Earlier (List Row) rows_after_batch) (sym (rolls-Batch rows earlier)) ∙ fold-roll-Earlier (List Row) rows_after_batch (open'.Batch rows earlier)

-- rows that join a batch
pub joined : (b : RowsRead) (more : List Row) → rows_so_far (record b { rows = b.rows ++ more }) ≡ rows_so_far b ++ more
joined b more = sym (append_assoc b.earlier b.rows more)

pub joined-length : (b : RowsRead) (more : List Row) → length (rows_so_far (record b { rows = b.rows ++ more })) ≡ length (rows_so_far b) + length more
joined-length b more = ap length (joined b more) ∙ length-append (rows_so_far b) more
