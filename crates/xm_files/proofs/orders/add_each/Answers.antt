use Rattle.std.proofs.Common.{ℕ, List, ◌++◌, ◌∷◌, [], map, length, append_assoc, ap, sym, arith, ◌∙◌}
use Rattle.std.proofs.lemmas.List.FromFn.{length-map-range_with_len, map-range_with_len_more}
use Rattle.std.specs.List.{range_with_len}
use Rattle.xm_files.proofs.Batches.{joined-length}
use Rattle.xm_files.specs.Batches.{RowsRead, rows_so_far}
use Rattle.xm_config.specs.declared.rows.Row.{Row}
use Rattle.xm_files.proofs.orders.add_each.Goals as goal

pub push-requires : goal.push-requires
push-requires c =
    let row : ℕ → Row = λ security. record { line = c.args.line; security = security; command = c.args.command } in
    let n = c.loop-security.security in
    let size = ap (λ (b : RowsRead). length (rows_so_far b)) c.loop-security.invariant in
    let more = joined-length c.args.batch.now (map row (range_with_len 0 n)) in
    let count = length-map-range_with_len row 0 n in
    omega (arith, size, more, count, c.requires, c.loop-security-test.true)

pub loop-security-preserved : goal.loop-security-preserved
loop-security-preserved c =
    let row : ℕ → Row = λ security. record { line = c.args.line; security = security; command = c.args.command } in
    let old = c.args.batch.now in
    let n = c.loop-security.security in
    let rows = append_assoc old.rows (map row (range_with_len 0 n)) (row n ∷ [])
    ∙ ap (λ (rows : List Row). old.rows ++ rows) (sym (map-range_with_len_more row 0 n n (omega arith))) in
    c.in_ok-push.ensures
    ∙ ap (λ (b : RowsRead). record b { rows = b.rows ++ row n ∷ [] }) c.loop-security.invariant
    ∙ ap (λ (rs : List Row). record old { rows = rs }) rows
