use Rattle.std.proofs.Common.{◌≡◌, ℕ, ◌++◌, List, length, sym, ap, subst, ◌∙◌, arith}
use Rattle.xm_files.proofs.InParts.{parts-join}
use Rattle.xm_files.specs.Batches.{RowsRead}
use Rattle.xm_files.specs.InParts.{PartGives, LinesGive, last_bytes}
use Rattle.xm_config.specs.declared.rows.Row.{Row}
use Rattle.xm_files.proofs.file_parts.FileParts.read.Goals as goal

pub add_rows-requires : goal.add_rows-requires
add_rows-requires g c =
    let fits = c.follows.ensures.fits c.if-not-follows.false in
    let rows = ap length c.rows.ensures in
    omega (arith, fits, rows)

pub loop-part-preserved : goal.loop-part-preserved
loop-part-preserved g c =
    let kept = c.loop-part.invariant in
    let part = c.part-item.result in
    let text = c.args.text.now in
    let added = c.in_ok-add_rows.ensures in
    let begins = c.follows.ensures.begins c.if-not-follows.false in
    let read : PartGives c.args.names.now c.args.config.now c.args.format text part =
    subst (PartGives c.args.names.now c.args.config.now c.args.format text) (sym c.part-item.is) (kept.parts c.loop-part.part-index part (omega (arith, c.loop-part-test.true))) in
    let own = read (c.follows.ensures.whole c.if-not-follows.false) in
    let behind : LinesGive c.args.names.now c.args.config.now c.args.format (last_bytes c.loop-part.left text) c.loop-part.line (last_bytes part.to text) part.next part.batch.rows =
    subst (λ (from : ℕ). LinesGive c.args.names.now c.args.config.now c.args.format (last_bytes from text) c.loop-part.line (last_bytes part.to text) part.next part.batch.rows) begins.0
    (subst (λ (first : ℕ). LinesGive c.args.names.now c.args.config.now c.args.format (last_bytes part.from text) first (last_bytes part.to text) part.next part.batch.rows) begins.1 own) in
    let rows : c.loop-part.batch.rows ++ part.batch.rows ≡ c.add_rows.new.self.rows =
    ap (λ (r : List Row). c.loop-part.batch.rows ++ r) (sym c.rows.ensures) ∙ sym (ap (λ (b : RowsRead). b.rows) added) in
    record {
      parts = kept.parts;
      lines = subst (λ (r : List Row). LinesGive c.args.names.now c.args.config.now c.args.format text c.args.first (last_bytes part.to text) part.next r) rows
          (parts-join c.args.names.now c.args.config.now c.args.format text (last_bytes c.loop-part.left text) (last_bytes part.to text) c.args.first c.loop-part.line part.next c.loop-part.batch.rows part.batch.rows kept.lines behind);
      earlier = ap (λ (b : RowsRead). b.earlier) added ∙ kept.earlier;
    }
