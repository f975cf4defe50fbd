use Rattle.std.proofs.Common.{◌≡◌, ◌∙◌, length, sym, ap}
use Rattle.std.proofs.lemmas.List.{length-map}
use Rattle.xm_files.proofs.Formats.{titled}
use Rattle.xm_files.specs.Rows.{RecordFields, columns_of, texts_of}
use Rattle.xm_files.specs.declared.order_format.OrderFormat.{OrderFormat}
use Rattle.xm_files.proofs.records.Fields.is_header.Goals as goal

pub returns : goal.returns
unfolding texts_of
returns c =
    let self = c.args.self.now in
    let format : c.self.inside.format ≡ self.format = ap (λ (fields : RecordFields). fields.format) c.self.view_is in
    let count : length self.in_order ≡ length (columns_of self.format) =
    ap (λ (fields : RecordFields). length fields.in_order) (sym c.self.view_is) ∙ length-map (columns_of c.self.inside.format) _ ∙ ap (λ (f : OrderFormat). length (columns_of f)) format in
    titled self.format self.in_order c.has_titles.result count (rw (c.columns.ensures, format) at c.has_titles.ensures)
