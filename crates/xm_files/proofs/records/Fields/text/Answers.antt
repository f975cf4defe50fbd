use Rattle.std.proofs.Common.{◌≡◌, ◌∙◌, ℕ, length, get_or, ap, arith, rules}
use Rattle.xm_files.proofs.Formats.{kept-field}
use Rattle.xm_files.specs.Rows.{RecordFields, columns_of, field, texts_of}
use Rattle.xm_files.proofs.records.Fields.text.Goals as goal

pub returns : goal.returns
unfolding texts_of
returns c =
    let f = c.self.inside in
    let index = c.index.ensures.index in
    let within = c.index.ensures.within in
    let thirteen : length f.texts ≡ 13 = search rules in
    ap (λ (k : ℕ). (get_or f.texts k _).now) index
    ∙ kept-field (columns_of f.format) f.texts c.args.column _ thirteen (omega (arith, index, within)) c.self.invariant
    ∙ ap (λ (fields : RecordFields). field c.args.column (texts_of fields)) c.self.view_is
