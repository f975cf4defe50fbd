use Rattle.std.proofs.Common.{◌≡◌, Bool, true, if◌then◌else◌, List, Option, None, ap, ap₂, sym, rules, ◌∙◌}
use Rattle.xm_config.specs.declared.config.SecurityConfig.{SecurityConfig}
use Rattle.xm_files.specs.Rows.{entry_with, field, has_short_text, kind_in, record_entry, texts_of}
use Rattle.xm_files.specs.declared.columns.Column.TheVariants as column
use Rattle.xm_files.specs.declared.entries.Word.{Word}
use Rattle.xm_files.proofs.orders.add_record.Goals as goal

pub returns-then-text-gt-MAX_TEXT-clause-err : goal.returns-then-text-gt-MAX_TEXT-clause-err
unfolding texts_of
returns-then-text-gt-MAX_TEXT-clause-err c = search rules

-- what the record says
parsed : (c : goal.After-add_kind) → entry_with c.args.fields.now.format c.kind_in-kind.result c.args.names.now c.as_slice.result.now (texts_of c.args.fields.now) ≡ record_entry c.args.fields.now.format c.args.names.now c.args.config.now.securities (texts_of c.args.fields.now)
parsed c =
    let format = c.args.fields.now.format in
    let names = c.args.names.now in
    let fields = texts_of c.args.fields.now in
    let short : has_short_text fields ≡ true = search rules in
    let kind : c.kind_in-kind.result ≡ kind_in format (field column.Command fields) = search rules in
    ap₂ (λ (w : Option Word) (securities : List SecurityConfig). entry_with format w names securities fields) kind c.as_slice.ensures
    ∙ ap (λ (t : Bool). if t then entry_with format (kind_in format (field column.Command fields)) names c.args.config.now.securities fields else None) (sym short)

pub returns-clause-ok : goal.returns-clause-ok
unfolding texts_of
returns-clause-ok c = rw (parsed c) at c.add_kind.ensures.ok

pub returns-clause-err : goal.returns-clause-err
unfolding texts_of
returns-clause-err c = rw (parsed c) at c.add_kind.ensures.err
