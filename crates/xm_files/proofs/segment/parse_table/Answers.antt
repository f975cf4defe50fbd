use Rattle.toml.specs.View.{table_view}
use Rattle.xm_files.proofs.Documents.{document-some, document-none}
use Rattle.xm_files.proofs.segment.parse_table.Goals as goal

pub returns-in-Ok-clause-ok : goal.returns-in-Ok-clause-ok
returns-in-Ok-clause-ok c = document-some c.args.text.now (table_view c.in-Ok.table) c.in-Ok.ensures.ok

pub returns-in-Err-clause-err : goal.returns-in-Err-clause-err
returns-in-Err-clause-err c = λ h.
    let syntax = c.parse_cause.ensures.syntax h in
    (syntax.0, document-none c.args.text.now (c.in-Err.ensures.refused syntax.1))
