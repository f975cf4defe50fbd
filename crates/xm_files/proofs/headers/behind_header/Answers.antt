use Rattle.std.proofs.Common.{◌≡◌, true, ap, sym, ◌∙◌}
use Rattle.xm_files.proofs.Headed.{headed-line, headed-shorter}
use Rattle.xm_files.specs.Plain.{ReadsLine, rest_of}
use Rattle.xm_files.specs.Rows.{is_header}
use Rattle.xm_files.specs.declared.order_format.OrderFormat.{OrderFormat}
use Rattle.xm_files.proofs.headers.behind_header.Goals as goal

pub returns-then-is_header-clause-headed : goal.returns-then-is_header-clause-headed
returns-then-is_header-clause-headed c =
    let read = c.in_ok-read_line in
    let fields = c.read_line.new.self.in_order in
    let format : c.read_line.new.self.format ≡ c.args.format = read.ensures.format ∙ c.empty-fields.ensures in
    let is : is_header c.args.format fields ≡ true = ap (λ (f : OrderFormat). is_header f fields) (sym format) ∙ sym c.is_header.ensures ∙ c.if-is_header.true in
    let line : ReadsLine c.args.text.now fields (rest_of c.read_line.new.line) = rw c.in_ok-marks.ensures.whole at read.ensures.line in
    headed-line c.args.format c.args.text.now (rest_of c.read_line.new.line) c.left.result.now fields is c.in_ok-marks.ensures.unmarked line (c.left.ensures ∙ read.ensures.behind)

pub returns-then-is_header-clause-shorter : goal.returns-then-is_header-clause-shorter
returns-then-is_header-clause-shorter c =
    let read = c.in_ok-read_line in
    let line : ReadsLine c.args.text.now c.read_line.new.self.in_order (rest_of c.read_line.new.line) = rw c.in_ok-marks.ensures.whole at read.ensures.line in
    headed-shorter c.args.text.now (rest_of c.read_line.new.line) c.left.result.now c.read_line.new.self.in_order line (c.left.ensures ∙ read.ensures.behind)
