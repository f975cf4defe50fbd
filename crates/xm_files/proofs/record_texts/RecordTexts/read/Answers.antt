use Rattle.std.proofs.Common.{◌≡◌, ◌≤◌, ◌++◌, [], true, Ok, rules, ap, sym, ◌∙◌}
use Rattle.csv.specs.Records.{fields_of}
use Rattle.xm_files.proofs.TextsOf.{text-found}
use Rattle.xm_files.specs.Orders.{records_in}
use Rattle.xm_files.specs.RecordTexts.{have_texts, text_from}
use Rattle.xm_files.proofs.record_texts.RecordTexts.read.Goals as goal

pub returns-clause-read : goal.returns-clause-read
returns-clause-read c =
    let bytes = c.self.inside.bytes.now in
    let first = c.self.inside.first in
    let bytes_are : bytes ≡ c.args.self.now.orders = search rules in
    let first_is : first ≡ c.args.self.now.first = search rules in
    let cleared : c.clear.new.self.items ≡ [] = search rules in
    let on : have_texts (records_in bytes) ≡ true = search rules in
    let found : c.in_ok-find.field-0 ≡ true = search rules in
    let behind : first ≤ c.args.line = search rules in
    let waits = c.in_ok-find.ensures.waits (ap Ok found) in
    let text = text-found first bytes c.args.line c.find.new.csv (fields_of c.row.result.now) on behind c.in_ok-find.ensures.within waits.0 waits.1 c.row.ensures in
    c.in_ok-extend_from_slice.ensures.items ∙ (λ i. cleared i ++ c.text_in.ensures i) ∙ sym text ∙ (λ i. text_from (first_is i) (bytes_are i) c.args.line)
