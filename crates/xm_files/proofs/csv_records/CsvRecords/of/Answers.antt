use Rattle.std.proofs.Common.{◌+◌, List, ℕ, None, length, inr, refl, arith, ap, ◌∙◌}
use Rattle.csv.specs.Reading.{strip_bom}
use Rattle.xm_files.proofs.Unread.{begins-between, few-records, records-left, strip-shorter}
use Rattle.xm_files.specs.Unread.{CsvLeft}
use Rattle.csv.specs.declared.parser.State.TheVariants as st
use Rattle.xm_files.proofs.csv_records.CsvRecords.of.Goals as goal

pub invariant_of-result : goal.invariant_of-result
invariant_of-result c =
    let text = strip_bom c.args.text.now in
    let fr = c.from_reader.ensures in
    let e = c.has_headers.ensures in
    let f = c.flexible.ensures in
    let fewer = strip-shorter c.args.text.now in
    let few = few-records (length text + 1) st.StartRecord text refl in
    let same = ap length (records-left c.from_reader.result st.StartRecord text fr.source fr.state) in
    record {
      reads_on = begins-between c.from_reader.result text (rw (f, e) at fr.trim ∙ c.new.ensures.trim) (inr (inr (rw (f, e) at fr.has_headers, fr.headers))) (rw (f, e) at fr.config ∙ c.new.ensures.config) fr.state fr.source;
      begun = c.requires.begun;
      short = omega (arith, c.requires.short, few, fewer, same);
    }

pub returns : goal.returns
returns c =
    let text = strip_bom c.args.text.now in
    let left : List (List (List ℕ)) → CsvLeft = λ rest. record { ahead = None; behind = rest; line = c.args.line } in
    ap left (records-left c.from_reader.result st.StartRecord text c.from_reader.ensures.source c.from_reader.ensures.state)
