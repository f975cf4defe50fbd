-- The lines of a part of an order file, whichever rows come before them.
use Rattle.std.proofs.Common.{◌≡◌, ℕ, zero, suc, ◌+◌, ◌-◌, ◌<◌, ◌≤◌, List, [], ◌∷◌, ◌++◌, drop, drop-drop, length, length-drop, Ok, append_assoc, sym, ap, subst, ◌∙◌, arith}
use Rattle.std.proofs.lemmas.List.{append-nil, append_cancel_left, length-append}
use Rattle.xm_files.proofs.LineRecords.{line-shorter}
use Rattle.xm_files.proofs.PartsRead.{rows-added}
use Rattle.csv.specs.Reading.{default_config, records}
use Rattle.xm_files.proofs.Progress.{Lines, fed-count, line-count, lines-begin, lines-end, lines-more, rows-fit}
use Rattle.xm_files.specs.Batches.{RowsRead, rows_so_far}
use Rattle.xm_files.specs.InParts.{LinesGive, last_bytes}
use Rattle.xm_files.specs.Names.{NameLists}
use Rattle.xm_files.specs.Orders.{max_lines, max_rows, records_in, rows_after, with_rows}
use Rattle.xm_files.specs.Plain.{ReadsLine}
use Rattle.xm_files.specs.Rows.{columns_of, rows_of_record}
use Rattle.xm_files.specs.declared.order_format.OrderFormat.{OrderFormat}
use Rattle.xm_config.specs.declared.config.SegmentConfig.{SegmentConfig}
use Rattle.xm_config.specs.declared.rows.Row.{Row}

-- the end of a text, by how many bytes it has
pub as-last : (text : List ℕ) (at count : ℕ) → count ≡ length (drop at text) → 0 < count → drop at text ≡ last_bytes count text
as-last text at count is some =
    let left = length-drop at text in
    let same : at ≡ length text - count = omega (arith, left, is, some) in
    ap (λ (k : ℕ). drop k text) same

pub last-all : (text : List ℕ) → last_bytes (length text) text ≡ text
last-all text = let none : length text - length text ≡ 0 = omega arith in ap (λ (k : ℕ). drop k text) none

-- the end of an end
pub last-of-last : (text : List ℕ) (long short : ℕ) → short ≤ length (last_bytes long text) → last_bytes short (last_bytes long text) ≡ last_bytes short text
last-of-last text long short within =
    let left = length-drop (length text - long) text in
    let same : (length text - long) + (length (last_bytes long text) - short) ≡ length text - short = omega (arith, left, within) in
    drop-drop (length (last_bytes long text) - short) (length text - long) text ∙ ap (λ (k : ℕ). drop k text) same

-- lines were read, and behind the line feed of the last one comes the record with this number
pub record LinesRead (names : NameLists) (config : SegmentConfig) (format : OrderFormat) (text : List ℕ) (first : ℕ) (more : List ℕ) (line : ℕ) (rows : List Row) : Type 0 where
  pub so : (before : List Row) → length before + length rows ≤ max_rows → Lines names config format (rows_after names config format first before (records_in text)) more line (before ++ rows)
  pub onward : first ≤ line
  pub further : 0 < length rows → first < line
  pub short : line + length more < max_lines
  pub counted : line + length (records default_config (10 ∷ more)) ≡ first + length (records_in text)

pub part-begins : (names : NameLists) (config : SegmentConfig) (format : OrderFormat) (text more : List ℕ) (first : ℕ) (rows : List Row) → text ≡ 10 ∷ more → first + length text ≤ max_lines → rows ≡ [] → LinesRead names config format text first more first rows
part-begins names config format text more first rows fed short none =
    let size = ap length fed in
    let empty = ap length none in
    let count = fed-count text more fed in
    record {
      so = λ before fits. subst (λ (r : List Row). Lines names config format (rows_after names config format first before (records_in text)) more first r) (sym (ap (λ (r : List Row). before ++ r) none ∙ append-nil before))
          (lines-begin names config format text more first before fed short);
      onward = omega arith;
      further = λ some. absurd (omega (arith, some, empty));
      short = omega (arith, size, short);
      counted = omega (arith, count);
    }

pub part-more : (names : NameLists) (config : SegmentConfig) (format other : OrderFormat) (all text more : List ℕ) (first line : ℕ) (old new : RowsRead) (fields : List (List ℕ)) → LinesRead names config format all first text line old.rows
    → ReadsLine text fields more → other ≡ format → length fields ≡ length (columns_of format) → new.earlier ≡ old.earlier → with_rows line (rows_so_far old) (rows_of_record other names config line fields) ≡ Ok (rows_so_far new)
    → LinesRead names config format all first more (line + 1) new.rows
part-more names config format other all text more first line old new fields p reads same count before_them good =
    let added = rows-added line (rows_so_far old) (rows_so_far new) (rows_of_record other names config line fields) good in
    let rows : new.rows ≡ old.rows ++ added.0 =
    append_cancel_left old.earlier new.rows (old.rows ++ added.0) (ap (λ (a : List Row). a ++ new.rows) (sym before_them) ∙ added.2 ∙ append_assoc old.earlier old.rows added.0) in
    let size = ap length rows ∙ length-append old.rows added.0 in
    let shorter = line-shorter text more fields reads in
    let one = line-count text more fields reads in
    let onward = p.onward in
    let short = p.short in
    let counted = p.counted in
    record {
      so = λ before fits.
          let both = length-append before old.rows in
          let next : with_rows line (before ++ old.rows) (rows_of_record other names config line fields) ≡ Ok ((before ++ old.rows) ++ added.0) =
          ap (with_rows line (before ++ old.rows)) added.1 ∙ rows-fit line (before ++ old.rows) added.0 (omega (arith, both, size, fits)) in
          subst (λ (r : List Row). Lines names config format (rows_after names config format first before (records_in all)) more (line + 1) r) (append_assoc before old.rows added.0 ∙ ap (λ (r : List Row). before ++ r) (sym rows))
          (lines-more names config format other (rows_after names config format first before (records_in all)) text more line (before ++ old.rows) ((before ++ old.rows) ++ added.0) fields (p.so before (omega (arith, size, fits))) reads same count next);
      onward = omega (arith, onward);
      further = λ some. omega (arith, onward);
      short = omega (arith, shorter, short);
      counted = omega (arith, one, counted);
    }

pub part-ends : (names : NameLists) (config : SegmentConfig) (format : OrderFormat) (text left more : List ℕ) (first line : ℕ) (rows : List Row) → LinesRead names config format text first more line rows → left ≡ 10 ∷ more → LinesGive names config format text first left line rows
part-ends names config format text left more first line rows p fed =
    let size = ap length fed in
    let short = p.short in
    let count = fed-count left more fed in
    let counted = p.counted in
    record {
      so = λ before fits. lines-end names config format (rows_after names config format first before (records_in text)) left more line (before ++ rows) (p.so before fits) fed;
      onward = p.onward;
      further = p.further;
      short = omega (arith, size, short);
      counted = omega (arith, count, counted);
    }

further-by : (first line next a b : ℕ) → (0 < a → first < line) → (0 < b → line < next) → first ≤ line → line ≤ next → 0 < a + b → first < next
further-by first line next zero b f g onward on some = let last = g (omega (arith, some)) in omega (arith, onward, last)
further-by first line next (suc a) b f g onward on some = let begun = f (omega arith) in omega (arith, on, begun)

-- a part behind others
pub parts-join : (names : NameLists) (config : SegmentConfig) (format : OrderFormat) (text middle left : List ℕ) (first line next : ℕ) (rows more : List Row) → LinesGive names config format text first middle line rows → LinesGive names config format middle line left next more
    → LinesGive names config format text first left next (rows ++ more)
parts-join names config format text middle left first line next rows more p q =
    let size = length-append rows more in
    let onward = p.onward in
    let on = q.onward in
    let short = q.short in
    let first_counted = p.counted in
    let counted = q.counted in
    record {
      so = λ before fits.
          let both = length-append before rows in
          p.so before (omega (arith, size, fits)) ∙ q.so (before ++ rows) (omega (arith, both, size, fits)) ∙ ap (λ (r : List Row). rows_after names config format next r (records_in left)) (append_assoc before rows more);
      onward = omega (arith, onward, on);
      further = λ some. further-by first line next (length rows) (length more) p.further q.further onward on (omega (arith, size, some));
      short = short;
      counted = omega (arith, first_counted, counted);
    }
