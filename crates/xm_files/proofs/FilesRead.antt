-- The order files of a day that were read, one after another.
use Rattle.std.proofs.Common.{◌≡◌, ◌≢◌, ℕ, ◌+◌, ◌-◌, ◌<◌, ◌≤◌, Bool, true, false, nat_lt, List, [], ◌∷◌, ◌++◌, length, map, take, drop, Option, Some, None, Result, Ok, Err, IfSome, append_assoc, refl, ap, arith, sym, subst, ◌∙◌}
use Rattle.std.proofs.Math.Seq.{take-append_seam}
use Rattle.std.proofs.lemmas.Bool.Decides.{nat_tests}
use Rattle.std.proofs.lemmas.List.{append-nil, length-append, length-replicate, take-append-drop, take-map}
use Rattle.std.proofs.lemmas.List.Elements.{All-append, All-nil, All-weaker}
use Rattle.std.proofs.lemmas.Slice.Zip.{AllZip-long}
use Rattle.std.proofs.Math.ListN.{replicate}
use Rattle.std.specs.Bool.{IsTrue, OnFalse, OnTrue}
use Rattle.std.specs.List.{All, AllZip}
use Rattle.xm_files.proofs.FewRecords.{few-records-in}
use Rattle.xm_files.proofs.LaterFiles.{alone, later-file, own-file}
use Rattle.xm_files.proofs.RowLines.{rows-stand}
use Rattle.xm_files.proofs.TextsInFiles.{texts-next, texts-stay}
use Rattle.xm_files.proofs.WholeFiles.{not-outside}
use Rattle.xm_files.specs.Batches.{RowsLeft, rows_from, text_left}
use Rattle.xm_files.specs.FileFaults.{fault_at, is_from_outside, max_bytes, of_reading, own_fault}
use Rattle.xm_files.specs.Names.{NameLists}
use Rattle.xm_files.specs.OrderFiles.{AreBytesOf, FailsFile, FileRead, FilesLeft, FilesRead, HasFault, HaveFault, HaveNoneBefore, ReadsFile, StandsIn, after_file, orders_of_files, records_of_files, rows_with_files, text_in_files}
use Rattle.xm_files.specs.Orders.{later_row, orders_from, orders_of, records_in}
use Rattle.xm_files.specs.RecordTexts.{text_from}
use Rattle.xm_files.specs.declared.file_faults.FileCause.{FileCause}
use Rattle.xm_files.specs.declared.file_faults.FileCause.TheVariants as cause
use Rattle.xm_files.specs.declared.file_faults.FileFault.{FileFault}
use Rattle.xm_files.specs.declared.file_faults.OrdersFault.{OrdersFault}
use Rattle.xm_config.specs.declared.config.SegmentConfig.{SegmentConfig}
use Rattle.xm_config.specs.declared.rows.Row.{Row}

-- A file that can't be read: where its bytes aren't known, they may be any that have the fault.

long-text : (most : ℕ) → (bytes : List ℕ) × (most < length bytes)
long-text most = let size = length-replicate {A = ℕ} (most + 1) 0 in (replicate (most + 1) 0, omega (arith, size))

too-long : (bytes : List ℕ) (names : NameLists) (config : SegmentConfig) → max_bytes < length bytes → orders_of names config bytes ≡ Err (fault_at 0 cause.TooLong)
too-long bytes names config long = let test : nat_lt max_bytes (length bytes) ≡ true = grind (arith, nat_tests) in rw test refl

unknown-fault : (line : ℕ) (c : FileCause) → line ≡ 0 → IsTrue (of_reading c) → OnFalse (is_from_outside c) (HasFault None (fault_at line c))
unknown-fault line cause.ReadFailed zero of = tt
unknown-fault line cause.TooLong zero of =
    let long = long-text max_bytes in (
      long.0,
      tt,
      λ names config. too-long long.0 names config long.1 ∙ ap (λ (n : ℕ). Err (fault_at n cause.TooLong)) (sym zero),
    )
unknown-fault line cause.Syntax zero of = cc
unknown-fault line cause.MissingKey zero of = cc
unknown-fault line cause.UnknownKey zero of = cc
unknown-fault line cause.BadValue zero of = cc
unknown-fault line cause.DuplicateName zero of = cc
unknown-fault line cause.BadHeader zero of = cc
unknown-fault line cause.BadField zero of = cc
unknown-fault line cause.TooManyRows zero of = cc
unknown-fault line (cause.OutOfMemory _) zero of = tt

on-true : (t : Bool) (P Q : Type 0) → (P → Q) → OnTrue t P → OnTrue t Q
on-true true P Q f h = f h
on-true false P Q f h = tt

always : (t : Bool) (P : Type 0) → P → OnTrue t P
always true P h = h
always false P h = tt

on-false : (t : Bool) (P Q : Type 0) → (P → Q) → OnFalse t P → OnFalse t Q
on-false true P Q f h = tt
on-false false P Q f h = f h

has-fault : (told : Option (List ℕ)) (fault : FileFault) → fault.line ≡ 0 → IsTrue (of_reading fault.cause)
    → OnFalse (is_from_outside fault.cause) (IfSome told (λ bytes. (names : NameLists) (config : SegmentConfig) → orders_of names config bytes ≡ Err fault)) → OnFalse (is_from_outside fault.cause) (HasFault told fault)
has-fault None fault zero of h = unknown-fault fault.line fault.cause zero of
has-fault (Some bytes) fault zero of h =
    on-false (is_from_outside fault.cause) ((names : NameLists) (config : SegmentConfig) → orders_of names config bytes ≡ Err fault) (HasFault (Some bytes) fault) (λ gives. (bytes, refl, gives)) h

-- the reader of the next file failed, or gave too much: the fault is told with the file's number, and has no line
pub reading-fails : (old : FilesLeft) (next : Option (List ℕ)) (left : List (Option (List ℕ))) (number before : ℕ) (fault : FileFault) (told : OrdersFault) → old.left ≡ next ∷ left → number ≡ old.number + 1 → (fault.line ≡ 0) × IsTrue (of_reading fault.cause)
    → OnFalse (is_from_outside fault.cause) (IfSome next (λ bytes. (names : NameLists) (config : SegmentConfig) → orders_of names config bytes ≡ Err fault)) → told ≡ record { file = number; fault = own_fault before fault } → FailsFile old told
reading-fails old next left number before fault told begins one reading gives is =
    let zero = reading.0 in
    let line : fault.line - before ≡ fault.line = omega (arith, zero) in
    let same : told ≡ record { file = number; fault = fault } = is ∙ (λ i. record { file = number; fault = fault_at (line i) fault.cause }) in
    subst (FailsFile old) (sym same) (record {
      told = next;
      more = left;
      left = begins;
      number = one;
      own = has-fault next fault zero reading.1 gives;
      outside = always (is_from_outside fault.cause) (fault.line ≡ 0) zero;
    })

-- What is known of the bytes of files.

zip-push : {A B : Type 0} (R : A → B → Type 0) (xs : List A) (ys : List B) (x : A) (y : B) → AllZip R xs ys → R x y → AllZip R (xs ++ x ∷ []) (ys ++ y ∷ [])
zip-push R [] [] x y h r = (r, tt)
zip-push R [] (b ∷ ys) x y h r = absurd h
zip-push R (a ∷ xs) [] x y h r = absurd h
zip-push R (a ∷ xs) (b ∷ ys) x y h r = (h.0, zip-push R xs ys x y h.1 r)

abbrev Told : Option (List ℕ) → List ℕ → Type 0
Told told bytes = IfSome told (λ all. bytes ≡ all)

-- files of known bytes are those
pub known-files : (files others : List (List ℕ)) → AreBytesOf (map (λ (bytes : List ℕ). Some bytes) files) others → others ≡ files
known-files [] [] h = refl
known-files [] (other ∷ others) h = absurd h
known-files (bytes ∷ files) [] h = absurd h
known-files (bytes ∷ files) (other ∷ others) h = λ i. h.0 i ∷ known-files files others h.1 i

-- those that are told first, of all readers
told-first : (known told left : List (Option (List ℕ))) (files : List (List ℕ)) → known ≡ told ++ left → AreBytesOf told files → AreBytesOf (take (length files) known) files
told-first known told left files all bytes =
    let size = AllZip-long Told told files bytes in
    let same : take (length files) known ≡ told = ap (λ (n : ℕ). take n known) size ∙ ap (take (length told)) all ∙ take-append_seam told left in
    subst (λ (first : List (Option (List ℕ))). AreBytesOf first files) (sym same) bytes

told-next : (known told : List (Option (List ℕ))) (next : Option (List ℕ)) (old new : List (Option (List ℕ))) → known ≡ told ++ old → old ≡ next ∷ new → known ≡ (told ++ next ∷ []) ++ new
told-next known told next old new all left = all ∙ ap (λ (rest : List (Option (List ℕ))). told ++ rest) left ∙ sym (append_assoc told (next ∷ []) new)

records-push : (files : List (List ℕ)) (bytes : List ℕ) → records_of_files (files ++ bytes ∷ []) ≡ records_of_files files + length (records_in bytes)
records-push [] bytes = omega arith
records-push (own ∷ files) bytes = let more = records-push files bytes in omega (arith, more)

-- The files so far.

pub files-begin : (names : NameLists) (config : SegmentConfig) (known : List (Option (List ℕ))) (f : FilesLeft) → f ≡ record { left = known; number = 0; first = 1 } → FilesRead names config known f [] []
files-begin names config known f begins = subst (λ (f : FilesLeft). FilesRead names config known f [] []) (sym begins) (record {
  told = [];
  readers = refl;
  bytes = tt;
  number = refl;
  first = refl;
  few = omega arith;
  few_rows = omega arith;
  lines = All-nil (StandsIn 0 1);
  so_far = λ more. refl;
})

-- what a file gives that is short enough
pub whole-file : (names : NameLists) (config : SegmentConfig) (first : ℕ) (bytes : List ℕ) → length bytes ≤ max_bytes → rows_from names config (text_left bytes None first) [] ≡ orders_from names config first bytes
whole-file names config first bytes short = let test : nat_lt max_bytes (length bytes) ≡ false = grind (arith, nat_tests) in rw test refl

-- what a file gives behind others
next-file : (names : NameLists) (config : SegmentConfig) (known : List (Option (List ℕ))) (old new : FilesLeft) (file : FileRead) (files : List (List ℕ)) (rows : List Row) (gives : Result (List Row) FileFault) → FilesRead names config known old files rows → ReadsFile old new file
    → rows_from names config (text_left file.bytes None file.first) [] ≡ gives → orders_from names config (records_of_files files + 1) file.bytes ≡ gives
next-file names config known old new file files rows gives p reads e =
    ap (λ (n : ℕ). orders_from names config n file.bytes) (sym (reads.first ∙ p.first)) ∙ sym (whole-file names config file.first file.bytes reads.short) ∙ e

-- one more that has no fault
more-files : (names : NameLists) (config : SegmentConfig) (known : List (Option (List ℕ))) (old middle new : FilesLeft) (file : FileRead) (files : List (List ℕ)) (rows own : List Row) → FilesRead names config known old files rows → ReadsFile old middle file
    → rows_from names config (text_left file.bytes None file.first) [] ≡ Ok own → new ≡ record middle { first = file.first + length (records_in file.bytes) } → FilesRead names config known new (files ++ file.bytes ∷ []) (rows ++ own)
more-files names config known old middle new file files rows own p reads e ended =
    let before = records_of_files files in
    let bytes = file.bytes in
    let count = length (records_in bytes) in
    let gives = next-file names config known old middle file files rows (Ok own) p reads e in
    let own_rows = alone before (orders_of names config bytes) own (sym (later-file names config before bytes) ∙ gives) in
    let stand = rows-stand names config (before + 1) bytes own gives in
    let few_own = stand.few in
    let few_records = few-records-in names config (before + 1) bytes own gives in
    let size = length-append rows own in
    let long = length-append files (bytes ∷ []) in
    let sum = records-push files bytes in
    let left = ap (λ (f : FilesLeft). f.left) ended in
    let number = ap (λ (f : FilesLeft). f.number) ended in
    let first = ap (λ (f : FilesLeft). f.first) ended in
    let file_first = reads.first in
    let one = reads.number in
    let old_number = p.number in
    let old_first = p.first in
    let few = p.few in
    let few_rows = p.few_rows in
    let next : new.first ≡ (before + count) + 1 = omega (arith, first, file_first, old_first) in
    let many : new.number ≡ old.number + 1 = number ∙ one in
    record {
      told = p.told ++ reads.told ∷ [];
      readers = told-next known p.told reads.told old.left new.left p.readers (reads.left ∙ ap (λ (rest : List (Option (List ℕ))). reads.told ∷ rest) (sym left));
      bytes = zip-push Told p.told files reads.told bytes p.bytes reads.bytes;
      number = omega (arith, many, old_number, long);
      first = omega (arith, next, sum);
      few = omega (arith, few, old_first, next, many, few_records);
      few_rows = omega (arith, few_rows, few_own, size, many);
      lines = All-append (StandsIn 0 new.first) rows own (All-weaker (StandsIn 0 old.first) (StandsIn 0 new.first) (λ row at. let below = at.1 in (at.0, omega (arith, below, old_first, next))) rows p.lines)
          (All-weaker (StandsIn (before + 1) ((before + 1) + count)) (StandsIn 0 new.first) (λ row at. let behind = at.0 in let below = at.1 in (omega (arith, behind), omega (arith, below, next))) own stand.lines);
      so_far = λ more.
          ap (orders_of_files names config) (append_assoc files (bytes ∷ []) more)
          ∙ p.so_far (bytes ∷ more)
          ∙ (λ i. after_file (length files + 1) (own_rows.1 i) (λ own. rows_with_files names config ((length files + 1) + 1) (before + count) (rows ++ map (later_row before) own) more))
          ∙ (λ i. rows_with_files names config ((sym long) i + 1) ((sym sum) i) (rows ++ own_rows.2 i) more);
    }

-- one more that was read through, and has no fault: the next header has the number at which its reader stands
pub files-more : (names : NameLists) (config : SegmentConfig) (known : List (Option (List ℕ))) (old middle new : FilesLeft) (file : FileRead) (reader : RowsLeft) (line : ℕ) (files : List (List ℕ)) (rows own : List Row) → FilesRead names config known old files rows
    → ReadsFile old middle file → reader ≡ text_left file.bytes None file.first → rows_from names config reader [] ≡ Ok own → line ≡ reader.line + length reader.records → new ≡ record middle { first = line }
    → FilesRead names config known new (files ++ file.bytes ∷ []) (rows ++ own)
files-more names config known old middle new file reader line files rows own p reads begins e at ended =
    let behind : line ≡ file.first + length (records_in file.bytes) = at ∙ ap (λ (r : RowsLeft). r.line + length r.records) begins in
    more-files names config known old middle new file files rows own p reads (ap (λ (r : RowsLeft). rows_from names config r []) (sym begins) ∙ e) (ended ∙ ap (λ (n : ℕ). record middle { first = n }) behind)

-- where its rows stand
pub own-lines : (names : NameLists) (config : SegmentConfig) (known : List (Option (List ℕ))) (old new : FilesLeft) (file : FileRead) (reader : RowsLeft) (files : List (List ℕ)) (rows own : List Row) → FilesRead names config known old files rows → ReadsFile old new file
    → reader ≡ text_left file.bytes None file.first → rows_from names config reader [] ≡ Ok own → All (StandsIn file.first (file.first + length (records_in file.bytes))) own
own-lines names config known old new file reader files rows own p reads begins e =
    let gives = sym (whole-file names config file.first file.bytes reads.short) ∙ ap (λ (r : RowsLeft). rows_from names config r []) (sym begins) ∙ e in
    (rows-stand names config file.first file.bytes own gives).lines

-- their texts, and those of the rows before them, among those of all files
pub own-texts : (names : NameLists) (config : SegmentConfig) (known : List (Option (List ℕ))) (old new : FilesLeft) (file : FileRead) (reader : RowsLeft) (files more : List (List ℕ)) (rows own : List Row) → FilesRead names config known old files rows → ReadsFile old new file
    → reader ≡ text_left file.bytes None file.first → rows_from names config reader [] ≡ Ok own → All (λ row. text_in_files (files ++ file.bytes ∷ more) row.line ≡ text_from file.first file.bytes row.line) own
own-texts names config known old new file reader files more rows own p reads begins e =
    texts-next files file.bytes more file.first own (reads.first ∙ p.first) (own-lines names config known old new file reader files rows own p reads begins e)

pub earlier-texts : (names : NameLists) (config : SegmentConfig) (known : List (Option (List ℕ))) (f : FilesLeft) (files more : List (List ℕ)) (rows : List Row) → FilesRead names config known f files rows → All (λ row. text_in_files (files ++ more) row.line ≡ text_in_files files row.line) rows
earlier-texts names config known f files more rows p = texts-stay files more f.first rows p.first p.lines

-- so many files were read, of all
pub number-within : (names : NameLists) (config : SegmentConfig) (known : List (Option (List ℕ))) (f : FilesLeft) (files : List (List ℕ)) (rows : List Row) → FilesRead names config known f files rows → f.number + length f.left ≡ length known
number-within names config known f files rows p =
    let size = AllZip-long Told p.told files p.bytes in
    let all = ap length p.readers ∙ length-append p.told f.left in
    let number = p.number in
    omega (arith, size, all, number)

-- the next one has a fault
next-fault : (names : NameLists) (config : SegmentConfig) (known : List (Option (List ℕ))) (old new : FilesLeft) (file : FileRead) (files : List (List ℕ)) (rows : List Row) (fault : FileFault) → FilesRead names config known old files rows → ReadsFile old new file
    → rows_from names config (text_left file.bytes None file.first) [] ≡ Err fault → HaveFault names config known (record { file = new.number; fault = own_fault (new.first - 1) fault })
next-fault names config known old new file files rows fault p reads e =
    let before = records_of_files files in
    let own = own-file names config before file.bytes fault (next-file names config known old new file files rows (Err fault) p reads e) in
    let all = told-next known p.told reads.told old.left new.left p.readers reads.left in
    let number : new.number ≡ length files + 1 = reads.number ∙ ap (λ (n : ℕ). n + 1) p.number in
    let first : new.first - 1 ≡ before = (let same = reads.same_first ∙ p.first in omega (arith, same)) in (
      files ++ file.bytes ∷ [],
      told-first known (p.told ++ reads.told ∷ []) new.left (files ++ file.bytes ∷ []) all (zip-push Told p.told files reads.told file.bytes p.bytes reads.bytes),
      λ more.
          ap (orders_of_files names config) (append_assoc files (file.bytes ∷ []) more)
          ∙ p.so_far (file.bytes ∷ more)
          ∙ (λ i. after_file (length files + 1) (own i) (λ own. rows_with_files names config ((length files + 1) + 1) (before + length (records_in file.bytes)) (rows ++ map (later_row before) own) more))
          ∙ (λ i. Err (record { file = (sym number) i; fault = own_fault ((sym first) i) fault })),
    )

pub file-fails : (names : NameLists) (config : SegmentConfig) (known : List (Option (List ℕ))) (old new : FilesLeft) (file : FileRead) (reader : RowsLeft) (files : List (List ℕ)) (rows : List Row) (fault : FileFault) (told : OrdersFault) → FilesRead names config known old files rows
    → ReadsFile old new file → reader ≡ text_left file.bytes None file.first → (fault.cause ≢ cause.OutOfMemory tt → rows_from names config reader [] ≡ Err fault) → told ≡ record { file = new.number; fault = own_fault (new.first - 1) fault }
    → OnFalse (is_from_outside told.fault.cause) (HaveFault names config known told)
file-fails names config known old new file reader files rows fault told p reads begins e is =
    subst (λ (f : OrdersFault). OnFalse (is_from_outside f.fault.cause) (HaveFault names config known f)) (sym is)
    (not-outside (HaveFault names config known (record { file = new.number; fault = own_fault (new.first - 1) fault })) fault.cause
    (λ other. next-fault names config known old new file files rows fault p reads (ap (λ (r : RowsLeft). rows_from names config r []) (sym begins) ∙ e other)))

-- the same where it is known of a fault that the bytes decide
pub file-faults : (names : NameLists) (config : SegmentConfig) (known : List (Option (List ℕ))) (old new : FilesLeft) (file : FileRead) (reader : RowsLeft) (files : List (List ℕ)) (rows : List Row) (fault : FileFault) (told : OrdersFault) → FilesRead names config known old files rows
    → ReadsFile old new file → reader ≡ text_left file.bytes None file.first → OnFalse (is_from_outside fault.cause) (rows_from names config reader [] ≡ Err fault) → told ≡ record { file = new.number; fault = own_fault (new.first - 1) fault }
    → OnFalse (is_from_outside told.fault.cause) (HaveFault names config known told)
file-faults names config known old new file reader files rows fault told p reads begins e is =
    subst (λ (f : OrdersFault). OnFalse (is_from_outside f.fault.cause) (HaveFault names config known f)) (sym is)
    (on-false (is_from_outside fault.cause) (rows_from names config reader [] ≡ Err fault) (HaveFault names config known (record { file = new.number; fault = own_fault (new.first - 1) fault }))
    (λ faults. next-fault names config known old new file files rows fault p reads (ap (λ (r : RowsLeft). rows_from names config r []) (sym begins) ∙ faults)) e)

-- a fault that the bytes don't decide has no line
pub outside-fails : (number before : ℕ) (fault : FileFault) (told : OrdersFault) → OnTrue (is_from_outside fault.cause) (fault.line ≡ 0) → told ≡ record { file = number; fault = own_fault before fault } → OnTrue (is_from_outside told.fault.cause) (told.fault.line ≡ 0)
outside-fails number before fault told h is =
    subst (λ (f : OrdersFault). OnTrue (is_from_outside f.fault.cause) (f.fault.line ≡ 0)) (sym is) (on-true (is_from_outside fault.cause) (fault.line ≡ 0) (fault.line - before ≡ 0) (λ zero. omega (arith, zero)) h)

-- the next one can't be read
pub next-fails : (names : NameLists) (config : SegmentConfig) (known : List (Option (List ℕ))) (old : FilesLeft) (files : List (List ℕ)) (rows : List Row) (fault : OrdersFault) → FilesRead names config known old files rows → FailsFile old fault
    → OnFalse (is_from_outside fault.fault.cause) (HaveFault names config known fault)
next-fails names config known old files rows fault p fails =
    on-false (is_from_outside fault.fault.cause) (HasFault fails.told fault.fault) (HaveFault names config known fault)
    (λ own.
    let bytes = own.0 in
    let before = records_of_files files in
    let all = told-next known p.told fails.told old.left fails.more p.readers fails.left in
    let number : fault.file ≡ length files + 1 = fails.number ∙ ap (λ (n : ℕ). n + 1) p.number in (
      files ++ bytes ∷ [],
      told-first known (p.told ++ fails.told ∷ []) fails.more (files ++ bytes ∷ []) all (zip-push Told p.told files fails.told bytes p.bytes own.1),
      λ more.
          ap (orders_of_files names config) (append_assoc files (bytes ∷ []) more)
          ∙ p.so_far (bytes ∷ more)
          ∙ (λ i. after_file (length files + 1) (own.2 names config i) (λ own. rows_with_files names config ((length files + 1) + 1) (before + length (records_in bytes)) (rows ++ map (later_row before) own) more))
          ∙ (λ i. Err (record { file = (sym number) i; fault = fault.fault })),
    ))
    fails.own

-- those before the next one have no fault
pub none-before : (names : NameLists) (config : SegmentConfig) (known : List (Option (List ℕ))) (old : FilesLeft) (files : List (List ℕ)) (rows : List Row) (next : Option (List ℕ)) (more : List (Option (List ℕ))) (number : ℕ) → FilesRead names config known old files rows
    → old.left ≡ next ∷ more → number ≡ old.number + 1 → HaveNoneBefore names config known number
none-before names config known old files rows next more number p left one =
    let size = AllZip-long Told p.told files p.bytes in
    let all = ap length p.readers ∙ length-append p.told old.left in
    let some = ap length left in
    let read = p.number in (
      files,
      told-first known p.told old.left files p.readers p.bytes,
      rows,
      ap (orders_of_files names config) (sym (append-nil files)) ∙ p.so_far [],
      omega (arith, one, read),
      omega (arith, size, all, some, one, read),
    )

-- none is left
pub files-end : (names : NameLists) (config : SegmentConfig) (known : List (Option (List ℕ))) (f : FilesLeft) (files : List (List ℕ)) (rows : List Row) → FilesRead names config known f files rows → f.left ≡ []
    → AreBytesOf known files × (orders_of_files names config files ≡ Ok rows)
files-end names config known f files rows p none =
    let all : known ≡ p.told = p.readers ∙ ap (λ (rest : List (Option (List ℕ))). p.told ++ rest) none ∙ append-nil p.told in (
      subst (λ (told : List (Option (List ℕ))). AreBytesOf told files) (sym all) p.bytes,
      ap (orders_of_files names config) (sym (append-nil files)) ∙ p.so_far [],
    )

-- where all bytes are known, the day has the fault
pub known-fault : (names : NameLists) (config : SegmentConfig) (files : List (List ℕ)) (fault : OrdersFault) → HaveFault names config (map (λ (bytes : List ℕ). Some bytes) files) fault → orders_of_files names config files ≡ Err fault
known-fault names config files fault h =
    let some : List ℕ → Option (List ℕ) = λ bytes. Some bytes in
    let n = length h.0 in
    let first : h.0 ≡ take n files = known-files (take n files) h.0 (subst (λ (told : List (Option (List ℕ))). AreBytesOf told h.0) (take-map some n files) h.1) in
    ap (orders_of_files names config) (sym (take-append-drop n files) ∙ ap (λ (begun : List (List ℕ)). begun ++ drop n files) (sym first)) ∙ h.2 (drop n files)
