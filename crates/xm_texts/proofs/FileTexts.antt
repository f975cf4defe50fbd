-- The texts of the rows of a day, file by file.
use Rattle.std.proofs.Common.{◌≡◌, ℕ, ◌+◌, List, [], ◌∷◌, ◌++◌, get_or, Option, None, Ok, ap, arith, sym, ◌∙◌}
use Rattle.xm_texts.proofs.Tells.{agree-left, agree-right}
use Rattle.xm_texts.specs.RowAnswers.{AgreeOn}
use Rattle.xm_files.proofs.FilesRead.{whole-file}
use Rattle.xm_files.proofs.RowLines.{lines-within}
use Rattle.xm_files.proofs.TextsInFiles.{text-in-next, texts-stay}
use Rattle.xm_files.specs.Batches.{RowsLeft, rows_from, text_left}
use Rattle.xm_files.specs.Names.{NameLists}
use Rattle.xm_files.specs.OrderFiles.{FileRead, FilesLeft, FilesRead, ReadsFile, records_of_files, text_in_files}
use Rattle.xm_files.specs.RecordTexts.{TextsRead, text_from, texts_in}
use Rattle.xm_config.specs.declared.config.SegmentConfig.{SegmentConfig}
use Rattle.xm_config.specs.declared.rows.Row.{Row}

-- texts that agree with those of a day's files on all rows agree with those of the files before the last one on theirs
pub agree-earlier : (names : NameLists) (config : SegmentConfig) (known : List (Option (List ℕ))) (f : FilesLeft) (bytes : List ℕ) (files : List (List ℕ)) (rows own : List Row) (texts : ℕ → List ℕ) → FilesRead names config known f files rows
    → AgreeOn texts (text_in_files (files ++ bytes ∷ [])) (rows ++ own) → AgreeOn texts (text_in_files files) rows
agree-earlier names config known f bytes files rows own texts p agree = λ k d within.
    agree-left texts (text_in_files (files ++ bytes ∷ [])) rows own agree k d within ∙ texts-stay files (bytes ∷ []) f.first rows p.first p.lines k d within

-- and with those of the last one on its own
pub agree-own : (names : NameLists) (config : SegmentConfig) (known : List (Option (List ℕ))) (old new : FilesLeft) (file : FileRead) (reader : RowsLeft) (told : TextsRead) (files : List (List ℕ)) (rows own : List Row) (texts : ℕ → List ℕ)
    → FilesRead names config known old files rows → ReadsFile old new file → reader ≡ text_left file.bytes None file.first → rows_from names config reader [] ≡ Ok own → told ≡ record { orders = file.bytes; first = file.first; text = [] }
    → AgreeOn texts (text_in_files (files ++ file.bytes ∷ [])) (rows ++ own) → AgreeOn texts (texts_in told) own
agree-own names config known old new file reader told files rows own texts p reads begins read is agree = λ k d within.
    let bytes = file.bytes in
    let line = (get_or own k d).line in
    let gives = sym (whole-file names config file.first bytes reads.short) ∙ ap (λ (r : RowsLeft). rows_from names config r []) (sym begins) ∙ read in
    let at = lines-within names config file.first bytes own gives k d within in
    let behind = at.0 in
    let below = at.1 in
    let first : file.first ≡ records_of_files files + 1 = reads.first ∙ p.first in
    agree-right texts (text_in_files (files ++ bytes ∷ [])) rows own agree k d within
    ∙ text-in-next files bytes [] line (omega (arith, behind, first)) (omega (arith, below, first))
    ∙ (λ i. text_from ((sym first) i) bytes line)
    ∙ sym (ap (λ (t : TextsRead). texts_in t line) is)
