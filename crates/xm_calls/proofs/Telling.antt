-- The calls of a state as they are told, by their reasons; and of rows, one after another.
use Rattle.std.proofs.Common.{◌≡◌, ◌∙◌, ◌++◌, ℕ, false, List, [], ◌∷◌, None, Result, Ok, Err, IfErr, IfOk, append-nil, append_assoc, refl, subst, sym, ap}
use Rattle.xm_calls.specs.Calls.{HasTables, call_text, in_phase, moment_of, next_told, tables_text, told_before}
use Rattle.xm_calls.specs.declared.asked.CallsAsked.{CallsAsked}
use Rattle.xm_calls.specs.declared.asked.Form.{Form}
use Rattle.xm_calls.specs.declared.asked.Form.TheVariants.{Plain, Csv}
use Rattle.xm_config.specs.Day.{Day as TheDay, after_row, opening_day, told_of_rows}
use Rattle.xm_config.specs.Opening.{segment_fault}
use Rattle.xm_config.specs.declared.config.SegmentConfig.{SegmentConfig}
use Rattle.xm_config.specs.declared.rows.Row.{Row}
use Rattle.std.specs.Global.{Global}
use Rattle.std.specs.Prelude.{Vec}
use Rattle.xm_files.specs.Names.{NameLists}
use Rattle.xm_observers.specs.Observed.{seen_of_rows}
use Rattle.xm_replay.specs.declared.faults.DayFault.{DayFault}
use Rattle.xm_replay.specs.declared.faults.DayFault.TheVariants.{OutOfMemory}
use Rattle.xm_reason_texts.specs.Blocks.{block, block_of, title_line}
use Rattle.xm_reason_texts.specs.Rows.{reason_rows, row_start, reason_rows_of}
use Rattle.xm_reasons.specs.AskedRanges.{asked_ranges}
use Rattle.xm_reasons.specs.Reasons.{AreReasons, is_call}
use Rattle.xm_reasons.specs.declared.calls.CallReasons.{CallReasons}
use Rattle.xm_rules.specs.Auction.{auction_price}
use Rattle.xm_rules.specs.State.{State, ranges, ref1}
use Rattle.xm_rules.specs.declared.phases.Phase.{Phase}
use Rattle.xm_rules.specs.declared.phases.Phase.TheVariants.{PreTrading, Call, Continuous, PostTrading, Ended}

module _ {A : Type 0} (name : List ℕ) (row : Row) (s : State) (r : CallReasons A) (are : AreReasons s r) where
  ranges-are : r.ranges.items ≡ asked_ranges (ranges s) r.stage (auction_price s.phase s.orders (ref1 s))
  ranges-are = are.ranges ∙ ap (asked_ranges (ranges s) r.stage) are.price

  pub block-told : block name s.settings.tick row.line (moment_of row.command) r ≡ call_text name Plain row s
  block-told =
      (λ i. block_of (title_line name row.line (moment_of row.command) r.auction r.stage) s.settings.tick (are.candidates i) (are.last i) (ranges-are i) (are.price i) (are.rule i))
      ∙ sym (ap (in_phase name Plain row s) are.phase)

  pub rows-told : reason_rows name s.settings.tick row.line r ≡ call_text name Csv row s
  rows-told =
      (λ i. reason_rows_of (row_start name row.line r.auction r.stage) s.settings.tick (are.candidates i) (are.last i) (ranges-are i) (are.price i) (are.rule i))
      ∙ sym (ap (in_phase name Csv row s) are.phase)

-- outside a call nothing is told
pub none-told : (name : List ℕ) (form : Form) (row : Row) (s : State) → is_call s.phase ≡ false → call_text name form row s ≡ []
none-told name form row s none = go s.phase none
  where
    go : (phase : Phase) → is_call phase ≡ false → in_phase name form row s phase ≡ []
    go (Call auction stage) bad = absurd (cc)
    go PreTrading none = refl
    go Continuous none = refl
    go PostTrading none = refl
    go Ended none = refl

-- what was told so far, and of more rows
pub told-seen : (names : NameLists) (name : List ℕ) (asked : CallsAsked) (text : List ℕ) (d : TheDay) (rows : List Row)
    → seen_of_rows next_told (record { names = names; name = name; asked = asked; text = text }) d rows ≡ record { names = names; name = name; asked = asked; text = text ++ told_of_rows (told_before names name asked) d rows }
told-seen names name asked text d [] = ap (λ (t : List ℕ). record { names = names; name = name; asked = asked; text = t }) (sym (append-nil text))
told-seen names name asked text d (row ∷ rows) =
    told-seen names name asked (text ++ told_before names name asked d row) (after_row d row) rows
    ∙ ap (λ (t : List ℕ). record { names = names; name = name; asked = asked; text = t }) (append_assoc text (told_before names name asked d row) (told_of_rows (told_before names name asked) (after_row d row) rows))

-- the whole text of the calls of a day, or no memory for it
pub finished-told : (names : NameLists) (name : List ℕ) (asked : CallsAsked) (config : SegmentConfig) (rows : List Row) (told : List ℕ) (result : Result (Vec ℕ Global) DayFault) → segment_fault config ≡ None → told ≡ told_of_rows (told_before names name asked) (opening_day config) rows
    → IfOk result (λ text. text.items ≡ tables_text name asked told) → IfErr result (λ fault. fault ≡ OutOfMemory tt) → HasTables names name asked config rows result
finished-told names name asked config rows told (Ok text) sound is whole memory =
    (sound, whole ∙ ap (tables_text name asked) is)
finished-told names name asked config rows told (Err fault) sound is whole memory = subst (λ (f : DayFault). HasTables names name asked config rows (Err f)) (sym memory) sound
