-- What is seen of rows, one part after another.
use Rattle.std.proofs.Common.{◌≡◌, ℕ, ◌+◌, ◌<◌, List, [], ◌∷◌, ◌++◌, get_or, length, take, None, Result, Ok, Err, refl, subst, sym, ap, ◌∙◌}
use Rattle.std.specs.Result.{IsErrAnd}
use Rattle.xm_config.specs.Day.{Day as TheDay, after_row, after_rows}
use Rattle.xm_config.specs.Opening.{segment_fault}
use Rattle.xm_config.specs.declared.config.SegmentConfig.{SegmentConfig}
use Rattle.xm_config.specs.declared.rows.Row.{Row}
use Rattle.xm_observers.specs.Observed.{HasObserved, observed_so_far, seen_of_rows}
use Rattle.xm_observers.specs.declared.observing.ObservedDay.{ObservedDay}
use Rattle.xm_replay.specs.declared.faults.DayFault.{DayFault}
use Rattle.xm_replay.specs.declared.faults.DayFault.TheVariants.{OutOfMemory}
use Rattle.std.proofs.lemmas.List.{take_more}

-- want of memory is told as such
pub if_memory : {O S : Type 0} (seen : O → S) (next : S → TheDay → Row → S) (first : S) (config : SegmentConfig) (rows : List Row) (result : Result (ObservedDay O) DayFault) → IsErrAnd result (λ fault. fault ≡ OutOfMemory tt) → segment_fault config ≡ None
    → HasObserved seen next first config rows result
if_memory seen next first config rows (Ok d) is sound = absurd is
if_memory seen next first config rows (Err fault) is sound = subst (λ (f : DayFault). HasObserved seen next first config rows (Err f)) (sym is) sound

-- desks that were opened just now have taken no row
pub none-observed : {O S : Type 0} (seen : O → S) (next : S → TheDay → Row → S) (first : S) (config : SegmentConfig) (day : Result (ObservedDay O) DayFault) → HasObserved seen next first config [] day → observed_so_far day ≡ 0
none-observed seen next first config (Ok d) begun = begun.all
none-observed seen next first config (Err fault) begun = refl

module _ {S : Type 0} (next : S → TheDay → Row → S) where
  pub seen-append : (seen : S) (d : TheDay) (rows more : List Row) → seen_of_rows next seen d (rows ++ more) ≡ seen_of_rows next (seen_of_rows next seen d rows) (after_rows d rows) more
  seen-append seen d [] more = refl
  seen-append seen d (row ∷ rows) more = seen-append (next seen d row) (after_row d row) rows more

  -- of the rows so far, and of one more
  pub seen-more : (first before after : S) (begun d : TheDay) (rows : List Row) (i : ℕ) (row : Row) → i < length rows → d ≡ after_rows begun (take i rows) → before ≡ seen_of_rows next first begun (take i rows)
      → after ≡ next before d (get_or rows i row) → after ≡ seen_of_rows next first begun (take (i + 1) rows)
  seen-more first before after begun d rows i row within is so_far step =
      let one = get_or rows i row in
      step
      ∙ ap (λ (s : S). next s d one) so_far
      ∙ ap (λ (e : TheDay). next (seen_of_rows next first begun (take i rows)) e one) is
      ∙ sym (seen-append first begun (take i rows) (one ∷ []))
      ∙ ap (seen_of_rows next first begun) (sym (take_more rows i row within))
