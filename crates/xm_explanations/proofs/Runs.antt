-- The fault of a run, by what its files give one after the other.
use Rattle.std.proofs.Common.{◌≡◌, ◌∙◌, true, false, Option, Some, None, is_some, Result, Ok, Err, refl, sym, ap}
use Rattle.xm_config.specs.declared.config.SegmentConfig.{SegmentConfig}
use Rattle.xm_explanations.specs.Explained.{IsCarriedBy, IsOpening, after_first, settings_with, fault_then, read_as, rows_fault, run_fault}
use Rattle.xm_explanations.specs.declared.read_files.ReadDay.{ReadDay}
use Rattle.xm_files.specs.Names.{NameLists}
use Rattle.xm_files.specs.Segment.{segment_of}
use Rattle.xm_files.specs.declared.file_faults.FileFault.{FileFault}
use Rattle.xm_replay.specs.declared.faults.DayFault.{DayFault}
use Rattle.xm_replay.specs.declared.faults.DayFault.TheVariants.{Segment, Carry}

-- there is a fault, or there is none
pub some-fault : {A : Type 0} (fault : Option A) → is_some fault ≡ true → (found : A) × (fault ≡ Some found)
some-fault (Some found) some = (found, refl)
some-fault None some = absurd (cc)

pub no-fault : {A : Type 0} (fault : Option A) → is_some fault ≡ false → fault ≡ None
no-fault (Some found) none = absurd (cc)
no-fault None none = refl

abbrev Read : Type 0
Read = SegmentConfig × NameLists

-- a segment was opened by what its file gives
pub segment-read : (r : Result Read FileFault) (told : Option DayFault) (read : Read) → IsOpening r told (Some read) → (told ≡ None) × (r ≡ Ok read)
segment-read (Ok given) told read is = let same : given ≡ read = cc in (is.0, ap Ok same)
segment-read (Err fault) told read is = absurd (cc)

-- or it was not
pub segment-faulty : (r : Result Read FileFault) (told : Option DayFault) → IsOpening r told None → (fault : FileFault) × (r ≡ Err fault) × (told ≡ Some (Segment fault))
segment-faulty (Ok given) told is = absurd (cc)
segment-faulty (Err fault) told is = (fault, refl, is.0)

-- settings that a carry file gave, where no mistake is told
pub carry-read : (r : Result SegmentConfig FileFault) (first rest : Option DayFault) (opened : SegmentConfig) → IsCarriedBy r first opened → after_first first rest ≡ None → r ≡ Ok opened
carry-read (Ok config) first rest opened is none = ap Ok (sym is.1)
carry-read (Err fault) first rest opened is none =
    let bad : Some (Carry fault) ≡ None = sym (ap (λ (f : Option DayFault). after_first f rest) is) ∙ none in
    absurd (cc)

module _ (d : ReadDay) where
  abbrev behind_segment : Read → Option DayFault
  behind_segment read = fault_then Carry (settings_with read.1 read.0 d.carried) (rows_fault read.1 d.orders.items)

  -- the segment file has a fault
  pub run-segment : (fault : FileFault) → read_as segment_of d.segment.text ≡ Err fault → run_fault d ≡ Some (Segment fault)
  run-segment fault is = ap (λ (r : Result Read FileFault). fault_then Segment r behind_segment) is

  -- it has none, and what is told behind it is the fault of the run
  pub run-behind : (config : SegmentConfig) (names : NameLists) (opened : SegmentConfig) (first : Option DayFault) → read_as segment_of d.segment.text ≡ Ok (config, names)
      → IsCarriedBy (settings_with names config d.carried) first opened → after_first first (rows_fault names d.orders.items opened) ≡ run_fault d
  run-behind config names opened first is carried = go (settings_with names config d.carried) refl carried
    where
      run-is : (r : Result SegmentConfig FileFault) → settings_with names config d.carried ≡ r → run_fault d ≡ fault_then Carry r (rows_fault names d.orders.items)
      run-is r e =
          ap (λ (s : Result Read FileFault). fault_then Segment s behind_segment) is ∙ ap (λ (s : Result SegmentConfig FileFault). fault_then Carry s (rows_fault names d.orders.items)) e

      go : (r : Result SegmentConfig FileFault) → settings_with names config d.carried ≡ r → IsCarriedBy r first opened → after_first first (rows_fault names d.orders.items opened) ≡ run_fault d
      go (Ok c) e h =
          ap (λ (f : Option DayFault). after_first f (rows_fault names d.orders.items opened)) h.0 ∙ ap (rows_fault names d.orders.items) h.1 ∙ sym (run-is (Ok c) e)
      go (Err fault) e h = ap (λ (f : Option DayFault). after_first f (rows_fault names d.orders.items opened)) h ∙ sym (run-is (Err fault) e)
