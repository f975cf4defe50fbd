-- What was written before all of it was sent out, and what goes out one text after the other.
use Rattle.std.proofs.Common.{◌≡◌, ◌⊎◌, ◌∙◌, ℕ, List, [], ◌∷◌, ap, length, map, Option, None, Some, Result, Ok, Err, OnOk, inl, inr, subst, sym, arith, IfErr, is_some, option_map, refl}
use Rattle.std.proofs.Math.Seq.{take-length}
use Rattle.std.proofs.lemmas.List.{length-map}
use Rattle.std.proofs.lemmas.Slice.Zip.{AllZip-long}
use Rattle.std.specs.List.{AllZip}
use Rattle.std.specs.Io.KnownBytes.{Appends, Keeps}
use Rattle.xm_day.proofs.Written.{appended}
use Rattle.xm_day.specs.Answers.{InFileOrder}
use Rattle.xm_day.specs.Days.{DayFiles}
use Rattle.xm_day.specs.declared.value.Completeness.{Completeness}
use Rattle.xm_day.specs.declared.value.HandsOn.{HandsOn}
use Rattle.xm_texts.specs.declared.asked.AskedTexts.{AskedTexts}
use Rattle.xm_config.specs.Day.{Day}
use Rattle.xm_replay.specs.declared.faults.DayFault.{DayFault}
use Rattle.xm_replay.specs.declared.faults.DayFault.TheVariants.{WriteFailed}
use Rattle.xm_config.specs.declared.config.SegmentConfig.{SegmentConfig}
use Rattle.xm_config.specs.declared.rows.Row.{Row}
use Rattle.xm_ticks.specs.Writing.{AppendsPrefix}
use Rattle.xm_workers.specs.Workers.{IsShared}
use Rattle.xm_program.specs.Days.{AppendsBeginning, DayCallEnds, DayOutputs, EndsBy, IsChosen, Sending, SendingEnds}
use Rattle.xm_program.specs.declared.concurrency.Concurrency.{Concurrency}
use Rattle.xm_program.specs.declared.concurrency.Concurrency.TheVariants.{Threads, Workers}

-- how a day ended whose rows are taken so, by another way to end that follows
pub ends-by : (concurrency : Concurrency) (Before After : (SegmentConfig → List Row → Day → Type 0) → Type 0) → ((days : SegmentConfig → List Row → Day → Type 0) → Before days → After days) → EndsBy concurrency Before → EndsBy concurrency After
ends-by (Threads threads) Before After follows ends = follows InFileOrder ends
ends-by (Workers workers) Before After follows ends = record {
  alone = λ one. follows InFileOrder (ends.alone one);
  shared = λ more. follows (IsShared workers) (ends.shared more);
}

-- by a way to end that any days have
pub ends-anyhow : (concurrency : Concurrency) (After : (SegmentConfig → List Row → Day → Type 0) → Type 0) → ((days : SegmentConfig → List Row → Day → Type 0) → After days) → EndsBy concurrency After
ends-anyhow (Threads threads) After holds = holds InFileOrder
ends-anyhow (Workers workers) After holds = record { alone = λ one. holds InFileOrder; shared = λ more. holds (IsShared workers) }

-- a day ended so, on whatever number of threads where none is said
pub ends-said : {asked : AskedTexts} {handing : HandsOn} {files : DayFiles} {out : DayOutputs} {result : Result Completeness DayFault} (said chosen : Concurrency) → IsChosen said chosen
    → DayCallEnds chosen asked handing files out result → DayCallEnds said asked handing files out result
ends-said (Threads None) (Threads threads) is ends = record { made = ends.made; is_day = ends.is_day; is_sent = ends.is_sent }
ends-said (Threads None) (Workers workers) is ends = absurd is
ends-said {asked} {handing} {files} {out} {result} (Threads (Some threads)) chosen is ends = subst (λ (c : Concurrency). DayCallEnds c asked handing files out result) is ends
ends-said {asked} {handing} {files} {out} {result} (Workers workers) chosen is ends = subst (λ (c : Concurrency). DayCallEnds c asked handing files out result) is ends

-- ---- texts

-- a part and all of a text are beginnings of it
pub part-of : (old new : Option (List ℕ)) (text : List ℕ) → AppendsPrefix old new text → AppendsBeginning old new text
part-of old new text part = let within = part.1 in (part.0, omega (arith, within), part.2)

pub whole-of : (old new : Option (List ℕ)) (text : List ℕ) → Appends old new text → AppendsBeginning old new text
whole-of old new text all = (length text, omega arith, subst (λ (t : List ℕ). Appends old new t) (sym (take-length text)) all)

pub all-of : (old mid new : Option (List ℕ)) (text : List ℕ) → Appends old mid text → Keeps mid new → AppendsBeginning old new text
all-of old mid new text all kept = whole-of old new text (appended old mid new text all kept)

pub begun-of : (old new : Option (List ℕ)) (text : List ℕ) → AppendsPrefix old new text ⊎ Appends old new text → AppendsBeginning old new text
begun-of old new text (inl part) = part-of old new text part
begun-of old new text (inr all) = whole-of old new text all

-- one text went out, or a beginning of it
pub one-sent : (s : Sending) (result : Result (Unit {0}) DayFault) → OnOk result (Appends s.old s.new s.text) → IfErr result (λ fault. (fault ≡ WriteFailed) × AppendsBeginning s.old s.new s.text) → SendingEnds (s ∷ []) result
one-sent s (Ok done) all begun = (all, tt)
one-sent s (Err fault) all begun = (begun.0, inl (begun.1, tt))

-- there are as many as were opened, whatever is read of each
pub so-many : {A B C : Type 0} (R : A → B → Type 0) (paths : List A) (opened now : List B) (read : B → C) → AllZip R paths opened → now ≡ opened → length (map read now) ≡ length paths
so-many R paths opened now read all is = length-map now read ∙ ap length is ∙ AllZip-long R paths opened all

-- there is one where there was
pub mapped-some : {A B : Type 0} (f : A → B) (o : Option A) → is_some (option_map f o) ≡ is_some o
mapped-some f None = refl
mapped-some f (Some x) = refl
