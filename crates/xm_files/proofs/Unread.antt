-- The records that a reader has left.
use Rattle.std.proofs.Common.{Bor, ◌≡◌, ℕ, suc, zero, ◌+◌, ◌≤◌, Bool, true, false, if◌then◌else◌, List, [], ◌∷◌, length, Option, Some, None, inl, refl, sym, arith, ap, ◌∙◌, add-one}
use Rattle.std.specs.Option.{option_map_or}
use Rattle.csv.specs.Machine.{Read, next_record, ends_at_end}
use Rattle.csv.specs.Reading.{NextIs, ReadRecord, ReadsNext, Ready, default_config, reader_config, reader_state, reader_trim, records_from, source_of, strip_bom, took_first}
use Rattle.csv.specs.declared.parser.State.{State}
use Rattle.csv.specs.declared.parser.State.TheVariants as st
use Rattle.csv.specs.declared.reader.Reader.{Reader}
use Rattle.csv.specs.declared.reader.Trim.TheVariants as trim
use Rattle.csv.proofs.ReadFacts.{rows-end}
use Rattle.xm_files.proofs.LineRecords.{same-records}
use Rattle.xm_files.proofs.Takes.{takes, records-more, records-none}
use Rattle.xm_files.specs.Unread.{IsBetween, known, records_left}

few-by : (n : ℕ) (s : State) (text : List ℕ) (o : Option Read) → next_record default_config s [] [] text ≡ o
    → ((read : Read) → next_record default_config s [] [] text ≡ Some read → length (records_from default_config n read.1 read.2) ≤ length read.2)
    → ends_at_end s ≡ false → length (records_from default_config (suc n) s text) ≤ length text
few-by n s text None e later between = let none = ap length (records-none n s text e) in omega (arith, none)
few-by n s text (Some read) e later between =
    let more = ap length (records-more n s text read e) in
    let fewer = (takes s text read between e).0 in
    let rest = later read e in
    omega (arith, more, fewer, rest)

pub few-records : (n : ℕ) (s : State) (text : List ℕ) → ends_at_end s ≡ false → length (records_from default_config n s text) ≤ length text
unfolding records_from
few-records zero s text between = omega arith
few-records (suc n) s text between =
    few-by n s text (next_record default_config s [] [] text) refl (λ read e. few-records n read.1 read.2 (takes s text read between e).1) between

shorter-if : (t : Bool) (a b c : ℕ) (rest : List ℕ) → length (if t then rest else a ∷ b ∷ c ∷ rest) ≤ length (a ∷ b ∷ c ∷ rest)
shorter-if true a b c rest = omega arith
shorter-if false a b c rest = omega arith

-- a text is no longer without its byte order mark
pub strip-shorter : (text : List ℕ) → length (strip_bom text) ≤ length text
unfolding strip_bom
strip-shorter [] = omega arith
strip-shorter (a ∷ []) = omega arith
strip-shorter (a ∷ b ∷ []) = omega arith
strip-shorter (a ∷ b ∷ c ∷ rest) = shorter-if _ a b c rest

left-by : (known : Option (List ℕ)) (s t : State) (text : List ℕ) → known ≡ Some text → s ≡ t → option_map_or (λ left. records_from default_config (length left + 1) s left) known [] ≡ records_from default_config (length text + 1) t text
left-by known s t text e f = rw (e, f) refl

pub records-left : (reader : Reader (Bor (List ℕ))) (s : State) (text : List ℕ) → source_of known reader ≡ Some text → reader_state reader ≡ s → records_left reader ≡ records_from default_config (length text + 1) s text
unfolding records_left
records-left reader s text e f = left-by _ _ s text e f

-- a reader that has read nothing
pub begins-between : (reader : Reader (Bor (List ℕ))) (text : List ℕ) → reader_trim reader ≡ trim.None → Ready reader → reader_config reader ≡ default_config → reader_state reader ≡ st.StartRecord
    → source_of known reader ≡ Some text → IsBetween reader
begins-between reader text trim ready config state source =
    record {
      trim = trim;
      ready = ready;
      config = config;
      between = rw state refl;
      left = text;
      source = source;
    }

next-some : (o : Option Read) (f : List (List ℕ)) (s : State) (z : List ℕ) → NextIs o true f s z → o ≡ Some (f, s, z)
next-some None f s z n = cc
next-some (Some p) f s z n = rw (n.1, n.2, n.3) refl

next-read : (a b : State) (left : List ℕ) (f : List (List ℕ)) (k : Option (List ℕ)) → ReadsNext default_config a (Some left) k true f b → (z : List ℕ) × (k ≡ Some z) × (next_record default_config a [] [] left ≡ Some (f, b, z))
next-read a b left f None r = absurd r
next-read a b left f (Some z) r = (z, refl, next-some _ f b z r)

-- a read of the first record that was left leaves the others
pub record ReadsFirst (old new : Reader (Bor (List ℕ))) (f : List (List ℕ)) : Type 0 where
  pub between : IsBetween new
  pub taken : records_left old ≡ f ∷ records_left new

pub reads-first : (old new : Reader (Bor (List ℕ))) (f : List (List ℕ)) → IsBetween old → ReadRecord known old new true f → took_first new ≡ true → ReadsFirst old new f
reads-first old new f u r first =
    let n = next-read (reader_state old) (reader_state new) u.left f _ (rw (u.config, u.source) at r.0) in
    let read : Read = (f, reader_state new, n.0) in
    let t = takes (reader_state old) u.left read u.between n.2 in
    let fewer = t.0 in
    let source : source_of known new ≡ Some n.0 = rw r.1 n.1 in
    record {
      between = record {
        trim = r.3 ∙ u.trim;
        ready = inl first;
        config = r.2 ∙ u.config;
        between = t.1;
        left = n.0;
        source = source;
      };
      taken =
          records-left old (reader_state old) u.left u.source refl
          ∙ ap (λ (k : ℕ). records_from default_config k (reader_state old) u.left) (add-one (length u.left))
          ∙ records-more (length u.left) (reader_state old) u.left read n.2
          ∙ ap (λ (rest : List (List (List ℕ))). f ∷ rest) (same-records (length u.left) (length n.0 + 1) (reader_state new) n.0 t.1 fewer (omega arith) ∙ sym (records-left new (reader_state new) n.0 source refl));
    }

-- a read that found no record had none left
pub none-left : (old new : Reader (Bor (List ℕ))) (f : List (List ℕ)) → IsBetween old → ReadRecord known old new false f → records_left old ≡ []
none-left old new f u r =
    records-left old (reader_state old) u.left u.source refl
    ∙ ap (λ (k : ℕ). records_from default_config k (reader_state old) u.left) (add-one (length u.left))
    ∙ records-none (length u.left) (reader_state old) u.left (rows-end known old new f default_config u.left u.config u.source r)
