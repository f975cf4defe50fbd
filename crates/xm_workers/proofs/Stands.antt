-- What was answered to a worker's rows stands in the journals that its seat's watches are parts of.
use Rattle.std.proofs.Common.{◌≡◌, ◌≢◌, ℕ, zero, suc, ◌+◌, ◌==◌, Bool, true, false, List, [], ◌∷◌, length, map, Option, None, Some, Result, Ok, Err, refl, sym, ap, ◌∙◌, subst, arith}
use Rattle.std.specs.Prelude.{MatchBool, cond, is_err, is_ok, slice_get}
use Rattle.std.proofs.lemmas.Bool.Decides.{nat_tests}
use Rattle.std.proofs.lemmas.List.Sums.{sum_by-cons}
use Rattle.xm_board.specs.Journals.{Begins, known_by, opening_of, unnumbered}
use Rattle.xm_board.specs.declared.journal.NumberedJournal.{NumberedJournal}
use Rattle.xm_board.specs.declared.watch.Known.{Known}
use Rattle.xm_workers.proofs.Chains.{AllAnswered, all-answered}
use Rattle.xm_workers.specs.Workers.{AreJournals, AreKnown, HasWorked, HaveStood, StandOn, WorkerView, accepted_among, fresh_worker, refused_among, after_answer}
use Rattle.xm_rules.specs.Step.{replay}
use Rattle.xm_rules.specs.declared.commands.Command.{Command}
use Rattle.xm_rules.specs.declared.replies.Refusal.{Refusal}
use Rattle.xm_rules.specs.declared.replies.Refusal.TheVariants.{UnknownSecurity}
use Rattle.xm_rules.specs.declared.replies.Reply.{Reply}
use Rattle.xm_rules.specs.declared.settings.DeskSettings.{DeskSettings}
use Rattle.xm_segment.specs.Answers.{IsAnswer, IsAnsweredOn, WasAnswered, with_answered}
use Rattle.xm_segment.specs.Gathering.{AreParts, IsPart}
use Rattle.xm_segment.specs.Seats.{SeatView, fresh_seat}
use Rattle.xm_segment.specs.Watches.{fresh_row, fresh_watch}
use Rattle.xm_config.specs.declared.rows.Row.{Row}

-- ---- one answer, and the watch of one security

-- a watch that was answered, as it was before
answered-before : (security : ℕ) (opened : DeskSettings) (command : Command) (answer : Result Reply Refusal) (ws vs : List (Option Known)) (v : Known) → IsAnsweredOn security (Some opened) command answer ws vs → slice_get vs security ≡ Some (Some v)
    → (w : Known) × (slice_get ws security ≡ Some (Some w)) × WasAnswered opened command answer w v
answered-before security opened command answer [] [] v is at = absurd is
answered-before zero opened command answer [] (v ∷ vs) x is at = absurd is
answered-before (suc security) opened command answer [] (v ∷ vs) x is at = absurd is
answered-before zero opened command answer (w ∷ ws) [] x is at = absurd is
answered-before (suc security) opened command answer (w ∷ ws) [] x is at = absurd is
answered-before zero opened command answer (Some w ∷ ws) (Some v ∷ vs) x is at = let same : v ≡ x = cc in (w, refl, subst (WasAnswered opened command answer w) same is.0)
answered-before zero opened command answer (None ∷ ws) (v ∷ vs) x is at = absurd is.0
answered-before zero opened command answer (Some w ∷ ws) (None ∷ vs) x is at = absurd is.0
answered-before (suc security) opened command answer (w ∷ ws) (v ∷ vs) x is at = answered-before security opened command answer ws vs x is.1 at

-- the others are as they were
others-before : (security other : ℕ) (opened : Option DeskSettings) (command : Command) (answer : Result Reply Refusal) (ws vs : List (Option Known)) → security ≢ other → IsAnsweredOn security opened command answer ws vs → slice_get ws other ≡ slice_get vs other
others-before security other opened command answer [] [] apart is = refl
others-before zero other opened command answer [] (v ∷ vs) apart is = absurd is
others-before (suc security) other opened command answer [] (v ∷ vs) apart is = absurd is
others-before zero other opened command answer (w ∷ ws) [] apart is = absurd is
others-before (suc security) other opened command answer (w ∷ ws) [] apart is = absurd is
others-before zero zero opened command answer (w ∷ ws) (v ∷ vs) apart is = absurd (apart refl)
others-before zero (suc other) opened command answer (w ∷ ws) (v ∷ vs) apart is = ap (λ (xs : List (Option Known)). slice_get xs other) (sym is.1)
others-before (suc security) zero opened command answer (w ∷ ws) (v ∷ vs) apart is = ap Some (sym is.0)
others-before (suc security) (suc other) opened command answer (w ∷ ws) (v ∷ vs) apart is = others-before security other opened command answer ws vs (λ same. apart (ap suc same)) is.1

-- a security that the segment doesn't have is told as unknown
unknown-told : (security : ℕ) (command : Command) (answer : Result Reply Refusal) (ws vs : List (Option Known)) → IsAnsweredOn security None command answer ws vs → answer ≡ Err UnknownSecurity
unknown-told security command answer [] [] is = is
unknown-told zero command answer [] (v ∷ vs) is = absurd is
unknown-told (suc security) command answer [] (v ∷ vs) is = absurd is
unknown-told zero command answer (w ∷ ws) [] is = absurd is
unknown-told (suc security) command answer (w ∷ ws) [] is = absurd is
unknown-told zero command answer (None ∷ ws) (None ∷ vs) is = is.0
unknown-told zero command answer (None ∷ ws) (Some v ∷ vs) is = absurd is.0
unknown-told zero command answer (Some w ∷ ws) (v ∷ vs) is = absurd is.0
unknown-told (suc security) command answer (w ∷ ws) (v ∷ vs) is = unknown-told security command answer ws vs is.1

-- what a watch has seen after an answer is the journal that answered, with the command if it was accepted
seen-after : (w v : Known) (journal : NumberedJournal) (command : Command) (answer : Result Reply Refusal) → v ≡ with_answered w journal command answer → (v.seen ≡ after_answer journal w.number command answer) × (v.number ≡ w.number)
seen-after w v journal command (Ok reply) knows = (ap (λ (k : Known). k.seen) knows, ap (λ (k : Known). k.number) knows)
seen-after w v journal command (Err refusal) knows = (ap (λ (k : Known). k.seen) knows, ap (λ (k : Known). k.number) knows)

-- ---- the answers of one worker

-- the watch of a security before rows were answered, of which it was after
record Stood (settings : List DeskSettings) (security number : ℕ) (before : SeatView) (rows : List Row) (answers : List (Result Reply Refusal)) (journal : NumberedJournal) : Type 0 where
  pub watch : Known
  pub at : slice_get before.row.watches security ≡ Some (Some watch)
  pub numbered : watch.number ≡ number
  pub stand : StandOn security number watch.seen rows answers journal

module _ (settings : List DeskSettings) (security : ℕ) (opened : DeskSettings) (known : slice_get settings security ≡ Some opened) (journal : NumberedJournal) where
  abbrev stands-by : ℕ → NumberedJournal → Row → List Row → Result Reply Refusal → List (Result Reply Refusal) → Bool → Type 0
  stands-by number seen row rows answer answers here =
      MatchBool here
      ((at : NumberedJournal) × Begins seen at × IsAnswer (replay (unnumbered at)) row.command answer × StandOn security number (after_answer at number row.command answer) rows answers journal)
      (StandOn security number seen rows answers journal)

  stood : (before after : SeatView) (rows : List Row) (answers : List (Result Reply Refusal)) (w : Known) → AllAnswered settings before rows answers after → slice_get after.row.watches security ≡ Some (Some w) → Begins w.seen journal
      → Stood settings security w.number before rows answers journal
  stood before after [] [] w all at begins =
      record { watch = w; at = ap (λ (s : SeatView). slice_get s.row.watches security) (sym all) ∙ at; numbered = refl; stand = begins }
  stood before after [] (a ∷ as') w all at begins = absurd all
  stood before after (row ∷ rows) [] w all at begins = absurd all
  stood before after (row ∷ rows) (a ∷ as') w all at begins = by (row.security == security) refl (stood all.0 after rows as' w all.3 at begins)
    where
      by : (here : Bool) → (row.security == security) ≡ here → Stood settings security w.number all.0 rows as' journal → Stood settings security w.number before (row ∷ rows) (a ∷ as') journal
      by true here next =
          let same : row.security ≡ security = grind (arith, nat_tests) in
          let on = subst (λ (k : ℕ). IsAnsweredOn k (slice_get settings k) row.command a before.row.watches all.0.row.watches) same all.1.watches in
          let of = subst (λ (o : Option DeskSettings). IsAnsweredOn security o row.command a before.row.watches all.0.row.watches) known on in
          let was = answered-before security opened row.command a before.row.watches all.0.row.watches next.watch of next.at in
          let after = seen-after was.0 next.watch was.2.journal row.command a was.2.knows in
          let numbered = sym after.1 ∙ next.numbered in
          let seen = after.0 ∙ ap (λ (n : ℕ). after_answer was.2.journal n row.command a) numbered in
          record {
            watch = was.0;
            at = was.1;
            numbered = numbered;
            stand = subst (stands-by w.number was.0.seen row rows a as') (sym here) (was.2.journal, was.2.later, was.2.answers, subst (λ (j : NumberedJournal). StandOn security w.number j rows as' journal) seen next.stand);
          }
      by false here next =
          let apart : row.security ≢ security = (λ same. absurd (grind (arith, nat_tests))) in
          let kept = others-before row.security security (slice_get settings row.security) row.command a before.row.watches all.0.row.watches apart all.1.watches in
          record {
            watch = next.watch;
            at = kept ∙ next.at;
            numbered = next.numbered;
            stand = subst (stands-by w.number next.watch.seen row rows a as') (sym here) next.stand;
          }

-- each row has an answer, which tells of an unknown security where there is no journal
known-rows : (settings : List DeskSettings) (journals : List NumberedJournal) (before after : SeatView) (rows : List Row) (answers : List (Result Reply Refusal)) → ((k : ℕ) → slice_get journals k ≡ None → slice_get settings k ≡ None)
    → AllAnswered settings before rows answers after → AreKnown journals rows answers
known-rows settings journals before after [] [] none all = tt
known-rows settings journals before after [] (a ∷ as') none all = absurd all
known-rows settings journals before after (row ∷ rows) [] none all = absurd all
known-rows settings journals before after (row ∷ rows) (a ∷ as') none all = (
  λ missing.
      unknown-told row.security row.command a before.row.watches all.0.row.watches
      (subst (λ (o : Option DeskSettings). IsAnsweredOn row.security o row.command a before.row.watches all.0.row.watches) (none row.security missing) all.1.watches),
  known-rows settings journals all.0 after rows as' none all.3,
)

-- ---- the journals of the securities, and the watches of a seat that opens

journal-settings : (settings : List DeskSettings) (journals : List NumberedJournal) (k : ℕ) (journal : NumberedJournal) → AreJournals settings (map unnumbered journals) → slice_get journals k ≡ Some journal → slice_get settings k ≡ Some journal.settings
journal-settings settings [] k journal are at = absurd (cc)
journal-settings [] (j ∷ js) k journal are at = absurd are
journal-settings (o ∷ os) (j ∷ js) zero journal are at = let same : j ≡ journal = cc in ap Some (sym are.0 ∙ ap (λ (i : NumberedJournal). i.settings) same)
journal-settings (o ∷ os) (j ∷ js) (suc k) journal are at = journal-settings os js k journal are.2 at

no-settings : (settings : List DeskSettings) (journals : List NumberedJournal) (k : ℕ) → AreJournals settings (map unnumbered journals) → slice_get journals k ≡ None → slice_get settings k ≡ None
no-settings [] journals k are none = refl
no-settings (o ∷ os) [] k are none = absurd are
no-settings (o ∷ os) (j ∷ js) zero are none = absurd (cc)
no-settings (o ∷ os) (j ∷ js) (suc k) are none = no-settings os js k are.2 none

part-at : (journals : List NumberedJournal) (ws : List (Option Known)) (k : ℕ) (journal : NumberedJournal) → AreParts journals ws → slice_get journals k ≡ Some journal → (w : Known) × (slice_get ws k ≡ Some (Some w)) × IsPart w journal
part-at [] ws k journal are at = absurd (cc)
part-at (j ∷ js) [] k journal are at = absurd are
part-at (j ∷ js) (None ∷ ws) k journal are at = absurd are
part-at (j ∷ js) (Some w ∷ ws) zero journal are at = let same : j ≡ journal = cc in (w, refl, subst (IsPart w) same are.0)
part-at (j ∷ js) (Some w ∷ ws) (suc k) journal are at = part-at js ws k journal are.1 at

some-fresh : (number : ℕ) (here : Option DeskSettings) (opened : DeskSettings) (w : Known) → here ≡ Some opened → Some (fresh_watch number here) ≡ Some (Some w) → w ≡ known_by number (opening_of opened) []
some-fresh number None opened w is at = absurd (cc)
some-fresh number (Some o) opened w is at = let same : o ≡ opened = cc in let what : known_by number (opening_of o) [] ≡ w = cc in sym what ∙ ap (λ (s : DeskSettings). known_by number (opening_of s) []) same

fresh-at : (settings : List DeskSettings) (number k : ℕ) (opened : DeskSettings) (w : Known) → slice_get settings k ≡ Some opened → slice_get (fresh_row settings number).watches k ≡ Some (Some w) → w ≡ known_by number (opening_of opened) []
fresh-at settings number zero opened w known at = some-fresh number (slice_get settings 0) opened w known at
fresh-at settings number (suc zero) opened w known at = some-fresh number (slice_get settings 1) opened w known at
fresh-at settings number (suc (suc zero)) opened w known at = some-fresh number (slice_get settings 2) opened w known at
fresh-at settings number (suc (suc (suc zero))) opened w known at = some-fresh number (slice_get settings 3) opened w known at
fresh-at settings number (suc (suc (suc (suc zero)))) opened w known at = some-fresh number (slice_get settings 4) opened w known at
fresh-at settings number (suc (suc (suc (suc (suc zero))))) opened w known at = some-fresh number (slice_get settings 5) opened w known at
fresh-at settings number (suc (suc (suc (suc (suc (suc zero)))))) opened w known at = some-fresh number (slice_get settings 6) opened w known at
fresh-at settings number (suc (suc (suc (suc (suc (suc (suc zero))))))) opened w known at = some-fresh number (slice_get settings 7) opened w known at
fresh-at settings number (suc (suc (suc (suc (suc (suc (suc (suc k)))))))) opened w known at = absurd (cc)

-- ---- the worker's rows

answers-long : (settings : List DeskSettings) (before after : SeatView) (rows : List Row) (answers : List (Result Reply Refusal)) → AllAnswered settings before rows answers after → length answers ≡ length rows
answers-long settings before after [] [] all = refl
answers-long settings before after [] (a ∷ as') all = absurd all
answers-long settings before after (row ∷ rows) [] all = absurd all
answers-long settings before after (row ∷ rows) (a ∷ as') all = ap suc (answers-long settings all.0 after rows as' all.3)

both-kinds : (answers : List (Result Reply Refusal)) → accepted_among answers + refused_among answers ≡ length answers
both-kinds [] = refl
both-kinds (a ∷ as') = omega (arith, one a, both-kinds as', sum_by-cons (λ (x : Result Reply Refusal). cond (is_ok x) 1 0) a as', sum_by-cons (λ (x : Result Reply Refusal). cond (is_err x) 1 0) a as')
  where
    one : (x : Result Reply Refusal) → cond (is_ok x) 1 0 + cond (is_err x) 1 0 ≡ 1
    one (Ok reply) = refl
    one (Err refusal) = refl

pub worker-stands : (settings : List DeskSettings) (journals : List NumberedJournal) (number : ℕ) (rows : List Row) (w : WorkerView) → AreJournals settings (map unnumbered journals) → AreParts journals w.seat.row.watches
    → HasWorked settings rows (fresh_worker settings number) w → HaveStood journals number rows w.report
worker-stands settings journals number rows w are parts worked =
    let fresh = fresh_seat settings number in
    let all = all-answered settings fresh w.seat rows worked.answers worked.answered worked.memory in
    let none : (k : ℕ) → slice_get journals k ≡ None → slice_get settings k ≡ None = (λ k missing. no-settings settings journals k are missing) in
    let long = answers-long settings fresh w.seat rows worked.answers all in
    record {
      answers = worked.answers;
      stand = λ k journal at.
          let known = journal-settings settings journals k journal are at in
          let part = part-at journals w.seat.row.watches k journal parts at in
          let s = stood settings k journal.settings known journal fresh w.seat rows worked.answers part.0 all part.1 part.2.seen in
          let first = fresh-at settings number k journal.settings s.watch known s.at in
          let numbered = sym s.numbered ∙ ap (λ (v : Known). v.number) first in
          subst (λ (n : ℕ). StandOn k n (opening_of journal.settings) rows worked.answers journal) numbered
          (subst (λ (j : NumberedJournal). StandOn k part.0.number j rows worked.answers journal) (ap (λ (v : Known). v.seen) first) s.stand);
      known = known-rows settings journals fresh w.seat rows worked.answers none all;
      memory = worked.memory;
      accepted = omega (arith, worked.accepted);
      refused = omega (arith, worked.accepted, worked.all, long, both-kinds worked.answers);
    }
