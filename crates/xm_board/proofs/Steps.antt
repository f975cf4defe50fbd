-- Each step keeps the rule of the board.
use Rattle.std.proofs.Common.{◌≡◌, ℕ, zero, suc, ◌+◌, ◌-◌, ◌*◌, ◌%◌, ◌<◌, ◌≤◌, eqb, ◌≢◌, List, [], ◌∷◌, ◌++◌, length, get_or, set, sym, refl, ap, ◌∙◌, subst, ⊎_elim, arith, le_refl, length-set, get_or-set_other, get_or-set_same, eq-eqb, add-one, zero-le, length-append}
use mathlib.Core.Logic.{dite}
use mathlib.Core.Option.{none, some, some-injective, some-ne-none}
use native.Mathlib.Decide.{ℕ_discrete}
use lib.ListN.{get_elem?, get_or-append}
use lib.Seq.{set-get_or}
use prog.Atomic.{either}
use Rattle.atomic_table.specs.Table.{State, Me, step, keeps, stepped, opening, Allows, Splits, Joins}
use Rattle.atomic_table.proofs.Lists.{at_set, set_again, at_snoc, set_here, set_else, at_longer}
use Rattle.xm_board.specs.declared.journal.Entry.{Entry}
use Rattle.xm_board.specs.declared.journal.NumberedJournal.{NumberedJournal}
use Rattle.xm_rules.specs.declared.settings.DeskSettings.{DeskSettings}
use Rattle.xm_board.specs.declared.seats.View.{View}
use Rattle.xm_board.specs.declared.seats.Role.{Role}
use Rattle.xm_board.specs.declared.seats.Role.TheVariants.{Pen, Watch, Spent}
use Rattle.xm_board.specs.declared.seats.Stage.{Stage}
use Rattle.xm_board.specs.declared.seats.Stage.TheVariants.{Idle, Reading, Writing}
use Rattle.xm_board.specs.Journals.{opening_of, grown, last_own_in, last_number_in, Begins, version_of, Own}
use Rattle.xm_board.specs.Rule.{opening_pen, with_next_number, first_watch, shared_seen, shared_last, asking, taking, spent_of, Reads, KnowsAs, Knows, Laid, Kept, watcher, with_stage, with_seen, ReadsSequence, ReadsWord, ChecksSequence, BeginsWrite, WritesWord, EndsWrite, ComparesSeen}
use Rattle.xm_board.proofs.Prefixes.{begins_self, begins_trans, begins-version, begins_whole, own_later, own_last}

same_reading : (f g : NumberedJournal) (k l : ℕ) → Reading f k ≡ Reading g l → (f ≡ g) × (k ≡ l)
same_reading f g k l e = (cc, cc)

same_writing : (f g : NumberedJournal) (k l : ℕ) → Writing f k ≡ Writing g l → (f ≡ g) × (k ≡ l)
same_writing f g k l e = (cc, cc)

module _ (Lawful : NumberedJournal → Type 0) (words : NumberedJournal → List ℕ) (n : ℕ) where
  abbrev St : Type 0
  St = State Entry View

  abbrev M : Type 0
  M = Me Entry View

  abbrev Rule : St → Type 0
  Rule = Kept Lawful words n

  abbrev sequence : St → ℕ
  sequence s = get_or s.words 0 0

  abbrev K : Role → NumberedJournal → ℕ → View → Type 0
  K = KnowsAs Lawful words n

  not_pen : (j : NumberedJournal) (v : ℕ) (d : View) (r : Role) → r ≡ Pen → K r j v d → ⊥
  not_pen j v d Pen e k = k
  not_pen j v d Watch e k = absurd cc
  not_pen j v d Spent e k = absurd cc

  -- a seat whose view is the pen's
  pens : (s : St) (r : Rule s) (id : ℕ) (d : View) → get_elem? s.views id ≡ some d → d.role ≡ Pen → (id ≡ r.pen) × (d ≡ r.held)
  pens s r id d at is = dite (ℕ_discrete id r.pen)
      (λ e. (e, some-injective d r.held (sym at ∙ (ap (λ (i : ℕ). get_elem? s.views i) e ∙ r.there))))
      (λ other. absurd (not_pen r.held.seen (sequence s) d d.role is (r.others id d other at)))

  -- a seat with another view is not the pen's
  apart : (s : St) (r : Rule s) (id : ℕ) (d : View) → get_elem? s.views id ≡ some d → d.role ≡ Watch → id ≢ r.pen
  apart s r id d at is e =
      let same : d ≡ r.held = some-injective d r.held (sym at ∙ (ap (λ (i : ℕ). get_elem? s.views i) e ∙ r.there)) in
      let both : Watch ≡ Pen = sym is ∙ (ap (λ (x : View). x.role) same ∙ r.writes) in cc

  -- what a watch knows
  watched : (s : St) (r : Rule s) (id : ℕ) (d : View) → get_elem? s.views id ≡ some d → d.role ≡ Watch → K Watch r.held.seen (sequence s) d
  watched s r id d at is = subst (λ (x : Role). K x r.held.seen (sequence s) d) is (r.others id d (apart s r id d at is) at)

  -- it stays so where the journal and the sequence grow
  reads_on : (j k : NumberedJournal) (v w : ℕ) (seen : NumberedJournal) → Begins j k → v ≤ w → (st : Stage) → Reads Lawful words n j v seen st → Reads Lawful words n k w seen st
  reads_on j k v w seen p le Idle h = tt
  reads_on j k v w seen p le (Reading first last) h = let l = h.4 in (h.0, begins_trans first j k h.1 p, h.2, h.3, omega arith)
  reads_on j k v w seen p le (Writing next c) h = h

  knows_on : (j k : NumberedJournal) (v w : ℕ) (d : View) → Begins j k → v ≤ w → (r : Role) → K r j v d → K r k w d
  knows_on j k v w d p le Pen h = h
  knows_on j k v w d p le Watch h = (begins_trans d.seen j k h.0 p, h.1, h.2, reads_on j k v w d.seen p le d.stage h.3)
  knows_on j k v w d p le Spent h = tt

  -- another seat than the pen's has a new view, and no word changes
  other_view : (s : St) (r : Rule s) (id : ℕ) (w : View) → id ≢ r.pen → Knows Lawful words n r.held.seen (sequence s) w → Rule record { words = s.words; homes = s.homes; views = set s.views id w }
  other_view s r id w off known = record {
    pen = r.pen;
    held = r.held;
    there = set_else s.views id r.pen w (λ e. off (sym e)) ∙ r.there;
    writes = r.writes;
    wide = r.wide;
    right = r.right;
    asked = r.asked;
    laid = r.laid;
    others = λ j d out at. ⊎_elim (λ (t : (j ≡ id) × (w ≡ d)). subst (λ (x : View). Knows Lawful words n r.held.seen (sequence s) x) t.1 known) (λ (t : (j ≢ id) × (get_elem? s.views j ≡ some d)). r.others j d out t.1) (at_set s.views id j w d at);
  }

  unmoved : (s : St) (r : Rule s) (i id : ℕ) (cs : List (ℕ × Entry)) (w : View) → Rule record { words = s.words; homes = s.homes; views = set s.views id w } → Rule (stepped s i (get_or s.words i 0) id cs w keeps)
  unmoved s r i id cs w h = subst (λ (ws : List ℕ). Rule record { words = ws; homes = s.homes; views = set s.views id w }) (sym (set-get_or s.words i 0)) h

  inside : {A : Type 0} (l : List A) (i : ℕ) (a : A) → get_elem? l i ≡ some a → i < length l
  inside [] i a e = absurd (some-ne-none a (sym e))
  inside (x ∷ xs) zero a e = omega arith
  inside (x ∷ xs) (suc i) a e = let l = inside xs i a e in omega arith

  -- the pen has a new view, and the words are new
  pen_view : (s : St) (r : Rule s) (ws : List ℕ) (w : View) → w.role ≡ Pen → n + 1 ≤ length ws → Begins r.held.seen w.seen → Lawful w.seen → Begins w.asked w.seen
      → Laid Lawful words n ws w.seen w.stage → sequence s ≤ get_or ws 0 0 → Rule record { words = ws; homes = s.homes; views = set s.views r.pen w }
  pen_view s r ws w is wide more right asked laid le = record {
    pen = r.pen;
    held = w;
    there = set_here s.views r.pen w (inside s.views r.pen r.held r.there);
    writes = is;
    wide = wide;
    right = right;
    asked = asked;
    laid = laid;
    others = λ j d out at. ⊎_elim (λ (t : (j ≡ r.pen) × (w ≡ d)). absurd (out t.0))
        (λ (t : (j ≢ r.pen) × (get_elem? s.views j ≡ some d)). knows_on r.held.seen w.seen (sequence s) (get_or ws 0 0) d more le d.role (r.others j d out t.1)) (at_set s.views r.pen j w d at);
  }

  -- a new seat comes
  arrived : (s : St) (r : Rule s) (w : View) → Knows Lawful words n r.held.seen (sequence s) w → Rule record { words = s.words; homes = s.homes; views = s.views ++ w ∷ [] }
  arrived s r w known = record {
    pen = r.pen;
    held = r.held;
    there = at_longer s.views (w ∷ []) r.pen r.held r.there;
    writes = r.writes;
    wide = r.wide;
    right = r.right;
    asked = r.asked;
    laid = r.laid;
    others = λ j d out at. ⊎_elim (r.others j d out) (λ (t : w ≡ d). subst (λ (x : View). Knows Lawful words n r.held.seen (sequence s) x) t known) (at_snoc s.views w d j at);
  }

  -- at an even sequence the pen writes nothing
  rests : (ws : List ℕ) (j : NumberedJournal) (st : Stage) → get_or ws 0 0 % 2 ≡ 0 → Laid Lawful words n ws j st → (get_or ws 0 0 ≡ 2 * version_of j) × ((i : ℕ) → i < n → get_or ws (i + 1) 0 ≡ get_or (words j) i 0)
  rests ws j Idle even h = h
  rests ws j (Reading first last) even h = absurd h
  rests ws j (Writing next k) even h = let odd = h.0 in absurd (omega arith)

  -- the sequence is never below twice the version of the journal
  above : (ws : List ℕ) (j : NumberedJournal) (st : Stage) → Laid Lawful words n ws j st → 2 * version_of j ≤ get_or ws 0 0
  above ws j Idle h = let e = h.0 in omega arith
  above ws j (Reading first last) h = absurd h
  above ws j (Writing next k) h = let odd = h.0 in omega arith

  pub reads_sequence : (slots id : ℕ) (me : M) → me.0.role ≡ Watch → Allows Rule slots id me 0 (λ x. x) (ReadsSequence (step slots 0 0 0 none) me)
  reads_sequence slots id me is s r _ at _ =
      let off = apart s r id me.0 at is in
      let known = watched s r id me.0 at is in
      let j : NumberedJournal = r.held.seen in
      let x : ℕ = sequence s in
      let go = λ (st : Stage) (h : Reads Lawful words n j x me.0.seen st). unmoved s r 0 id me.1 (with_stage me.0 st) (other_view s r id (with_stage me.0 st) off (subst (λ (y : Role). K y j x (with_stage me.0 st)) (sym is) (known.0, known.1, known.2, h))) in
      dite (ℕ_discrete (x % 2) 0)
      (λ even. let now = rests s.words j r.held.stage even r.laid in let v = now.0 in
      (with_stage me.0 (Reading j x), keeps, tt, go (Reading j x) (known.0, begins_self j, r.right, omega arith, le_refl x), (Reading j x, refl, λ _. (j, refl, v))))
      (λ odd. (with_stage me.0 Idle, keeps, tt, go Idle tt, (Idle, refl, λ even. absurd (odd even))))

  -- an unwritten word, where the sequence has not gone past the journal that was read
  fresh : (ws : List ℕ) (j : NumberedJournal) (st : Stage) → Laid Lawful words n ws j st → (first : NumberedJournal) → Begins first j → get_or ws 0 0 ≤ 2 * version_of first → (i : ℕ) → i < n → get_or ws (i + 1) 0 ≡ get_or (words first) i 0
  fresh ws j Idle h first p le i l =
      let e = h.0 in let same : first ≡ j = begins_whole first j p (omega arith) in h.1 i l ∙ ap (λ (x : NumberedJournal). get_or (words x) i 0) (sym same)
  fresh ws j (Reading f last) h first p le i l = absurd h
  fresh ws j (Writing next k) h first p le i l = let odd = h.0 in let short = begins-version first j p in absurd (omega arith)

  pub reads_word : (slots id : ℕ) (me : M) (first : NumberedJournal) (last i : ℕ) → me.0.role ≡ Watch → me.0.stage ≡ Reading first last → i < n → Allows Rule slots id me (i + 1) (λ x. x) (ReadsWord words (step slots (i + 1) 0 0 none) me)
  reads_word slots id me first last i is stage l s r _ at _ =
      let off = apart s r id me.0 at is in
      let known = watched s r id me.0 at is in
      let j : NumberedJournal = r.held.seen in
      let x : ℕ = sequence s in
      let here : Reads Lawful words n j x me.0.seen (Reading first last) = subst (Reads Lawful words n j x me.0.seen) stage known.3 in
      let w : View = with_stage me.0 (Reading first x) in
      let p = here.1 in
      let short = begins-version first j p in
      let high = above s.words j r.held.stage r.laid in
      let back : i ≡ (i + 1) - 1 = omega arith in
      let grew = here.4 in (
        w,
        keeps,
        tt,
        unmoved s r (i + 1) id me.1 w (other_view s r id w off (subst (λ (y : Role). K y j x w) (sym is) (known.0, known.1, known.2, (here.0, p, here.2, omega arith, le_refl x)))),
        λ first' last' stage'.
            let same : Reading first last ≡ Reading first' last' = sym stage ∙ stage' in
            let a : first ≡ first' = cc in
            let b : last ≡ last' = cc in (
              x,
              ap (λ (f : NumberedJournal). with_stage me.0 (Reading f x)) a,
              λ le. let le' : x ≤ 2 * version_of first = subst (λ (f : NumberedJournal). x ≤ 2 * version_of f) (sym a) le in
                  let old : last' ≤ 2 * version_of first = omega arith in
                  (subst (λ (f : NumberedJournal). last' ≤ 2 * version_of f) a old, fresh s.words j r.held.stage r.laid first p le' i l ∙ (λ t. get_or (words (a t)) (back t) 0)),
            ),
      )

  pub checks_sequence : (slots id : ℕ) (me : M) (first : NumberedJournal) (last : ℕ) → me.0.role ≡ Watch → me.0.stage ≡ Reading first last
      → Allows Rule slots id me 0 (λ x. x) (ChecksSequence Lawful (step slots 0 0 0 none) me)
  checks_sequence slots id me first last is stage s r _ at _ =
      let off = apart s r id me.0 at is in
      let known = watched s r id me.0 at is in
      let j : NumberedJournal = r.held.seen in
      let x : ℕ = sequence s in
      let here : Reads Lawful words n j x me.0.seen (Reading first last) = subst (Reads Lawful words n j x me.0.seen) stage known.3 in
      let grew = here.4 in
      dite (ℕ_discrete x (2 * version_of first))
      (λ hit. let w : View = with_seen me.0 first me.0.own_entries in (
        w,
        keeps,
        tt,
        unmoved s r 0 id me.1 w (other_view s r id w off (subst (λ (y : Role). K y j x w) (sym is) (here.1, here.2, own_later me.0.number me.0.seen.entries first.entries 0 me.0.own_entries here.0.1 known.2, tt))),
        λ f l st. let e = same_reading first f last l (sym stage ∙ st) in let a = e.0 in let b = e.1 in (
          (λ now. (subst (λ (q : NumberedJournal). l ≤ 2 * version_of q) a (omega arith), ap (λ (q : NumberedJournal). with_seen me.0 q me.0.own_entries) a, subst (Begins me.0.seen) a here.0, subst Lawful a here.2)),
          λ not. absurd (not (hit ∙ ap (λ (q : NumberedJournal). 2 * version_of q) a)),
        ),
      ))
      (λ miss. let w : View = with_stage me.0 Idle in (
        w,
        keeps,
        tt,
        unmoved s r 0 id me.1 w (other_view s r id w off (subst (λ (y : Role). K y j x w) (sym is) (known.0, known.1, known.2, tt))),
        λ f l st. let e = same_reading first f last l (sym stage ∙ st) in let a = e.0 in ((λ now. absurd (miss (now ∙ ap (λ (q : NumberedJournal). 2 * version_of q) (sym a)))), λ _. refl),
      ))

  -- what the pen has
  pen_has : (s : St) (r : Rule s) (id : ℕ) (d : View) → get_elem? s.views id ≡ some d → d.role ≡ Pen → Lawful d.seen × Begins d.asked d.seen × Laid Lawful words n s.words d.seen d.stage
  pen_has s r id d at is = subst (λ (x : View). Lawful x.seen × Begins x.asked x.seen × Laid Lawful words n s.words x.seen x.stage) (sym (pens s r id d at is).1) (r.right, r.asked, r.laid)

  pen_step : (s : St) (r : Rule s) (id : ℕ) (d : View) → get_elem? s.views id ≡ some d → d.role ≡ Pen → (ws : List ℕ) (w : View) → w.role ≡ Pen → n + 1 ≤ length ws → Begins d.seen w.seen → Lawful w.seen → Begins w.asked w.seen
      → Laid Lawful words n ws w.seen w.stage → sequence s ≤ get_or ws 0 0 → Rule record { words = ws; homes = s.homes; views = set s.views id w }
  pen_step s r id d at is ws w role wide more right asked laid le =
      let p = pens s r id d at is in
      subst (λ (i : ℕ). Rule record { words = ws; homes = s.homes; views = set s.views i w }) (sym p.0) (pen_view s r ws w role wide (subst (λ (x : View). Begins x.seen w.seen) p.1 more) right asked laid le)

  pub begins_write : (slots id : ℕ) (me : M) (old new : ℕ) (e : Entry) → me.0.role ≡ Pen → me.0.stage ≡ Idle → old ≡ 2 * version_of me.0.seen → new ≡ old + 1 → Begins me.0.seen (grown me.0.seen e) → version_of (grown me.0.seen e) ≡ version_of me.0.seen + 1 → Lawful (grown me.0.seen e)
      → Allows Rule slots id me 0 (λ x. either (eqb x old) new x) (BeginsWrite (step slots 0 old new (some e)) me)
  begins_write slots id me old new e is stage old_is new_is more longer right s r _ at _ =
      let has = pen_has s r id me.0 at is in
      let j : NumberedJournal = me.0.seen in
      let laid : Laid Lawful words n s.words j Idle = subst (Laid Lawful words n s.words j) stage has.2 in
      let x : ℕ = sequence s in
      let v = laid.0 in
      let hit : x ≡ old = v ∙ sym old_is in
      let w : View = with_stage me.0 (Writing (grown j e) 0) in
      let wide = r.wide in
      let now : get_or (set s.words 0 new) 0 0 ≡ new = get_or-set_same s.words 0 new 0 (omega arith) in (
        w,
        keeps,
        tt,
        subst (λ b. Rule (stepped s 0 (either b new x) id me.1 w keeps)) (sym (eq-eqb x old hit))
            (pen_step s r id me.0 at is (set s.words 0 new) w is (omega (arith, length-set s.words 0 new, wide)) (begins_self j) has.0 has.1
            (omega arith, more, longer, right, (λ i l. absurd (omega arith)), λ i _ l. get_or-set_other s.words 0 (i + 1) new 0 (λ q. omega arith) ∙ laid.1 i l) (omega arith)),
        refl,
      )

  pub writes_word : (slots id : ℕ) (me : M) (next : NumberedJournal) (k b : ℕ) → me.0.role ≡ Pen → me.0.stage ≡ Writing next k → k < n → b ≡ get_or (words next) k 0 → Allows Rule slots id me (k + 1) (λ _. b) (λ _. WritesWord (step slots (k + 1) b 0 none) me b)
  writes_word slots id me next k b is stage short right s r _ at _ =
      let has = pen_has s r id me.0 at is in
      let j : NumberedJournal = me.0.seen in
      let laid : Laid Lawful words n s.words j (Writing next k) = subst (Laid Lawful words n s.words j) stage has.2 in
      let w : View = with_stage me.0 (Writing next (k + 1)) in
      let wide = r.wide in
      let still : get_or (set s.words (k + 1) b) 0 0 ≡ sequence s = get_or-set_other s.words (k + 1) 0 b 0 (λ e. omega arith) in (
        w,
        keeps,
        tt,
        pen_step s r id me.0 at is (set s.words (k + 1) b) w is (omega (arith, length-set s.words (k + 1) b, wide)) (begins_self j) has.0 has.1 (
          still ∙ laid.0,
          laid.1,
          laid.2,
          laid.3,
          (λ i l. dite (ℕ_discrete i k)
              (λ e. ap (λ (z : ℕ). get_or (set s.words (k + 1) b) (z + 1) 0) e ∙ (get_or-set_same s.words (k + 1) b 0 (omega arith) ∙ (right ∙ ap (λ (z : ℕ). get_or (words next) z 0) (sym e))))
              (λ other. get_or-set_other s.words (k + 1) (i + 1) b 0 (λ e. other (omega arith)) ∙ laid.4 i (omega arith))),
          λ i g l. get_or-set_other s.words (k + 1) (i + 1) b 0 (λ e. omega arith) ∙ laid.5 i (omega arith) l,
        ) (omega arith),
        λ next' k' stage'. let e = same_writing next next' k k' (sym stage ∙ stage') in λ t. with_stage me.0 (Writing (e.0 t) (e.1 t + 1)),
      )

  pub ends_write : (slots id : ℕ) (me : M) (next : NumberedJournal) (v : ℕ) → me.0.role ≡ Pen → me.0.stage ≡ Writing next n → v ≡ 2 * version_of me.0.seen + 2 → Allows Rule slots id me 0 (λ _. v) (λ _. EndsWrite (step slots 0 v 0 none) me v)
  ends_write slots id me next v is stage up s r _ at _ =
      let has = pen_has s r id me.0 at is in
      let j : NumberedJournal = me.0.seen in
      let laid : Laid Lawful words n s.words j (Writing next n) = subst (Laid Lawful words n s.words j) stage has.2 in
      let w : View = with_seen me.0 next me.0.own_entries in
      let wide = r.wide in
      let was = laid.0 in
      let longer = laid.2 in
      let now : get_or (set s.words 0 v) 0 0 ≡ v = get_or-set_same s.words 0 v 0 (omega arith) in (
        w,
        keeps,
        tt,
        pen_step s r id me.0 at is (set s.words 0 v) w is (omega (arith, length-set s.words 0 v, wide)) laid.1 laid.3 (begins_trans me.0.asked j next has.1 laid.1)
            (omega arith, λ i l. get_or-set_other s.words 0 (i + 1) v 0 (λ q. omega arith) ∙ laid.4 i l) (omega arith),
        λ next' k' stage'. let e = same_writing next next' n k' (sym stage ∙ stage') in ap (λ (q : NumberedJournal). with_seen me.0 q me.0.own_entries) e.0,
      )

  pub compares_seen : (slots id : ℕ) (me : M) → me.0.role ≡ Pen → Allows Rule slots id me 0 (λ x. x) (ComparesSeen (step slots 0 0 0 none) me)
  compares_seen slots id me is s r _ at _ =
      let has = pen_has s r id me.0 at is in
      (me.0, keeps, tt, unmoved s r 0 id me.1 me.0 (pen_step s r id me.0 at is s.words me.0 is r.wide (begins_self me.0.seen) has.0 has.1 has.2 (le_refl (sequence s))), (refl, has.1))

  -- a new seat knows what the pen's knows
  from_pen : (s : St) (r : Rule s) (id : ℕ) (d : View) → get_elem? s.views id ≡ some d → d.role ≡ Pen → (number : ℕ) (own_entries : List (ℕ × Entry)) → Own number d.seen.entries 0 own_entries
      → Rule record { words = s.words; homes = s.homes; views = s.views ++ watcher number d.seen own_entries ∷ [] }
  from_pen s r id d at is number own_entries own =
      let has = pen_has s r id d at is in
      let p = pens s r id d at is in
      arrived s r (watcher number d.seen own_entries) (subst (λ (x : View). Begins d.seen x.seen) p.1 (begins_self d.seen), has.0, own, tt)

  pub makes_watch : (id : ℕ) (d : View) → d.role ≡ Pen → Splits Rule id d (with_next_number d) (first_watch d)
  makes_watch id d is s r at =
      let has = pen_has s r id d at is in
      let w : View = with_next_number d in
      from_pen record { words = s.words; homes = s.homes; views = set s.views id w } (pen_step s r id d at is s.words w is r.wide (begins_self d.seen) has.0 has.1 has.2 (le_refl (sequence s)))
      id w (set_here s.views id w (inside s.views id d at)) is d.number [] zero-le

  pub pen_shares : (id : ℕ) (d : View) → d.role ≡ Pen → Splits Rule id d d (shared_seen d)
  pen_shares id d is s r at = subst (λ (vs : List View). Rule record { words = s.words; homes = s.homes; views = vs ++ shared_seen d ∷ [] }) (sym (set_again s.views id d at)) (from_pen s r id d at is 0 [] zero-le)

  pub pen_shares_last : (id : ℕ) (d : View) → d.role ≡ Pen → Splits Rule id d d (shared_last d)
  pen_shares_last id d is s r at =
      subst (λ (vs : List View). Rule record { words = s.words; homes = s.homes; views = vs ++ shared_last d ∷ [] }) (sym (set_again s.views id d at))
      (from_pen s r id d at is (last_number_in d.seen.entries) (last_own_in d.seen.entries 0) (own_last d.seen.entries))

  pub watch_shares : (id : ℕ) (d : View) → d.role ≡ Watch → Splits Rule id d d (shared_seen d)
  watch_shares id d is s r at =
      let known = watched s r id d at is in
      subst (λ (vs : List View). Rule record { words = s.words; homes = s.homes; views = vs ++ shared_seen d ∷ [] }) (sym (set_again s.views id d at)) (arrived s r (shared_seen d) (known.0, known.1, zero-le, tt))

  there_before : (vs : List View) (id other : ℕ) (w e : View) → ¬ (other ≡ id) → get_elem? (set vs id w) other ≡ some e → get_elem? vs other ≡ some e
  there_before vs id other w e off at = ⊎_elim (λ (t : (other ≡ id) × (w ≡ e)). absurd (off t.0)) (λ (t : (other ≢ id) × (get_elem? vs other ≡ some e)). t.1) (at_set vs id other w e at)

  pub asks : (id : ℕ) (d : View) (other : ℕ) (e : View) → d.role ≡ Pen → e.role ≡ Watch → Joins Rule id d other e (asking d e) spent_of
  asks id d other e is was s r at off there =
      let has = pen_has s r id d at is in
      let p = pens s r id d at is in
      let known = watched s r other e (there_before s.views id other (asking d e) e off there) was in
      let w : View = asking d e in
      let s' : St = record { words = s.words; homes = s.homes; views = set s.views id w } in
      let r' : Rule s' = pen_step s r id d at is s.words w is r.wide (begins_self d.seen) has.0 (subst (λ (x : View). Begins e.seen x.seen) (sym p.1) known.0) has.2 (le_refl (sequence s)) in
      other_view s' r' other spent_of (apart s' r' other e there was) tt

  pub takes_seen : (id : ℕ) (d : View) (other : ℕ) (e : View) → d.role ≡ Watch → e.role ≡ Watch → Own d.number e.seen.entries 0 (d.own_entries ++ e.own_entries) → Joins Rule id d other e (taking d e) spent_of
  takes_seen id d other e is was own s r at off there =
      let known = watched s r other e (there_before s.views id other (taking d e) e off there) was in
      let w : View = taking d e in
      let s' : St = record { words = s.words; homes = s.homes; views = set s.views id w } in
      let r' : Rule s' = other_view s r id w (apart s r id d at is) (subst (λ (y : Role). K y r.held.seen (sequence s) w) (sym is) (known.0, known.1, own, tt)) in
      other_view s' r' other spent_of (apart s' r' other e there was) tt

  only_pen : (w : View) (j : ℕ) (d : View) → j ≢ 0 → get_elem? (w ∷ []) j ≡ some d → ⊥
  only_pen w zero d off at = off refl
  only_pen w (suc j) d off at = some-ne-none d (sym at)

  pub begins : (settings : DeskSettings) (ws unused : List ℕ) → ws ≡ 0 ∷ (words (opening_of settings) ++ unused) → length (words (opening_of settings)) ≡ n → Lawful (opening_of settings)
      → Rule (opening ws [] (opening_pen settings))
  begins settings ws unused is wide right = subst (λ (l : List ℕ). Rule (opening l [] (opening_pen settings))) (sym is) record {
    pen = 0;
    held = opening_pen settings;
    there = refl;
    writes = refl;
    wide = omega (arith, wide, length-append (words (opening_of settings)) unused);
    right = right;
    asked = begins_self (opening_of settings);
    laid = (refl, λ i l. ap (λ (z : ℕ). get_or (0 ∷ (words (opening_of settings) ++ unused)) z 0) (add-one i) ∙ get_or-append (words (opening_of settings)) unused 0 i (omega arith));
    others = λ j d off at. absurd (only_pen (opening_pen settings) j d off at);
  }
