use Rattle.std.proofs.Common.{rules, ◌≡◌, ◌*◌, ◌∙◌, ap, sym, subst}
use Rattle.xm_board.specs.Journals.{quote_of, version_of, Own, Begins}
use Rattle.xm_board.specs.Published.{IsPublished, words_of}
use Rattle.xm_board.specs.Rule.{with_stage, with_seen}
use Rattle.xm_board.specs.declared.seats.View.{View}
use Rattle.xm_board.specs.declared.seats.Stage.TheVariants.{Reading}
use Rattle.xm_board.proofs.Steps.{reads_sequence, checks_sequence}
use Rattle.xm_board.proofs.Prefixes.{own_later}
use Rattle.xm_board.proofs.Reading.{same_words}
use Rattle.xm_board.proofs.watch.Watch.attempt.Goals as goal

pub load-sequence-requires : goal.load-sequence-requires
load-sequence-requires g c = (search rules, search rules, reads_sequence IsPublished words_of 7 _ _ _ c.self.invariant.1)

pub read_words-words-requires-clause-reads : goal.read_words-words-requires-clause-reads
read_words-words-requires-clause-reads g c =
    let look = c.load-sequence.ensures.2 in
    let f = look.2 (search rules) in
    (f.0, c.load-sequence.result, ap (λ (v : View). v.stage) look.1 ∙ f.1)

pub quote_from-self-inside-requires : goal.quote_from-self-inside-requires
quote_from-self-inside-requires g c =
    let look = c.load-sequence.ensures.2 in
    let f = look.2 (search rules) in
    let stage = ap (λ (v : View). v.stage) look.1 ∙ f.1 in
    let read = c.read_words-words.ensures.words f.0 _ stage in
    let check = c.load.ensures.2 f.0 read.0 (ap (λ (v : View). v.stage) read.1) in
    let sequence : c.load-sequence.result ≡ 2 * version_of f.0 = f.2 in
    let hit : c.load.result ≡ 2 * version_of f.0 = search rules in
    let h = check.0 hit in
    let w = read.2 h.0 in
    (quote_of f.0, h.3.prices, same_words _ _ c.read_words-words.ensures.count w.1)

pub load-requires : goal.load-requires
load-requires g c =
    let look = c.load-sequence.ensures.2 in
    let f = look.2 (search rules) in
    let stage = ap (λ (v : View). v.stage) look.1 ∙ f.1 in
    let read = c.read_words-words.ensures.words f.0 _ stage in
    (search rules, search rules, checks_sequence IsPublished words_of 7 _ _ _ f.0 read.0 c.read_words-words.ensures.same.1 (ap (λ (v : View). v.stage) read.1))

pub invariant_of-self-2 : goal.invariant_of-self-2
invariant_of-self-2 g c =
    let i = c.self.invariant in
    let old = c.self.inside.seat.me.0 in
    let look = c.load-sequence.ensures.2 in
    let f = look.2 (search rules) in
    let stage = ap (λ (v : View). v.stage) look.1 ∙ f.1 in
    let read = c.read_words-words.ensures.words f.0 _ stage in
    let check = c.load.ensures.2 f.0 read.0 (ap (λ (v : View). v.stage) read.1) in
    let sequence : c.load-sequence.result ≡ 2 * version_of f.0 = f.2 in
    let hit : c.load.result ≡ 2 * version_of f.0 = search rules in
    let h = check.0 hit in
    let w = read.2 h.0 in
    let same = read.1 ∙ ap (λ (v : View). with_stage v (Reading f.0 read.0)) look.1 in
    let now : c.load.new.seat.me.0 ≡ with_seen old f.0 old.own_entries = h.1 ∙ ap (λ (v : View). with_seen v f.0 v.own_entries) same in
    let quote = c.quote_from-self-inside.ensures (quote_of f.0) h.3.prices (same_words _ _ c.read_words-words.ensures.count w.1) in
    let later : Begins old.seen f.0 = subst (λ (v : View). Begins v.seen f.0) same h.2 in (
      c.load.ensures.0 ∙ c.read_words-words.ensures.same.0 ∙ c.load-sequence.ensures.0 ∙ i.0,
      ap (λ (v : View). v.role) now ∙ i.1,
      ap (λ (v : View). v.number) now ∙ i.2,
      quote ∙ ap (λ (v : View). quote_of v.seen) (sym now),
      subst (λ (v : View). IsPublished v.seen) (sym now) h.3,
      subst (λ (v : View). Own c.self.inside.number v.seen.entries 0 v.own_entries) (sym now) (own_later _ old.seen.entries f.0.entries 0 old.own_entries later.1 i.5),
    )
