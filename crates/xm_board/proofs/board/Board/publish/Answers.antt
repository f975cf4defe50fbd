use Rattle.std.proofs.Common.{◌≡◌, ◌<◌, ◌^◌, ◌∙◌, ap, sym, subst, arith}
use Rattle.xm_board.specs.Journals.{IsLawful, entry_of, grown, version_of, quote_of}
use Rattle.xm_board.specs.declared.journal.Entry.{Entry}
use Rattle.xm_board.specs.declared.journal.NumberedJournal.{NumberedJournal}
use Rattle.xm_rules.specs.declared.replies.Quote.{Quote}
use Rattle.xm_board.proofs.Quotes.{quote-version, version_small, published_grown}
use Rattle.xm_board.proofs.board.Board.publish.Goals as goal

pub overflow_mul-sequence : goal.overflow_mul-sequence
overflow_mul-sequence g c =
    let i = c.pen.invariant in
    let seen = c.pen.inside.seat.me.0.seen in
    let v : c.pen.inside.last.version ≡ version_of seen = ap (λ (q : Quote). q.version) i.3 ∙ quote-version seen in
    let l : version_of seen < 2 ^ 32 = version_small seen i.4 in
    omega arith

pub write-requires-clause-sequence : goal.write-requires-clause-sequence
write-requires-clause-sequence g c =
    let i = c.pen.invariant in
    let seen = c.pen.inside.seat.me.0.seen in
    let v : c.pen.inside.last.version ≡ version_of seen = ap (λ (q : Quote). q.version) i.3 ∙ quote-version seen in
    let l : version_of seen < 2 ^ 32 = version_small seen i.4 in
    (omega arith, omega arith)

pub write-requires-clause-published : goal.write-requires-clause-published
write-requires-clause-published g c =
    let e : Entry = entry_of c.args.number c.args.command.now in
    let same : c.args.pen.now ≡ c.pen.inside.seat.me.0.seen = sym c.pen.view_is in
    published_grown c.pen.inside.seat.me.0.seen e c.args.quote.now c.pen.invariant.4 (subst (λ (j : NumberedJournal). IsLawful (grown j e)) same c.requires.lawful)
    (c.requires.quote ∙ ap (λ (j : NumberedJournal). quote_of (grown j e)) same) c.words_from-words.ensures.prices
