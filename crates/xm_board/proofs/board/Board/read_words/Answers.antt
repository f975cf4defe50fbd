use Rattle.std.proofs.Common.{rules, ◌≡◌, ℕ, ◌∙◌, ap, subst, arith}
use Rattle.xm_board.specs.Published.{IsPublished, words_of}
use Rattle.xm_board.specs.Rule.{AreReadWords}
use Rattle.xm_board.specs.declared.seats.View.{View}
use Rattle.xm_board.proofs.Steps.{reads_word}
use Rattle.xm_board.proofs.Reading.{reads_none, reads_one}
use Rattle.xm_board.proofs.board.Board.read_words.Goals as goal

pub loop-i-init : goal.loop-i-init
loop-i-init g c = (search rules, search rules, search rules, search (rules, reads_none))

pub load-requires : goal.load-requires
load-requires g c =
    let i = c.loop-i.invariant in
    let r = c.requires.reads in
    let now = i.3 r.0 r.1 r.2 in
    (search rules, search rules, reads_word IsPublished words_of 7 _ _ _ r.0 now.0 c.loop-i.i i.1 (ap (λ (v : View). v.stage) now.1) (omega arith))

pub loop-i-preserved : goal.loop-i-preserved
loop-i-preserved g c =
    let i = c.loop-i.invariant in
    let r = c.requires.reads in
    let now = i.3 r.0 r.1 r.2 in
    let p = c.load.ensures in
    let next = p.2 r.0 now.0 (ap (λ (v : View). v.stage) now.1) in
    (p.0 ∙ i.0, ap (λ (v : View). v.role) next.1 ∙ i.1, search rules, reads_one words_of _ _ _ _ _ _ (search rules) i.3 p.2)

pub returns-clause-words : goal.returns-clause-words
returns-clause-words g c =
    let e : c.loop-i.i ≡ 7 = search rules in
    subst (λ (z : ℕ). AreReadWords words_of z c.loop-i.words c.args.seat.now.me.0 c.loop-i.seat.me.0) e c.loop-i.invariant.3
