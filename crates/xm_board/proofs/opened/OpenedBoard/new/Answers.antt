use Rattle.std.proofs.Common.{rules, ap, ◌∙◌, refl, ◌∷◌, ◌++◌}
use Rattle.std.specs.Prelude.{replicate}
use Rattle.xm_board.specs.Published.{IsPublished, words_of}
use Rattle.xm_board.specs.Words.{quote_words}
use Rattle.xm_rules.specs.declared.replies.Quote.{Quote}
use Rattle.xm_board.proofs.Steps.{begins}
use Rattle.xm_board.proofs.Quotes.{published_opening}
use Rattle.xm_board.proofs.opened.OpenedBoard.new.Goals as goal

pub of_words-requires : goal.of_words-requires
of_words-requires g c =
    begins IsPublished words_of 7 _ _ _ (c.opening_words-words.ensures.words ∙ ap (λ (q : Quote). 0 ∷ (quote_words q ++ replicate 8 0)) c.requires.quote) refl
    (published_opening _ _ c.requires.carried (search rules) c.requires.quote c.opening_words-words.ensures.prices)

pub invariant_of-result : goal.invariant_of-result
invariant_of-result g c =
    let published = published_opening _ _ c.requires.carried (search rules) c.requires.quote c.opening_words-words.ensures.prices in
    (search rules, search rules, search rules, search rules, search (rules, published))
