-- What the pen publishes.
use Rattle.std.specs.Prelude.{ℕ, ◌≤◌, List}
use Rattle.xm_board.specs.Journals.{IsLawful, quote_of}
use Rattle.xm_board.specs.Words.{HasPricesInRange, quote_words}
use Rattle.xm_board.specs.declared.journal.NumberedJournal.{NumberedJournal}
use Rattle.xm_ticks.specs.declared.numbers.TheConstants.{MAX_JOURNAL_LIMIT}

-- a lawful journal, with the ranges that the types of its settings and of its quote give
pub record IsPublished (j : NumberedJournal) : Type 0 where
  pub lawful : IsLawful j
  pub limit : j.settings.limit ≤ MAX_JOURNAL_LIMIT
  pub prices : HasPricesInRange (quote_of j)

-- the words that stand after the version
abbrev pub words_of : NumberedJournal → List ℕ
words_of j = quote_words (quote_of j)
