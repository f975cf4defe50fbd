-- Which texts of a day are asked for.
use Rattle.std.specs.Prelude.{◌≡◌, Bool, ◌||◌, false, None, is_some}
use Rattle.xm_texts.specs.declared.asked.AskedTexts.{AskedTexts}
use Rattle.xm_texts.specs.declared.told.Told.{Told}

-- the statement alone is asked for
pub record AsksNothing (asked : AskedTexts) : Type 0 where
  pub answers : asked.answers ≡ false
  pub trades : asked.trades ≡ false
  pub events : asked.events ≡ false
  pub depth : asked.depth ≡ false

-- nothing is told beside it
pub record TellsNothing (told : Told) : Type 0 where
  pub answers : told.answers ≡ None
  pub trades : told.trades ≡ None
  pub events : told.events ≡ None
  pub depth : told.depth ≡ None

-- whether anything is
abbrev pub is_telling : Told → Bool
is_telling told = is_some told.answers || is_some told.trades || is_some told.events || is_some told.depth
