-- A board that is opened, before a type names it.
use Rattle.std.specs.Prelude.{[]}
use Rattle.atomic_table.specs.Seated.{TableId}
use Rattle.xm_rules.specs.declared.settings.DeskSettings.{DeskSettings}

pub record Unnamed : Type 0 where
  -- which table of words it is
  pub table : TableId
  pub settings : DeskSettings

-- the name of no table
abbrev pub no_table : TableId
no_table = record { words = 0; slots = 0; views_name = 0; atom = 0; block = 0; offset = 0; slot_names = [] }
