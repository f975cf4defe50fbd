-- What is written to an output.
use Rattle.std.specs.Prelude.{◌≡◌, ℕ, List, Option, Some, None, Result, Ok, option_map}
use Rattle.xm_program.specs.Days.{DayOutputs, Held}
use Rattle.xm_program.specs.Requests.{AskedDay}
use Rattle.xm_program.specs.declared.outputs.Output.{Output}
use Rattle.xm_program.specs.declared.outputs.Output.TheVariants.{Made, Unasked}
use Rattle.xm_program.specs.declared.outputs.TextFiles.{TextFiles}

module _ {F : Type 0} where
  -- the bytes that an output holds: its file's, and none that are known where there is no file
  abbrev pub contents_in : (F → Option (List ℕ)) → Output F → Option (List ℕ)
  contents_in file_holds (Made file) = file_holds file
  contents_in file_holds Unasked = None

  abbrev held_in : (F → Option (List ℕ)) → Output F → Output F → Held
  held_in file_holds old new = record { old = contents_in file_holds old; new = contents_in file_holds new }

  -- what the output of a statement and the files of the texts beside it hold, before and after
  abbrev pub outputs_of : (F → Option (List ℕ)) → Held → TextFiles F → TextFiles F → DayOutputs
  outputs_of file_holds statement old new = record {
    statement = statement;
    answers = held_in file_holds old.answers new.answers;
    trades = held_in file_holds old.trades new.trades;
    events = held_in file_holds old.events new.events;
    depth = held_in file_holds old.depth new.depth;
    carry = held_in file_holds old.carry new.carry;
  }

  -- an output is the file that was made at a path, where there is one
  abbrev pub IsMade : {E : Type 0} → (List ℕ → Result F E → Type 0) → Option (List ℕ) → Output F → Type 0
  IsMade Makes None output = output ≡ Unasked
  IsMade Makes (Some path) output = (file : F) × Makes path (Ok file) × (output ≡ Made file)

  -- each text of a day has the file that was made at its path
  pub record AreMade {E : Type 0} (Makes : List ℕ → Result F E → Type 0) (day : AskedDay) (files : TextFiles F) : Type 0 where
    pub answers : IsMade Makes day.answers files.answers
    pub trades : IsMade Makes day.trades files.trades
    pub events : IsMade Makes day.events files.events
    pub depth : IsMade Makes day.depth files.depth
    pub carry : IsMade Makes (option_map (λ c. c.1) day.carrying) files.carry
