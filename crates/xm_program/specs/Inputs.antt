-- What reads of an input give.
use Rattle.std.specs.Prelude.{◌≡◌, ℕ, List, Option, None, Result, Ok, Err}
use Rattle.xm_program.specs.declared.inputs.Input.{Input}
use Rattle.xm_program.specs.declared.inputs.Input.TheVariants.{Opened, Unopened}

-- the file that a call opened, or none
abbrev pub input_of : {F E : Type 0} → Result F E → Input F
input_of (Ok file) = Opened file
input_of (Err error) = Unopened

module _ {F : Type 0} where
  -- an input is the file at a path, as it is opened
  abbrev pub IsOpened : {E : Type 0} → (List ℕ → Result F E → Type 0) → List ℕ → Input F → Type 0
  IsOpened {E} Opens path input = (answer : Result F E) × Opens path answer × (input ≡ input_of answer)

  -- the bytes that an input has left: its file's, and none that are known where there is no file
  abbrev pub bytes_left : (F → Option (List ℕ)) → Input F → Option (List ℕ)
  bytes_left file_left (Opened file) = file_left file
  bytes_left file_left Unopened = None
