-- What is said to be wrong with a file.
use Rattle.std.specs.Prelude.{List, [], ◌∷◌, Option, Some, None, Result, Ok, Err}
use Rattle.xm_config.specs.declared.opening.OpenFault.{OpenFault}
use Rattle.xm_files.specs.declared.file_faults.FileFault.{FileFault}
use Rattle.xm_mistakes.specs.declared.mistake.Mistake.{Mistake}
use Rattle.xm_mistakes.specs.declared.mistake.OpenMistake.{OpenMistake}

-- the fault of the run that the first of these mistakes is; of none it is none
abbrev pub first_fault : List Mistake → Option FileFault
first_fault [] = None
first_fault (mistake ∷ more) = Some mistake.fault

-- the same of mistakes for which a segment isn't opened
abbrev pub first_open_fault : List OpenMistake → Option OpenFault
first_open_fault [] = None
first_open_fault (mistake ∷ more) = Some mistake.fault

-- the fault that a file has, if it has one
abbrev pub fault_in : {A : Type 0} → Result A FileFault → Option FileFault
fault_in (Ok read) = None
fault_in (Err fault) = Some fault
