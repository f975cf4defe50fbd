-- Whose the files at some paths are.
use Rattle.std.specs.Prelude.{◌≡◌, ◌==◌, ◌&&◌, ◌||◌, ℕ, Bool, true, false, List, [], ◌∷◌, Option, Some, None, Result, Ok, is_some, bytes_eq, codes}
use Rattle.xm_program.specs.declared.places.Place.{Place}

-- the same lies at two paths
abbrev pub is_same : Option Place → Option Place → Bool
is_same (Some first) (Some second) = first.device == second.device && first.number == second.number
is_same _ _ = false

-- two paths lead to one file: they are the same, whatever lies there, or the same lies at both
abbrev pub is_one_file : List ℕ → Option Place → List ℕ → Option Place → Bool
is_one_file path place other lies = bytes_eq path other || is_same place lies

-- what lies at a path is the statement's, by what the system tells of its descriptors and of standard output: the file that this goes
-- to; and where it is closed, each file, since one would take its place
abbrev pub is_statements : Option Place → Option Place → Option Place → Bool
is_statements place descriptors None = is_some descriptors
is_statements place descriptors (Some output) = output.is_file && is_same place (Some output)

-- what may be told of a path: what lies there, or an error
module _ {E : Type 0} (Tells : List ℕ → Result (Option Place) E → Type 0) where
  -- a path doesn't lead to the file at another one, at which is looked where something lies at the path
  pub record IsOtherFile (path : List ℕ) (place : Option Place) (other : List ℕ) : Type 0 where
    pub lies : Option Place
    pub is_told : is_some place ≡ true → Tells other (Ok lies)
    pub is_another : is_one_file path place other lies ≡ false

  -- nor to that at any of these
  abbrev pub AreOtherFiles : List ℕ → Option Place → List (Option (List ℕ)) → Type 0
  AreOtherFiles path place [] = Unit {0}
  AreOtherFiles path place (None ∷ others) = AreOtherFiles path place others
  AreOtherFiles path place (Some other ∷ others) = IsOtherFile path place other × AreOtherFiles path place others

  -- a text may go to a path: what lies there is not the statement's, nor is it read
  pub record IsFree (inputs : List (Option (List ℕ))) (path : List ℕ) : Type 0 where
    pub place : Option Place
    pub is_told : Tells path (Ok place)
    pub descriptors : Option Place
    pub descriptors_are_told : Tells (codes "/proc/self/fd") (Ok descriptors)
    pub output : Option Place
    pub output_is_told : Tells (codes "/proc/self/fd/1") (Ok output)
    pub is_not_written : is_statements place descriptors output ≡ false
    pub is_not_read : AreOtherFiles path place inputs

  -- a text may go to each of these, as far as it is asked for
  abbrev pub AreFree : List (Option (List ℕ)) → List (Option (List ℕ)) → Type 0
  AreFree inputs [] = Unit {0}
  AreFree inputs (None ∷ paths) = AreFree inputs paths
  AreFree inputs (Some path ∷ paths) = IsFree inputs path × AreFree inputs paths

  -- a text goes to a file, if it is asked for, that is none of these
  abbrev pub IsSeparate : List (Option (List ℕ)) → Option (List ℕ) → Type 0
  IsSeparate made None = Unit {0}
  IsSeparate made (Some path) = (place : Option Place) × Tells path (Ok place) × AreOtherFiles path place made

  -- each text goes to a file that is none of those before it
  abbrev pub AreSeparate : List (Option (List ℕ)) → List (Option (List ℕ)) → Type 0
  AreSeparate made [] = Unit {0}
  AreSeparate made (path ∷ paths) = IsSeparate made path × AreSeparate (path ∷ made) paths
