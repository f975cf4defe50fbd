-- The lines of a statement that tell of each security, made by itself.
use Rattle.std.specs.Prelude.{◌≡◌, ℕ, ◌+◌, ◌<◌, ◌++◌, Bool, false, List, [], ◌∷◌, length, slice_index_or}
use Rattle.xm_texts.specs.Statement.{security_text}
use Rattle.xm_files.specs.Names.{NameLists}
use Rattle.xm_rules.specs.Step.{Journal, replay}

-- a security with its index, its lines so far, and whether memory was wanting for them
pub record SectionView : Type 0 where
  pub journal : Journal
  pub index : ℕ
  pub text : List ℕ
  pub lacks_memory : Bool

abbrev pub blank_section : ℕ → Journal → SectionView
blank_section index j = record { journal = j; index = index; text = []; lacks_memory = false }

-- the securities by their indices from this one on, of which nothing is told yet
abbrev pub blank_sections : ℕ → List Journal → List SectionView
blank_sections index [] = []
blank_sections index (j ∷ js) = blank_section index j ∷ blank_sections (index + 1) js

abbrev pub told_section : NameLists → SectionView → SectionView
told_section names s = record s { text = s.text ++ security_text names s.index (replay s.journal) }

-- each has told its lines, those aside for which memory was wanting
abbrev pub SectionsTold : NameLists → List SectionView → List SectionView → Type 0
SectionsTold names old new =
    (k : ℕ) (d : SectionView) → k < length old → (slice_index_or new k d).lacks_memory ≡ false → slice_index_or new k d ≡ told_section names (slice_index_or old k d)
