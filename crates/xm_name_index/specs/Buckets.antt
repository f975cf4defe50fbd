-- The names of a bucket.
use Rattle.std.specs.Prelude.{◌≡◌, ℕ, Bool, true, false, ◌==◌, ◌&&◌, if◌then◌else◌, not, List, [], ◌∷◌, find, Option, None}
use Rattle.std.specs.Option.{option_map}
use Rattle.xm_name_index.specs.declared.slot.Slot.{Slot}
use Rattle.xm_name_index.specs.declared.slot.TheConstants.{VACANT}

-- the slot has_reference no name
abbrev pub is_vacant : Slot → Bool
is_vacant s = s.key == VACANT

-- the slot has_reference a name
abbrev pub is_occupied : Slot → Bool
is_occupied s = not (is_vacant s)

-- the slot has_reference the name of this reference
abbrev pub has_reference : ℕ → Slot → Bool
has_reference r s = (s.reference == r) && is_occupied s

-- the key that a slot gives a reference, or that of no name
abbrev pub key_for : ℕ → Slot → ℕ
key_for r s = if s.reference == r then s.key else VACANT

-- the key that slots give a reference
abbrev pub key_in : ℕ → List Slot → Option ℕ
key_in r slots = option_map (λ (s : Slot). s.key) (find (has_reference r) slots)

-- the name that a slot has, with its key
abbrev pub slot_name : Slot → List (ℕ × ℕ)
slot_name s = if is_vacant s then [] else (s.reference, s.key) ∷ []

-- no two slots have the name of one reference
abbrev pub AreNamedApart : List Slot → Type 0
AreNamedApart [] = Unit {0}
AreNamedApart (s ∷ ss) = ((r : ℕ) → has_reference r s ≡ true → find (has_reference r) ss ≡ None) × AreNamedApart ss

-- what a slot becomes: the same, or one without a name
abbrev pub IsLeft : Bool → Slot → Slot → Type 0
IsLeft true s t = t ≡ s
IsLeft false s t = is_vacant t ≡ true

-- a slot stays where a test passes, and has_reference no name where its own fails
pub record LeavesSlot (answers : Slot → Bool → Type 0) (s t : Slot) : Type 0 where
  pub stays : Bool
  pub answered : is_vacant s ≡ false → answers s stays
  pub left : IsLeft stays s t

-- each slot of a list
abbrev pub Leaves : (Slot → Bool → Type 0) → List Slot → List Slot → Type 0
Leaves answers [] left = left ≡ []
Leaves answers (s ∷ ss) left = (t : Slot) × (ts : List Slot) × (left ≡ t ∷ ts) × LeavesSlot answers s t × Leaves answers ss ts
