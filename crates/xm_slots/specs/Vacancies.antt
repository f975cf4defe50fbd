-- How the keys without an entry are kept.
use Rattle.std.specs.Prelude.{◌≡◌, ◌≤◌, ◌<◌, ℕ, ◌+◌, List, length, Option, None, Vec, vec_len, slice_index_or, is_some, count_by}
use Rattle.std.specs.List.{All}
use Rattle.std.specs.Vec.{vec_capacity}
use Rattle.xm_queues.specs.Keys.{AreDistinct}

-- a key within the slots that has no entry
pub record IsVacant {T : Type 0} (slots : List (Option T)) (key : ℕ) : Type 0 where
  pub within : key < length slots
  pub empty : slice_index_or slots key None ≡ None

-- the keys below the length of the entries that have no entry are the vacant ones, each once, and both lists have room for as
-- many keys as the capacity says, each of which fits four bytes
pub record IsSound {T A : Type 0} (entries : Vec (Option T) A) (vacant : Vec ℕ A) (capacity : ℕ) : Type 0 where
  pub vacancies : All (IsVacant entries.items) vacant.items
  pub distinct : AreDistinct vacant.items
  pub counted : count_by is_some entries.items + vec_len vacant ≡ vec_len entries
  pub entries_within : vec_len entries ≤ capacity
  pub entries_room : capacity ≤ vec_capacity entries
  pub vacant_room : capacity ≤ vec_capacity vacant
  pub keys : capacity ≤ 4294967295
