-- An entry or none, in the bytes of an entry.
use Rattle.std.specs.Prelude.{◌==◌, if◌then◌else◌, Option, None, Some}
use Rattle.xm_slots.specs.declared.entry.Entry.{Entry}
use Rattle.xm_slots.specs.declared.slot.TheConstants.{VACANT}

abbrev pub entry_in : {I : Type 0} → Entry I → Option (Entry I)
entry_in e = if e.time == VACANT then None else Some e

-- the entry with its item changed
abbrev pub with_item : {I : Type 0} → (I → I) → Entry I → Entry I
with_item change e = record e { item = change e.item }
