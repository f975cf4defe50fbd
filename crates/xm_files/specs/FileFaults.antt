-- The faults of files.
use Rattle.std.specs.Prelude.{ℕ, ◌+◌, ◌-◌, ◌==◌, Bool, true, false, if◌then◌else◌, Result, Ok, Err}
use Rattle.xm_files.specs.declared.bytes.ReadFault.{ReadFault}
use Rattle.xm_files.specs.declared.bytes.ReadFault.TheVariants as reading
use Rattle.xm_files.specs.declared.file_faults.FileCause.{FileCause}
use Rattle.xm_files.specs.declared.file_faults.FileCause.TheVariants.{ReadFailed, TooLong, OutOfMemory}
use Rattle.xm_files.specs.declared.file_faults.FileFault.{FileFault}

-- the most bytes that a file may have
abbrev pub max_bytes : ℕ
max_bytes = 16777216

-- a cause that reading a file whole may have
abbrev pub of_reading : FileCause → Bool
of_reading ReadFailed = true
of_reading TooLong = true
of_reading (OutOfMemory _) = true
of_reading _ = false

-- the cause by which a run tells why a file was not read
abbrev pub cause_of : ReadFault → FileCause
cause_of (reading.Failed error) = ReadFailed
cause_of reading.TooLong = TooLong
cause_of (reading.OutOfMemory refused) = OutOfMemory refused

-- the reader and the memory decide, and not the bytes
abbrev pub is_from_outside : FileCause → Bool
is_from_outside ReadFailed = true
is_from_outside (OutOfMemory _) = true
is_from_outside _ = false

-- a fault at a line
abbrev pub fault_at : ℕ → FileCause → FileFault
fault_at line cause = record { line = line; cause = cause }

-- a fault of a file that so many records come before, by what it is alone: the number of its record counts on; line 0 is that of no
-- record, and stays
abbrev pub later_fault : ℕ → FileFault → FileFault
later_fault before fault = if fault.line == 0 then fault else fault_at (before + fault.line) fault.cause

-- a fault of a file that so many records come before, by the file's own number of its record; line 0, that of no record, stays
abbrev pub own_fault : ℕ → FileFault → FileFault
own_fault before fault = fault_at (fault.line - before) fault.cause

-- the next step after one that may have a fault
abbrev pub result_then : {A B : Type 0} → Result A FileFault → (A → Result B FileFault) → Result B FileFault
result_then (Err fault) next = Err fault
result_then (Ok x) next = next x
