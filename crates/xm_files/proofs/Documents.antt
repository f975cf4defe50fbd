-- The table that bytes write.
use Rattle.std.proofs.Common.{◌≡◌, ℕ, Bool, true, false, List, Some, None, if◌then◌else◌, refl}
use Rattle.std.proofs.lemmas.Str.{is_utf8-from_IsUtf8, IsUtf8-from_is_utf8}
use Rattle.std.specs.Str.{is_utf8, IsUtf8}
use Rattle.toml.specs.Data.{Members}
use Rattle.toml.specs.Parse.{parse_document}
use Rattle.xm_files.specs.Segment.{document_of}

pub document-some : (bytes : List ℕ) (table : Members) → IsUtf8 bytes × (parse_document bytes ≡ Some table) → document_of bytes ≡ Some table
document-some bytes table h = rw (is_utf8-from_IsUtf8 bytes h.0) h.1

none-if : (bytes : List ℕ) (t : Bool) → is_utf8 bytes ≡ t → (IsUtf8 bytes → parse_document bytes ≡ None) → (if t then parse_document bytes else None) ≡ None
none-if bytes true e h = h (IsUtf8-from_is_utf8 bytes e)
none-if bytes false e h = refl

pub document-none : (bytes : List ℕ) → (IsUtf8 bytes → parse_document bytes ≡ None) → document_of bytes ≡ None
document-none bytes h = none-if bytes (is_utf8 bytes) refl h
