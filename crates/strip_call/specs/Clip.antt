-- The bytes of a clip's strip.
use Rattle.std.specs.Prelude.{ℕ, List, ◌≡◌, ◌≤◌, ◌<◌, Option, Some, None}
use Rattle.strip_call.specs.Bytes.{strip_bytes}
use Rattle.strip_call.specs.declared.clip_bytes.Clip.{Clip}

abbrev pub bytes_of : Clip → List ℕ
bytes_of c = strip_bytes c.bones.indexed.records.section.now c.bones.indexed.records.block c.morphs.indexed.records.block

-- So many bytes are enough, or too few by the length that is answered.
abbrev pub TooLong : ℕ → ℕ → Option ℕ → Type 0
TooLong length bytes None = length ≤ bytes
TooLong length bytes (Some n) = (bytes < length) × (n ≡ length)
