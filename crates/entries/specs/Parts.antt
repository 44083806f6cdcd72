-- Document 01, module 7 (FORMAT, Calls by number): "handed back as the part of the section that holds it; a refused call of this kind hands
-- back an empty part".
use Rattle.std.specs.Prelude.{List, [], ℕ, take, drop}
use Rattle.layout.specs.Walk.{Answer, answered, declined, bytes_of}
use Rattle.layout.specs.declared.Part.{Part}
use Rattle.records.specs.declared.base.Span.{Span}

abbrev pub part_or : Answer Part → List ℕ → List ℕ
part_or (answered p) s = bytes_of p s
part_or (declined why) s = []

-- The payload of the record that a call answers of.
abbrev pub payload_or : {A : Type 0} → (A → Span) → Answer A → List ℕ → List ℕ
payload_or span_of (answered x) s = take (span_of x).payload_byte_length (drop (span_of x).payload_offset s)
payload_or span_of (declined why) s = []
