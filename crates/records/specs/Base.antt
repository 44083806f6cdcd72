-- Document 01, "Records" (FORMAT, Records): "A base is frame, previous link, next link (i32 each); an additional record has its index (i32)
-- before them, an initial record has none."
use Rattle.std.specs.{Prelude.{ℕ, ◌-◌, Bool, true, false, Option, Some, None}, Option.{option_map}}
use Rattle.layout.specs.{Numbers.{signed}, Walk.{Reader, ◌>>=◌, give, here, u32}}
use Rattle.records.specs.declared.base.{BaseBits.{BaseBits}, PmmDocumentBaseKeyframeSummary.{PmmDocumentBaseKeyframeSummary}}
use Rattle.records.specs.declared.base.Span.{Span}

abbrev pub index_bits : Bool → Reader (Option ℕ)
index_bits true = do
  index ← u32
  give (Some index)
index_bits false = give None

unfoldable pub base_bits : Bool → Reader BaseBits
base_bits include_index = do
  index ← index_bits include_index
  frame ← u32
  previous ← u32
  next ← u32
  payload ← here
  give (record { index = index; frame = frame; previous = previous; next = next; payload_offset = payload })

unfoldable pub base_of : BaseBits → PmmDocumentBaseKeyframeSummary
base_of b =
    record {
      index = option_map signed b.index;
      frame_index = signed b.frame;
      previous_keyframe_index = signed b.previous;
      next_keyframe_index = signed b.next;
    }

-- Where a record and its payload, which follows the base, stand.
unfoldable pub span_of : ℕ → ℕ → ℕ → Span
span_of offset payload end =
    record { offset = offset; byte_length = end - offset; payload_offset = payload; payload_byte_length = end - payload }
