-- Document 01, "Records" (FORMAT, Records): light records.
use Rattle.std.specs.Prelude.{ℕ, Bool, List}
use Rattle.layout.specs.{Walk.{Reader, ◌>>=◌, give, bool, Answer, entry_of}, Records.{light}}
use Rattle.binary.specs.Groups.{u32s}
use Rattle.records.specs.Base.{base_bits, base_of, span_of}
use Rattle.section.specs.declared.limits.Limits.{Limits}
use Rattle.camera_light.specs.{Track.{locate}, Vector.{vector_width, vector_of, item_at}}
use Rattle.camera_light.specs.declared.{track.Kind.{Kind}, light.{LightBits.{LightBits}, LightKeyframeSummary.{LightKeyframeSummary}}}

-- "colour 3 f32, direction 3 f32, selected bool"
unfoldable pub light_bits : Bool → Reader LightBits
light_bits include_index = do
  base ← base_bits include_index
  color ← u32s 3
  direction ← u32s 3
  selected ← bool
  give (record { base = base; color = color; direction = direction; selected = selected })

-- The summary of a record from `offset` to `end`.
unfoldable pub light_of : LightBits → ℕ → ℕ → LightKeyframeSummary
light_of b offset end =
    record {
      base = base_of b.base;
      color = vector_of b.color;
      color_bits = b.color;
      direction = vector_of b.direction;
      direction_bits = b.direction;
      selected = b.selected;
      color_offset = item_at light 0 end;
      color_byte_length = vector_width;
      direction_offset = item_at light 3 end;
      direction_byte_length = vector_width;
      selected_offset = item_at light 6 end;
      span = span_of offset b.base.payload_offset end;
    }

abbrev pub light_keyframe : Limits → Bool → ℕ → List ℕ → ℕ → Answer LightKeyframeSummary
light_keyframe limits include_index k s start =
    entry_of (locate limits Kind.Light include_index k s start) (λ t. light_bits include_index) (λ t at b end. light_of b at end) s
