-- Document 01, "Records" (FORMAT, Records): camera records.
use Rattle.std.specs.Prelude.{ℕ, Bool, not, List, [], take, drop}
use Rattle.layout.specs.Numbers.{signed, float}
use Rattle.layout.specs.{Walk.{Reader, ◌>>=◌, ◌>>◌, give, u32, bool, block, Answer, answered, declined, entry_of}, Records.{camera}}
use Rattle.binary.specs.Groups.{u32s}
use Rattle.records.specs.Base.{base_bits, base_of, span_of}
use Rattle.section.specs.declared.limits.Limits.{Limits}
use Rattle.camera_light.specs.{Track.{locate}, Vector.{vector_width, vector_of, item_at}}
use Rattle.camera_light.specs.declared.{track.Kind.{Kind}, camera.{ViewBits.{ViewBits}, LensBits.{LensBits}, CameraBits.{CameraBits}}}
use Rattle.camera_light.specs.declared.camera.{CameraOffsets.{CameraOffsets}, CameraKeyframeSummary.{CameraKeyframeSummary}}

-- "distance f32, look-at 3 f32, angle 3 f32, parent model i32, parent bone i32"
unfoldable pub view_bits : Reader ViewBits
view_bits = do
  distance ← u32
  look ← u32s 3
  angle ← u32s 3
  model ← u32
  bone ← u32
  give (record { distance = distance; look_at = look; angle = angle; parent_model = model; parent_bone = bone })

abbrev pub interpolation_width : ℕ
interpolation_width = 24

-- "interpolation 24 bytes, perspective byte, fov i32, selected bool"
unfoldable pub lens_bits : Reader LensBits
lens_bits = do
  block interpolation_width
  perspective ← bool
  fov ← u32
  selected ← bool
  give (record { perspective_byte = perspective; fov = fov; selected = selected })

unfoldable pub camera_bits : Bool → Reader CameraBits
camera_bits include_index = do
  base ← base_bits include_index
  view ← view_bits
  lens ← lens_bits
  give (record { base = base; view = view; lens = lens })

unfoldable pub offsets_of : ℕ → CameraOffsets
offsets_of end =
    record {
      distance_offset = item_at camera 0 end;
      look_at_offset = item_at camera 1 end;
      look_at_byte_length = vector_width;
      angle_offset = item_at camera 4 end;
      angle_byte_length = vector_width;
      parent_model_index_offset = item_at camera 7 end;
      parent_model_bone_index_offset = item_at camera 8 end;
      interpolation_offset = item_at camera 9 end;
      interpolation_byte_length = interpolation_width;
      perspective_view_offset = item_at camera 10 end;
      fov_offset = item_at camera 11 end;
      selected_offset = item_at camera 12 end;
    }

-- The summary of a record from `offset` to `end`. "The perspective view is on when its byte is 0."
unfoldable pub camera_of : CameraBits → ℕ → ℕ → CameraKeyframeSummary
camera_of b offset end =
    record {
      base = base_of b.base;
      distance = float b.view.distance;
      distance_bits = b.view.distance;
      look_at = vector_of b.view.look_at;
      look_at_bits = b.view.look_at;
      angle = vector_of b.view.angle;
      angle_bits = b.view.angle;
      parent_model_index = signed b.view.parent_model;
      parent_model_bone_index = signed b.view.parent_bone;
      perspective_view = not b.lens.perspective_byte;
      fov = signed b.lens.fov;
      selected = b.lens.selected;
      offsets = offsets_of end;
      span = span_of offset b.base.payload_offset end;
    }

abbrev pub camera_keyframe : Limits → Bool → ℕ → List ℕ → ℕ → Answer CameraKeyframeSummary
camera_keyframe limits include_index k s start =
    entry_of (locate limits Kind.Camera include_index k s start) (λ t. camera_bits include_index) (λ t at b end. camera_of b at end) s

-- The interpolation's bytes, or nothing.
abbrev pub curves_part : Answer CameraKeyframeSummary → List ℕ → List ℕ
curves_part (answered b) s = take interpolation_width (drop b.offsets.interpolation_offset s)
curves_part (declined why) s = []
