-- The numbers of camera and light sections and their records.
use Rattle.std.specs.Prelude.{ℕ, List, [], ◌∷◌, ◌++◌}
use Rattle.answer_numbers.specs.{Scalars.{pattern, flag}, Groups.{base, vector, span}}
use Rattle.camera_light.specs.declared.track.PmmDocumentTrackSummary.{PmmDocumentTrackSummary}
use Rattle.camera_light.specs.declared.camera.{CameraOffsets.{CameraOffsets}, CameraKeyframeSummary.{CameraKeyframeSummary}}
use Rattle.camera_light.specs.declared.light.LightKeyframeSummary.{LightKeyframeSummary}

unfoldable pub track_summary : PmmDocumentTrackSummary → List ℕ
track_summary t =
    t.offset ∷ t.offset_end ∷ t.initial_keyframes ∷ t.keyframes ∷ t.keyframe_count_offset
    ∷ t.keyframes_offset ∷ t.keyframes_end_offset ∷ t.state_offset ∷ t.state_end_offset ∷ []

unfoldable pub camera_view : CameraKeyframeSummary → List ℕ
camera_view c = base c.base ++ c.distance_bits ∷ vector c.look_at_bits ++ vector c.angle_bits

unfoldable pub camera_fields : CameraKeyframeSummary → List ℕ
camera_fields c =
    pattern c.parent_model_index ∷ pattern c.parent_model_bone_index ∷ flag c.perspective_view
    ∷ pattern c.fov ∷ flag c.selected ∷ []

unfoldable pub camera_offsets : CameraOffsets → List ℕ
camera_offsets o =
    o.distance_offset ∷ o.look_at_offset ∷ o.look_at_byte_length ∷ o.angle_offset ∷ o.angle_byte_length
    ∷ o.parent_model_index_offset ∷ o.parent_model_bone_index_offset ∷ o.interpolation_offset ∷ o.interpolation_byte_length
    ∷ o.perspective_view_offset ∷ o.fov_offset ∷ o.selected_offset ∷ []

unfoldable pub camera_rest : CameraKeyframeSummary → List ℕ
camera_rest c = camera_fields c ++ camera_offsets c.offsets ++ span c.span

unfoldable pub camera : CameraKeyframeSummary → List ℕ
camera c = camera_view c ++ camera_rest c

unfoldable pub light_fields : LightKeyframeSummary → List ℕ
light_fields l =
    flag l.selected ∷ l.color_offset ∷ l.color_byte_length ∷ l.direction_offset ∷ l.direction_byte_length
    ∷ l.selected_offset ∷ []

unfoldable pub light : LightKeyframeSummary → List ℕ
light l = base l.base ++ vector l.color_bits ++ vector l.direction_bits ++ light_fields l ++ span l.span
