-- How many numbers there are of each answer of several groups. Assumes nothing.
use mathlib.Core.Path.{◌≡◌, refl}
use lib.ListN.{length}
use Rattle.answer_numbers.specs.Groups.{base, vector, orientation, pose, span}
use Rattle.answer_numbers.specs.Keyframes.{bone_flags, bone, morph_fields, morph, model_fields, model}
use Rattle.answer_numbers.specs.States.{bone_state_flags, bone_state}
use Rattle.answer_numbers.specs.Summary.{places, view, selected, counts, ending, scalars, record_offsets, state_offsets, offsets, model_summary}
use Rattle.answer_numbers.specs.Tracks.{track_summary, camera_view, camera_fields, camera_offsets, camera_rest, camera, light_fields, light}
use Rattle.section.specs.declared.summary.PmmDocumentModelSummary.{PmmDocumentModelSummary}
use Rattle.records.specs.declared.pose.PoseBits.{PoseBits}
use Rattle.records.specs.declared.bone.PmmDocumentBoneKeyframeSummary.{PmmDocumentBoneKeyframeSummary}
use Rattle.records.specs.declared.morph.PmmDocumentMorphKeyframeSummary.{PmmDocumentMorphKeyframeSummary}
use Rattle.records.specs.declared.model.PmmDocumentModelKeyframeSummary.{PmmDocumentModelKeyframeSummary}
use Rattle.records.specs.declared.states.PmmDocumentBoneStateSummary.{PmmDocumentBoneStateSummary}
use Rattle.camera_light.specs.declared.track.PmmDocumentTrackSummary.{PmmDocumentTrackSummary}
use Rattle.camera_light.specs.declared.camera.CameraKeyframeSummary.{CameraKeyframeSummary}
use Rattle.camera_light.specs.declared.light.LightKeyframeSummary.{LightKeyframeSummary}

pub length-summary : (x : PmmDocumentModelSummary) → length (model_summary x) ≡ 43
unfolding model_summary scalars places view selected counts ending offsets record_offsets state_offsets
length-summary x = refl

pub length-pose : (x : PoseBits) → length (pose x) ≡ 7
unfolding pose vector orientation
length-pose x = refl

pub length-bone : (x : PmmDocumentBoneKeyframeSummary) → length (bone x) ≡ 17
unfolding bone base pose vector orientation bone_flags span
length-bone x = refl

pub length-morph : (x : PmmDocumentMorphKeyframeSummary) → length (morph x) ≡ 10
unfolding morph base morph_fields span
length-morph x = refl

pub length-model : (x : PmmDocumentModelKeyframeSummary) → length (model x) ≡ 18
unfolding model base model_fields span
length-model x = refl

pub length-bone-state : (x : PmmDocumentBoneStateSummary) → length (bone_state x) ≡ 10
unfolding bone_state pose vector orientation bone_state_flags
length-bone-state x = refl

pub length-track : (x : PmmDocumentTrackSummary) → length (track_summary x) ≡ 9
unfolding track_summary
length-track x = refl

pub length-camera-view : (x : CameraKeyframeSummary) → length (camera_view x) ≡ 11
unfolding camera_view base vector
length-camera-view x = refl

pub length-camera : (x : CameraKeyframeSummary) → length (camera x) ≡ 32
unfolding camera camera_view base vector camera_rest camera_fields camera_offsets span
length-camera x = refl

pub length-light : (x : LightKeyframeSummary) → length (light x) ≡ 20
unfolding light base vector light_fields span
length-light x = refl
