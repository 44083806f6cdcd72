-- Document 01, module 7 (FORMAT, Calls by number): "A name, path or record payload is handed back as the part of the section that holds
-- it". What is handed back of a record that is answered is as long as its summary says; a bone's interpolation has 16 bytes, a camera's 24.
use Rattle.std.specs.Prelude.{ℕ, Bool, List, ◌≡◌, length, take}
use Rattle.layout.specs.Walk.{Answer, answered}
use Rattle.records.specs.declared.{base.Span.{Span}, bone.PmmDocumentBoneKeyframeSummary.{PmmDocumentBoneKeyframeSummary}}
use Rattle.section.specs.declared.limits.Limits.{Limits}
use Rattle.entries.specs.{Keyframes.{bone_keyframe, morph_keyframe, model_keyframe}, Parts.{payload_or}}
use Rattle.camera_light.specs.{Camera.{interpolation_width, camera_keyframe, curves_part}, Light.{light_keyframe}}
use Rattle.camera_light.specs.declared.camera.CameraKeyframeSummary.{CameraKeyframeSummary}

-- Of any answer that has a span.
pub record WholePayload {A : Type 0} (s : List ℕ) (span_of : A → Span) (a : Answer A) : Type 0 where
  pub whole : (x : A) → a ≡ answered x → length (payload_or span_of a s) ≡ (span_of x).payload_byte_length

pub record WholePayloads (limits : Limits) (s : List ℕ) (start : ℕ) (include_index : Bool) (k : ℕ) : Type 0 where
  pub bone : WholePayload s (λ b. b.span) (bone_keyframe limits include_index k s start)
  pub morph : WholePayload s (λ b. b.span) (morph_keyframe limits include_index k s start)
  pub model : WholePayload s (λ b. b.span) (model_keyframe limits include_index k s start)
  pub camera : WholePayload s (λ b. b.span) (camera_keyframe limits include_index k s start)
  pub light : WholePayload s (λ b. b.span) (light_keyframe limits include_index k s start)
  pub bone_curves : (b : PmmDocumentBoneKeyframeSummary) → bone_keyframe limits include_index k s start ≡ answered b → length (take 16 (payload_or (λ b. b.span) (bone_keyframe limits include_index k s start) s)) ≡ 16
  pub camera_curves : (b : CameraKeyframeSummary) → camera_keyframe limits include_index k s start ≡ answered b → length (curves_part (camera_keyframe limits include_index k s start) s) ≡ interpolation_width
