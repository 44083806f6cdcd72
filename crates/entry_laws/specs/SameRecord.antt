-- Document 01, "Build fields" (FORMAT, What a build takes): "Bone: frame, next link, 16 interpolation bytes, pose bits. Morph: frame, next
-- link, weight bits. An additional record also has index and previous link." The record of a number that a call answers is the record of
-- that position that a build takes: its summary shows these fields, pose and weight as floats and as bits, and the bytes of its body are
-- the first of the payload that is handed back (module 7: "as the part of the section that holds it").
use Rattle.std.specs.{Prelude.{ℕ, ◌<◌, true, false, List, ◌++◌, ◌≡◌, take, Some, None}, List.{concat}}
use Rattle.layout.specs.{Numbers.{signed}, Walk.{Answer, answered, u32_at}}
use Rattle.records.specs.declared.base.PmmDocumentBaseKeyframeSummary.{PmmDocumentBaseKeyframeSummary}
use Rattle.records.specs.declared.bone.PmmDocumentBoneKeyframeSummary.{PmmDocumentBoneKeyframeSummary}
use Rattle.records.specs.declared.morph.PmmDocumentMorphKeyframeSummary.{PmmDocumentMorphKeyframeSummary}
use Rattle.section.specs.declared.{limits.Limits.{Limits}, model.Model.{Model}}
use Rattle.entries.specs.{Keyframes.{bone_keyframe, morph_keyframe}, Interpolation.{curves_or}, Parts.{payload_or}}
use Rattle.clip.specs.{Fields.{Initial, Additional, BoneBody}, Keys.{posed, pose_bits_of, float_at}, Section.{bones, morphs}}

-- The base that is shown of an additional record, and that of an initial one, which has no index and whose previous link no build takes.
pub record SameBase {B : Type 0} (r : Additional B) (shown : PmmDocumentBaseKeyframeSummary) : Type 0 where
  pub index : shown.index ≡ Some (signed r.index)
  pub frame : shown.frame_index ≡ signed r.frame
  pub previous : shown.previous_keyframe_index ≡ signed r.previous
  pub next : shown.next_keyframe_index ≡ signed r.next

pub record SameInitialBase {B : Type 0} (r : Initial B) (shown : PmmDocumentBaseKeyframeSummary) : Type 0 where
  pub index : shown.index ≡ None
  pub frame : shown.frame_index ≡ signed r.frame
  pub next : shown.next_keyframe_index ≡ signed r.next

-- A call that answers a bone record with such a base and this body. Its interpolation is handed back as four curves and as a part, and
-- stands in the payload in front of the pose, 12 bytes of translation and 16 of orientation.
pub record SameBone (s : List ℕ) (call : Answer PmmDocumentBoneKeyframeSummary) (Base : PmmDocumentBaseKeyframeSummary → Type 0) (body : BoneBody) : Type 0 where
  pub summary : PmmDocumentBoneKeyframeSummary
  pub answers : call ≡ answered summary
  pub base : Base summary.base
  pub pose_bits : summary.pose_bits ≡ pose_bits_of body
  pub pose : summary.pose ≡ posed body
  pub curves : concat (curves_or call s) ≡ body.interpolation
  pub part : take 16 (payload_or (λ b. b.span) call s) ≡ body.interpolation
  pub payload : take 44 (payload_or (λ b. b.span) call s) ≡ body.interpolation ++ body.translation ++ body.orientation

-- A call that answers a morph record with such a base and this body, the 4 bytes of its weight.
pub record SameMorph (s : List ℕ) (call : Answer PmmDocumentMorphKeyframeSummary) (Base : PmmDocumentBaseKeyframeSummary → Type 0) (body : List ℕ) : Type 0 where
  pub summary : PmmDocumentMorphKeyframeSummary
  pub answers : call ≡ answered summary
  pub base : Base summary.base
  pub weight_bits : summary.weight_bits ≡ u32_at body 0
  pub weight : summary.weight ≡ float_at body 0
  pub payload : take 4 (payload_or (λ b. b.span) call s) ≡ body

-- Every record of a section that is read as this model.
pub record SameRecords (limits : Limits) (s : List ℕ) (start : ℕ) (m : Model) : Type 0 where
  pub additional_bones : (k : ℕ) → k < (bones s m).additional → SameBone s (bone_keyframe limits true k s start) (SameBase ((bones s m).at k)) ((bones s m).at k).body
  pub initial_bones : (k : ℕ) → k < (bones s m).tracks → SameBone s (bone_keyframe limits false k s start) (SameInitialBase ((bones s m).initial k)) ((bones s m).initial k).body
  pub additional_morphs : (k : ℕ) → k < (morphs s m).additional → SameMorph s (morph_keyframe limits true k s start) (SameBase ((morphs s m).at k)) ((morphs s m).at k).body
  pub initial_morphs : (k : ℕ) → k < (morphs s m).tracks → SameMorph s (morph_keyframe limits false k s start) (SameInitialBase ((morphs s m).initial k)) ((morphs s m).initial k).body
