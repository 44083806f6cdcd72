-- Document 01, "Model section" (FORMAT, A model section): "31 bytes a bone (translation, orientation, three bools: dirty, physics disabled,
-- selected), 4 a morph (weight), 1 a constraint (bool), 16 an outside parent (four i32)". A morph's, a constraint's and an outside parent's
-- state are read as they stand.
use Rattle.std.specs.Prelude.{ℕ, List, slice_index}
use Rattle.layout.specs.{Numbers.{signed, float}, Walk.{Reader, ◌>>=◌, give, bool}}
use Rattle.records.specs.Pose.{pose_bits, pose_of}
use Rattle.records.specs.declared.{states.BoneStateBits.{BoneStateBits}, states.PmmDocumentBoneStateSummary.{PmmDocumentBoneStateSummary}}
use Rattle.records.specs.declared.states.PmmDocumentMorphStateSummary.{PmmDocumentMorphStateSummary}
use Rattle.records.specs.declared.states.PmmDocumentOutsideParentStateSummary.{PmmDocumentOutsideParentStateSummary}

unfoldable pub bone_state : Reader BoneStateBits
bone_state = do
  pose ← pose_bits
  dirty ← bool
  physics ← bool
  selected ← bool
  give (record { pose = pose; dirty = dirty; physics_disabled = physics; selected = selected })

unfoldable pub bone_state_of : BoneStateBits → PmmDocumentBoneStateSummary
bone_state_of b =
    record {
      pose = pose_of b.pose;
      pose_bits = b.pose;
      dirty = b.dirty;
      physics_disabled = b.physics_disabled;
      selected = b.selected;
    }

unfoldable pub morph_state_of : ℕ → PmmDocumentMorphStateSummary
morph_state_of b = record { weight = float b; weight_bits = b }

unfoldable pub parent_state_of : List ℕ → PmmDocumentOutsideParentStateSummary
parent_state_of b =
    record {
      parent_model_index = signed (slice_index b 0);
      parent_model_bone_index = signed (slice_index b 1);
      subject_bone_index = signed (slice_index b 2);
      target_model_index = signed (slice_index b 3);
    }
