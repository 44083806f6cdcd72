-- Document 01, "Records" (FORMAT, Records): the fields of a bone, morph or model record, in file order, and their summaries.
use Rattle.std.specs.Prelude.{ℕ, ◌-◌, Bool}
use Rattle.layout.specs.{Numbers.{float}, Walk.{Reader, ◌>>=◌, ◌>>◌, give, here, bool, u32, block, times, items}}
use Rattle.layout.specs.Records.{constraint_state, pair}
use Rattle.records.specs.{Base.{base_bits, base_of, span_of}, Pose.{pose_bits, pose_of}}
use Rattle.records.specs.declared.bone.{BoneBits.{BoneBits}, PmmDocumentBoneKeyframeSummary.{PmmDocumentBoneKeyframeSummary}}
use Rattle.records.specs.declared.{morph.MorphBits.{MorphBits}, morph.PmmDocumentMorphKeyframeSummary.{PmmDocumentMorphKeyframeSummary}}
use Rattle.records.specs.declared.{model.ModelBits.{ModelBits}, model.PmmDocumentModelKeyframeSummary.{PmmDocumentModelKeyframeSummary}}

-- "interpolation 16 bytes, translation 3 f32, orientation 4 f32, physics disabled bool, selected bool"
unfoldable pub bone_bits : Bool → Reader BoneBits
bone_bits include_index = do
  base ← base_bits include_index
  block 16
  pose ← pose_bits
  physics ← bool
  selected ← bool
  give (record { base = base; pose = pose; physics_disabled = physics; selected = selected })

-- The summary of a record from `offset` to `end`.
unfoldable pub bone_of : BoneBits → ℕ → ℕ → PmmDocumentBoneKeyframeSummary
bone_of b offset end =
    record {
      base = base_of b.base;
      pose = pose_of b.pose;
      pose_bits = b.pose;
      physics_disabled = b.physics_disabled;
      selected = b.selected;
      span = span_of offset b.base.payload_offset end;
    }

-- "weight f32, selected bool"
unfoldable pub morph_bits : Bool → Reader MorphBits
morph_bits include_index = do
  base ← base_bits include_index
  weight ← u32
  selected ← bool
  give (record { base = base; weight = weight; selected = selected })

unfoldable pub morph_of : MorphBits → ℕ → ℕ → PmmDocumentMorphKeyframeSummary
morph_of b offset end =
    record {
      base = base_of b.base;
      weight = float b.weight;
      weight_bits = b.weight;
      selected = b.selected;
      span = span_of offset b.base.payload_offset end;
    }

-- "visible bool, C bools, P pairs of i32, self shadow bool"
unfoldable pub model_bits : Bool → ℕ → ℕ → Reader ModelBits
model_bits include_index constraints parents = do
  base ← base_bits include_index
  visible ← bool
  bools_at ← here
  times constraints (items constraint_state)
  pairs_at ← here
  times parents (items pair)
  shadow_at ← here
  shadow ← bool
  give (record {
    base = base;
    visible = visible;
    self_shadow_enabled = shadow;
    constraint_states_offset = bools_at;
    outside_parent_indices_offset = pairs_at;
    self_shadow_enabled_offset = shadow_at;
  })

unfoldable pub model_of : ℕ → ℕ → ModelBits → ℕ → ℕ → PmmDocumentModelKeyframeSummary
model_of constraints parents b offset end =
    record {
      base = base_of b.base;
      visible = b.visible;
      self_shadow_enabled = b.self_shadow_enabled;
      visible_offset = b.base.payload_offset;
      constraint_state_count = constraints;
      constraint_states_offset = b.constraint_states_offset;
      constraint_states_byte_length = b.outside_parent_indices_offset - b.constraint_states_offset;
      outside_parent_index_count = parents;
      outside_parent_indices_offset = b.outside_parent_indices_offset;
      outside_parent_indices_byte_length = b.self_shadow_enabled_offset - b.outside_parent_indices_offset;
      self_shadow_enabled_offset = b.self_shadow_enabled_offset;
      span = span_of offset b.base.payload_offset end;
    }
