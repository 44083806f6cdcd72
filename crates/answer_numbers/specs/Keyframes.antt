-- The numbers of bone, morph and model records.
use Rattle.std.specs.Prelude.{ℕ, List, [], ◌∷◌, ◌++◌}
use Rattle.answer_numbers.specs.{Scalars.{flag}, Groups.{base, pose, span}}
use Rattle.records.specs.declared.bone.PmmDocumentBoneKeyframeSummary.{PmmDocumentBoneKeyframeSummary}
use Rattle.records.specs.declared.morph.PmmDocumentMorphKeyframeSummary.{PmmDocumentMorphKeyframeSummary}
use Rattle.records.specs.declared.model.PmmDocumentModelKeyframeSummary.{PmmDocumentModelKeyframeSummary}

unfoldable pub bone_flags : PmmDocumentBoneKeyframeSummary → List ℕ
bone_flags b = flag b.physics_disabled ∷ flag b.selected ∷ []

unfoldable pub bone : PmmDocumentBoneKeyframeSummary → List ℕ
bone b = base b.base ++ pose b.pose_bits ++ bone_flags b ++ span b.span

unfoldable pub morph_fields : PmmDocumentMorphKeyframeSummary → List ℕ
morph_fields m = m.weight_bits ∷ flag m.selected ∷ []

unfoldable pub morph : PmmDocumentMorphKeyframeSummary → List ℕ
morph m = base m.base ++ morph_fields m ++ span m.span

unfoldable pub model_fields : PmmDocumentModelKeyframeSummary → List ℕ
model_fields m =
    flag m.visible ∷ flag m.self_shadow_enabled ∷ m.visible_offset
    ∷ m.constraint_state_count ∷ m.constraint_states_offset ∷ m.constraint_states_byte_length
    ∷ m.outside_parent_index_count ∷ m.outside_parent_indices_offset ∷ m.outside_parent_indices_byte_length
    ∷ m.self_shadow_enabled_offset ∷ []

unfoldable pub model : PmmDocumentModelKeyframeSummary → List ℕ
model m = base m.base ++ model_fields m ++ span m.span
