-- The numbers of a model section's summary: 27, then the 16 offsets.
use Rattle.std.specs.Prelude.{ℕ, ℤ, List, [], ◌∷◌, ◌++◌, get_or, pos}
use Rattle.answer_numbers.specs.Scalars.{pattern, flag}
use Rattle.section.specs.declared.summary.PmmDocumentModelSections.{PmmDocumentModelSections}
use Rattle.section.specs.declared.summary.PmmDocumentModelSummary.{PmmDocumentModelSummary}

unfoldable pub places : PmmDocumentModelSummary → List ℕ
places s =
    s.document_model_index ∷ s.offset ∷ s.offset_end ∷ s.path_offset ∷ s.bone_count ∷ s.morph_count
    ∷ s.constraint_bone_count ∷ s.outside_parent_subject_bone_count ∷ []

unfoldable pub view : PmmDocumentModelSummary → List ℕ
view s = s.draw_order_index ∷ s.transform_order_index ∷ pattern s.selected_bone_index ∷ []

-- Four indices.
unfoldable pub selected : List ℤ → List ℕ
selected s = pattern (get_or s 0 (pos 0)) ∷ pattern (get_or s 1 (pos 0)) ∷ pattern (get_or s 2 (pos 0)) ∷ pattern (get_or s 3 (pos 0)) ∷ []

unfoldable pub counts : PmmDocumentModelSummary → List ℕ
counts s =
    pattern s.vertical_scroll ∷ s.initial_bone_keyframes ∷ s.bone_keyframes ∷ s.initial_morph_keyframes
    ∷ s.morph_keyframes ∷ s.initial_model_keyframes ∷ s.model_keyframes ∷ []

unfoldable pub ending : PmmDocumentModelSummary → List ℕ
ending s =
    pattern s.last_frame_index ∷ flag s.visible ∷ flag s.blend_enabled ∷ s.edge_width_bits
    ∷ flag s.self_shadow_enabled ∷ []

unfoldable pub scalars : PmmDocumentModelSummary → List ℕ
scalars s = places s ++ view s ++ selected s.selected_morph_indices ++ counts s ++ ending s

unfoldable pub record_offsets : PmmDocumentModelSections → List ℕ
record_offsets s =
    s.initial_bone_keyframes_offset ∷ s.bone_keyframe_count_offset ∷ s.bone_keyframes_offset ∷ s.bone_keyframes_end_offset
    ∷ s.initial_morph_keyframes_offset ∷ s.morph_keyframe_count_offset ∷ s.morph_keyframes_offset ∷ s.morph_keyframes_end_offset
    ∷ s.initial_model_keyframe_offset ∷ s.model_keyframe_count_offset ∷ s.model_keyframes_offset ∷ s.model_keyframes_end_offset ∷ []

unfoldable pub state_offsets : PmmDocumentModelSections → List ℕ
state_offsets s =
    s.bone_states_offset ∷ s.morph_states_offset ∷ s.constraint_states_offset ∷ s.outside_parent_states_offset ∷ []

unfoldable pub offsets : PmmDocumentModelSections → List ℕ
offsets s = record_offsets s ++ state_offsets s

unfoldable pub model_summary : PmmDocumentModelSummary → List ℕ
model_summary s = scalars s ++ offsets s.sections
