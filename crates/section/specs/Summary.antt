-- Document 01, module 2 (FORMAT, Calls by number): the Rust's summary of a model section, or the refusal.
use Rattle.std.specs.Prelude.{ℕ, List, map}
use Rattle.layout.specs.{Numbers.{signed, float}, Walk.{fine, after, Answer, answer}}
use Rattle.section.specs.declared.{limits.Limits.{Limits}, model.Model.{Model}, summary.PmmDocumentModelSections.{PmmDocumentModelSections}}
use Rattle.section.specs.declared.summary.PmmDocumentModelSummary.{PmmDocumentModelSummary}
use Rattle.section.specs.Model.{model_section}

unfoldable pub sections_of : Model → PmmDocumentModelSections
sections_of m =
    record {
      initial_bone_keyframes_offset = m.keyframes.bones.initial_offset;
      bone_keyframe_count_offset = m.keyframes.bones.count_offset;
      bone_keyframes_offset = m.keyframes.bones.offset;
      bone_keyframes_end_offset = m.keyframes.bones.end_offset;
      initial_morph_keyframes_offset = m.keyframes.morphs.initial_offset;
      morph_keyframe_count_offset = m.keyframes.morphs.count_offset;
      morph_keyframes_offset = m.keyframes.morphs.offset;
      morph_keyframes_end_offset = m.keyframes.morphs.end_offset;
      initial_model_keyframe_offset = m.keyframes.models.initial_offset;
      model_keyframe_count_offset = m.keyframes.models.count_offset;
      model_keyframes_offset = m.keyframes.models.offset;
      model_keyframes_end_offset = m.keyframes.models.end_offset;
      bone_states_offset = m.states.bones;
      morph_states_offset = m.states.morphs;
      constraint_states_offset = m.states.constraints;
      outside_parent_states_offset = m.states.parents;
    }

-- The summary of a section that starts at `start` and ends at `end`.
unfoldable pub summary_of : ℕ → Model → ℕ → PmmDocumentModelSummary
summary_of start m end =
    record {
      document_model_index = m.front.opening.document_model_index;
      offset = start;
      offset_end = end;
      path_offset = m.front.opening.path_offset;
      bone_count = m.front.counts.bones.count;
      morph_count = m.front.counts.morphs.count;
      constraint_bone_count = m.front.counts.constraints;
      outside_parent_subject_bone_count = m.front.counts.parents;
      draw_order_index = m.front.view.draw_order_index;
      transform_order_index = m.ending.transform_order_index;
      selected_bone_index = signed m.front.view.selected_bone;
      selected_morph_indices = map signed m.front.view.selected_morphs;
      vertical_scroll = signed m.front.scroll.vertical_scroll;
      sections = sections_of m;
      initial_bone_keyframes = m.front.counts.bones.count;
      bone_keyframes = m.keyframes.bones.count;
      initial_morph_keyframes = m.front.counts.morphs.count;
      morph_keyframes = m.keyframes.morphs.count;
      initial_model_keyframes = 1;
      model_keyframes = m.keyframes.models.count;
      last_frame_index = signed m.front.scroll.last_frame;
      visible = m.front.view.visible;
      blend_enabled = m.ending.blend_enabled;
      edge_width = float m.ending.edge_width;
      edge_width_bits = m.ending.edge_width;
      self_shadow_enabled = m.ending.self_shadow_enabled;
    }

unfoldable pub model_summary : Limits → List ℕ → ℕ → Answer PmmDocumentModelSummary
model_summary limits s start = answer (after (model_section limits s start) (λ m end. fine (summary_of start m end) end))
