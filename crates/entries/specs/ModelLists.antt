-- The lists of a model record: "C bools, P pairs of i32", by number (FORMAT, Calls by number).
use Rattle.std.specs.Prelude.{ℕ, Bool, List, slice_index}
use Rattle.layout.specs.{Numbers.{signed}, Walk.{Reader, after, Answer, bool}}
use Rattle.binary.specs.Groups.{u32s}
use Rattle.layout.specs.Records.{constraint_state, pair}
use Rattle.records.specs.Keyframes.{model_bits}
use Rattle.section.specs.declared.limits.Limits.{Limits}
use Rattle.entries.specs.{Lists.{listed, entry_at, nth}, Keyframes.{model_list}}
use Rattle.entries.specs.declared.model_lists.PmmDocumentOutsideParentIndexSummary.{PmmDocumentOutsideParentIndexSummary}

-- Bool k of the model record at an offset.
unfoldable pub flag_bits : Bool → ℕ → ℕ → ℕ → Reader Bool
flag_bits include_index constraints parents k s at =
    after (model_bits include_index constraints parents s at)
    (λ b end. after (entry_at (listed constraints b.constraint_states_offset constraint_state) k s) (λ u p. bool s p))

-- Pair k of the model record at an offset.
unfoldable pub pair_bits : Bool → ℕ → ℕ → ℕ → Reader (List ℕ)
pair_bits include_index constraints parents k s at =
    after (model_bits include_index constraints parents s at)
    (λ b end. after (entry_at (listed parents b.outside_parent_indices_offset pair) k s) (λ u p. u32s 2 s p))

unfoldable pub pair_of : List ℕ → PmmDocumentOutsideParentIndexSummary
pair_of b = record { parent_model_index = signed (slice_index b 0); parent_model_bone_index = signed (slice_index b 1) }

abbrev pub model_keyframe_constraint_state : Limits → Bool → ℕ → ℕ → List ℕ → ℕ → Answer Bool
model_keyframe_constraint_state limits include_index n k =
    nth limits (model_list include_index) n (λ m. flag_bits include_index m.front.counts.constraints m.front.counts.parents k)
    (λ m at b end. b)

abbrev pub model_keyframe_outside_parent : Limits → Bool → ℕ → ℕ → List ℕ → ℕ → Answer PmmDocumentOutsideParentIndexSummary
model_keyframe_outside_parent limits include_index n k =
    nth limits (model_list include_index) n (λ m. pair_bits include_index m.front.counts.constraints m.front.counts.parents k)
    (λ m at b end. pair_of b)
