-- What is answered of a model record, and of its lists, goes on from the record as it was read: steps one behind the other are the same
-- however they are grouped (layout, `after-after`). Assumes nothing.
use Rattle.std.proofs.Common.{◌≡◌, ℕ, Bool, List, refl, sym, ap, ◌∙◌}
use Rattle.layout.specs.Walk.{Walk, fine, refused, Reader, after, answer, entry_of, bool}
use Rattle.layout.specs.Records.{constraint_state, pair}
use Rattle.layout.proofs.Steps.{after-after, after-fine}
use Rattle.binary.specs.Groups.{u32s}
use Rattle.records.specs.Keyframes.{model_bits, model_of}
use Rattle.section.specs.declared.limits.Limits.{Limits}
use Rattle.section.specs.declared.model.Model.{Model}
use Rattle.section.specs.declared.names.Counts.{Counts}
use Rattle.entries.specs.Lists.{listed, entry_at, locate, nth}
use Rattle.entries.specs.Keyframes.{model_list, model_record, model_keyframe}
use Rattle.entries.specs.ModelLists.{flag_bits, pair_bits, pair_of, model_keyframe_constraint_state, model_keyframe_outside_parent}
use Rattle.entries.specs.declared.keyframes.ModelRecord.{ModelRecord}

module _ (limits : Limits) (include_index : Bool) (k : ℕ) (s : List ℕ) (start : ℕ) where
  read-on : {A B : Type 0} (bits : Counts → Reader A) (summary : Counts → ℕ → A → ℕ → B) (rest : ModelRecord → ℕ → Walk B) → ((counts : Counts) (at : ℕ) → after (model_bits include_index counts.constraints counts.parents s at) (λ b end. rest (record { counts = counts; at = at; bits = b }) end) ≡ after (bits counts s at) (λ b end. fine (summary counts at b end) end)) → nth limits (model_list include_index) k (λ m. bits m.front.counts) (λ m. summary m.front.counts) s start ≡ answer (after (model_record limits include_index k s start) rest)
  unfolding model_record entry_of
  read-on {A} {B} bits summary rest same = go (locate limits (model_list include_index) k s start)
    where
      go : (w : Walk Model) → answer (after w (λ m at. after (bits m.front.counts s at) (λ b end. fine (summary m.front.counts at b end) end))) ≡ answer (after (after w (λ m at. after (model_bits include_index m.front.counts.constraints m.front.counts.parents s at) (λ b end. fine (record { counts = m.front.counts; at = at; bits = b }) end))) rest)
      go (fine m at) =
          let turned = after-after (model_bits include_index m.front.counts.constraints m.front.counts.parents s at) (λ b end. fine (record { counts = m.front.counts; at = at; bits = b }) end) rest in
          ap answer (sym (same m.front.counts at) ∙ sym turned)
      go (refused why) = refl

  pub model_keyframe_is : model_keyframe limits include_index k s start ≡ answer (after (model_record limits include_index k s start) (λ r end. fine (model_of r.counts.constraints r.counts.parents r.bits r.at end) end))
  model_keyframe_is = read-on (λ counts. model_bits include_index counts.constraints counts.parents) (λ counts at b end. model_of counts.constraints counts.parents b at end) (λ r end. fine (model_of r.counts.constraints r.counts.parents r.bits r.at end) end) (λ counts at. refl)

  module _ (n : ℕ) where
    pub model_keyframe_constraint_state_is : model_keyframe_constraint_state limits include_index k n s start ≡ answer (after (model_record limits include_index k s start) (λ r end. after (entry_at (listed r.counts.constraints r.bits.constraint_states_offset constraint_state) n s) (λ u at. bool s at)))
    unfolding flag_bits
    model_keyframe_constraint_state_is = read-on (λ counts. flag_bits include_index counts.constraints counts.parents n) (λ counts at b end. b) (λ r end. after (entry_at (listed r.counts.constraints r.bits.constraint_states_offset constraint_state) n s) (λ u at. bool s at)) (λ counts at. sym (after-fine (flag_bits include_index counts.constraints counts.parents n s at)))

    pub model_keyframe_outside_parent_is : model_keyframe_outside_parent limits include_index k n s start ≡ answer (after (model_record limits include_index k s start) (λ r end. after (after (entry_at (listed r.counts.parents r.bits.outside_parent_indices_offset pair) n s) (λ u at. u32s 2 s at)) (λ b to. fine (pair_of b) to)))
    unfolding pair_bits
    model_keyframe_outside_parent_is = read-on (λ counts. pair_bits include_index counts.constraints counts.parents n) (λ counts at b end. pair_of b) (λ r end. after (after (entry_at (listed r.counts.parents r.bits.outside_parent_indices_offset pair) n s) (λ u at. u32s 2 s at)) (λ b to. fine (pair_of b) to)) (λ counts at. sym (after-after (model_bits include_index counts.constraints counts.parents s at) _ (λ b to. fine (pair_of b) to)))
