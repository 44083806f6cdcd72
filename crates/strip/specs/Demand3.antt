-- Demand 3, word for word (FORMAT, Two sections, one strip). Definitions only: what is to be proved, for the limits and the count's width
-- of an edition; the proofs, for editions whose counts fit the width, are in proofs/Demand3.antt.
use Rattle.std.specs.Prelude.{ℕ, ◌≡◌, ◌↔◌}
use Rattle.section.specs.declared.limits.Limits.{Limits}
use Rattle.clip.specs.{Section.{bones, morphs}, Matched.{Matched, UnpairedIsolated}}
use Rattle.strip.specs.Runs.{Lent, Within, Accepted, strip_out, LongEnough, SameTracks}

-- "Take any two model sections read within the limits, with equal bone and morph counts and with slices long enough, whatever those
-- held before. Let their initial bone and morph records have the same build fields, track by track. Let the first section be accepted, and
-- let each of its additional bone and morph records be paired with one of the second's of its kind that has the same build fields, no two
-- with the same one, wherever they stand. Then, for every such pairing, the second is accepted exactly when each of its unpaired
-- additional bone and morph records has both links zero and an index not below its kind's count and borne by no other of its kind. If so,
-- the strips are equal byte for byte."
pub record MatchedSections (limits : Limits) (width : ℕ) : Type 0 where
  pub accepted :
      (x y : Lent) (read_x : Within limits width x) (read_y : Within limits width y)
      → LongEnough width x read_x.model → LongEnough width y read_y.model
      → (of_bones : Matched (bones x.section read_x.model) (bones y.section read_y.model))
      → (of_morphs : Matched (morphs x.section read_x.model) (morphs y.section read_y.model))
      → Accepted limits width x
      → Accepted limits width y ↔ (UnpairedIsolated of_bones × UnpairedIsolated of_morphs)
  pub equal :
      (x y : Lent) (read_x : Within limits width x) (read_y : Within limits width y)
      → Matched (bones x.section read_x.model) (bones y.section read_y.model)
      → Matched (morphs x.section read_x.model) (morphs y.section read_y.model)
      → (accepted_x : Accepted limits width x) (accepted_y : Accepted limits width y)
      → strip_out limits width x accepted_x ≡ strip_out limits width y accepted_y

-- "Any two accepted sections, matched like this or not, have equal strips exactly when their bone and morph counts are equal and each track
-- has as many keys in both, those in the same place alike by 01."
pub record AcceptedSections (limits : Limits) (width : ℕ) : Type 0 where
  -- An accepted section was read within the limits.
  pub within : (x : Lent) → Accepted limits width x → Within limits width x
  pub equal :
      (x y : Lent) (read_x : Within limits width x) (read_y : Within limits width y)
      → (accepted_x : Accepted limits width x) (accepted_y : Accepted limits width y)
      → (strip_out limits width x accepted_x ≡ strip_out limits width y accepted_y)
      ↔ SameTracks x.section read_x.model y.section read_y.model
