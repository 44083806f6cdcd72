-- Demand 3 (FORMAT, Two sections, one strip) for any two runs of the strip call, from its contract alone. The proofs are in
-- proofs/TwoRuns.antt.
use Rattle.std.specs.Prelude.{◌↔◌, ◌≡◌}
use Rattle.clip.specs.{Section.{bones, morphs}, Matched.{Matched, UnpairedIsolated}}
use Rattle.strip.specs.{Strip.{count_width}, Runs.{LongEnough, SameTracks}}
use Rattle.strip_call.specs.Run.{Run, ReadWithin, Accepted, strip_out}

-- "Take any two model sections read within the limits, with equal bone and morph counts and with slices long enough, whatever those held
-- before. Let their initial bone and morph records have the same build fields, track by track. Let the first section be accepted, and let
-- each of its additional bone and morph records be paired with one of the second's of its kind that has the same build fields, no two with
-- the same one, wherever they stand. Then, for every such pairing, the second is accepted exactly when each of its unpaired additional
-- bone and morph records has both links zero and an index not below its kind's count and borne by no other of its kind. If so, the strips
-- are equal byte for byte."
pub record MatchedRuns : Type 0 where
  pub accepted :
      (x y : Run) (read_x : ReadWithin x) (read_y : ReadWithin y)
      → LongEnough count_width x.lent read_x.model → LongEnough count_width y.lent read_y.model
      → (of_bones : Matched (bones x.lent.section read_x.model) (bones y.lent.section read_y.model))
      → (of_morphs : Matched (morphs x.lent.section read_x.model) (morphs y.lent.section read_y.model))
      → Accepted x
      → Accepted y ↔ (UnpairedIsolated of_bones × UnpairedIsolated of_morphs)
  pub equal :
      (x y : Run) (read_x : ReadWithin x) (read_y : ReadWithin y)
      → Matched (bones x.lent.section read_x.model) (bones y.lent.section read_y.model)
      → Matched (morphs x.lent.section read_x.model) (morphs y.lent.section read_y.model)
      → (accepted_x : Accepted x) (accepted_y : Accepted y)
      → strip_out x accepted_x ≡ strip_out y accepted_y

-- "Any two accepted sections, matched like this or not, have equal strips exactly when their bone and morph counts are equal and each track
-- has as many keys in both, those in the same place alike by 01."
pub record AcceptedRuns : Type 0 where
  -- An accepted section was read within the limits.
  pub within : (x : Run) → Accepted x → ReadWithin x
  pub equal :
      (x y : Run) (read_x : ReadWithin x) (read_y : ReadWithin y) (accepted_x : Accepted x) (accepted_y : Accepted y)
      → (strip_out x accepted_x ≡ strip_out y accepted_y)
      ↔ SameTracks x.lent.section read_x.model y.lent.section read_y.model
