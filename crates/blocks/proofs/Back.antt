-- What is met is known by what document 01 says of it: `fault_back` tells it back from number and values, one number after the other, and
-- for each case of the enum that computes to the case itself. Assumes nothing.
use Prim.Native.Nat.{ℕ}
use mathlib.Core.Bool.{cond}
use mathlib.Core.Path.{◌≡◌, refl}
use lib.Dec.{eqb}
use lib.IntN.{ℤ, pos, negsuc}
use lib.ListN.{get_or}
use Rattle.layout.specs.Walk.{Refusal}
use Rattle.blocks.specs.Fault.{fault_of}
use Rattle.blocks.specs.declared.kind.Kind.{Kind}
use Rattle.blocks.specs.declared.track.TrackIndex.{TrackIndex}
use Rattle.blocks.specs.declared.fault.Fault.{Fault}

abbrev pub number : ℤ → ℕ
number (pos n) = n
number (negsuc n) = 0

module _ (why : Refusal) where
  abbrev pub value : ℕ → ℤ
  value i = get_or why.values i (pos 0)

  abbrev kind : Kind
  kind = cond (eqb (number (value 0)) 0) Kind.Bone Kind.Morph

  abbrev track : TrackIndex
  track = cond (eqb (number (value 0)) 0) (TrackIndex.Bone (record { 0 = number (value 1) })) (TrackIndex.Morph (record { 0 = number (value 1) }))

  abbrev pub fault_back : Fault
  fault_back =
      cond (eqb why.number 3) (Fault.NegativeIndex kind (value 1))
      (cond (eqb why.number 4) (Fault.IndexBelowCount kind (value 1) (number (value 2)))
      (cond (eqb why.number 5) (Fault.RepeatedIndex kind (value 1))
      (cond (eqb why.number 6) (Fault.MissingLink track (value 2))
      (cond (eqb why.number 7) (Fault.Cycle track (value 2))
      (cond (eqb why.number 8) (Fault.WrongPrevious track (value 2) (value 3) (value 4))
      (cond (eqb why.number 10) (Fault.NegativeFrame track (value 2))
      (cond (eqb why.number 11) (Fault.RepeatedFrame track (value 2))
      (cond (eqb why.number 12) (Fault.InvalidTranslation (record { 0 = number (value 0) }) (value 1))
      (cond (eqb why.number 13) (Fault.InvalidOrientation (record { 0 = number (value 0) }) (value 1))
      (cond (eqb why.number 14) (Fault.InvalidWeight (record { 0 = number (value 0) }) (value 1))
      (Fault.Disconnected kind (number (value 1)))))))))))))

pub fault-back : (f : Fault) → fault_back (fault_of f) ≡ f
fault-back (Fault.NegativeIndex Kind.Bone index) = refl
fault-back (Fault.NegativeIndex Kind.Morph index) = refl
fault-back (Fault.IndexBelowCount Kind.Bone index count) = refl
fault-back (Fault.IndexBelowCount Kind.Morph index count) = refl
fault-back (Fault.RepeatedIndex Kind.Bone index) = refl
fault-back (Fault.RepeatedIndex Kind.Morph index) = refl
fault-back (Fault.MissingLink (TrackIndex.Bone bone) link) = refl
fault-back (Fault.MissingLink (TrackIndex.Morph morph) link) = refl
fault-back (Fault.Cycle (TrackIndex.Bone bone) link) = refl
fault-back (Fault.Cycle (TrackIndex.Morph morph) link) = refl
fault-back (Fault.WrongPrevious (TrackIndex.Bone bone) link found expected) = refl
fault-back (Fault.WrongPrevious (TrackIndex.Morph morph) link found expected) = refl
fault-back (Fault.NegativeFrame (TrackIndex.Bone bone) frame) = refl
fault-back (Fault.NegativeFrame (TrackIndex.Morph morph) frame) = refl
fault-back (Fault.RepeatedFrame (TrackIndex.Bone bone) frame) = refl
fault-back (Fault.RepeatedFrame (TrackIndex.Morph morph) frame) = refl
fault-back (Fault.InvalidTranslation bone frame) = refl
fault-back (Fault.InvalidOrientation bone frame) = refl
fault-back (Fault.InvalidWeight morph frame) = refl
fault-back (Fault.Disconnected Kind.Bone records) = refl
fault-back (Fault.Disconnected Kind.Morph records) = refl
