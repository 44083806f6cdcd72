-- What each refusal of a build says in document 01's terms (FORMAT, Refusals).
use Rattle.std.specs.Prelude.{ℕ, ℤ, List, [], ◌∷◌, pos, Result, Ok, Err}
use Rattle.std.proofs.Math.Option.{Option, none, some}
use Rattle.layout.specs.Refusals.{negative_index, index_below_count, repeated_index, missing_link, cycle, wrong_previous, negative_frame, repeated_frame, invalid_translation, invalid_orientation, invalid_weight, disconnected_records}
use Rattle.layout.specs.Walk.{Refusal, refusal}
use Rattle.clip.specs.Fields.{refusal_of}
use Rattle.blocks.specs.{Kind.{kind_of}, Track.{kind_of_track, number_of_track}}
use Rattle.blocks.specs.declared.{track.TrackIndex.{TrackIndex}, fault.Fault.{Fault}}

-- "3 to 11 and 15 also say bone or morph": a track is told with its kind.
abbrev pub of_track : TrackIndex → ℕ → List ℤ → Refusal
of_track track number values = refusal_of (kind_of (kind_of_track track)) number (pos (number_of_track track) ∷ values)

abbrev pub fault_of : Fault → Refusal
fault_of (Fault.NegativeIndex kind index) = refusal_of (kind_of kind) negative_index (index ∷ [])
fault_of (Fault.IndexBelowCount kind index count) = refusal_of (kind_of kind) index_below_count (index ∷ pos count ∷ [])
fault_of (Fault.RepeatedIndex kind index) = refusal_of (kind_of kind) repeated_index (index ∷ [])
fault_of (Fault.MissingLink track link) = of_track track missing_link (link ∷ [])
fault_of (Fault.Cycle track link) = of_track track cycle (link ∷ [])
fault_of (Fault.WrongPrevious track link found expected) = of_track track wrong_previous (link ∷ found ∷ expected ∷ [])
fault_of (Fault.NegativeFrame track frame) = of_track track negative_frame (frame ∷ [])
fault_of (Fault.RepeatedFrame track frame) = of_track track repeated_frame (frame ∷ [])
fault_of (Fault.InvalidTranslation bone frame) = refusal invalid_translation (pos bone.0 ∷ frame ∷ [])
fault_of (Fault.InvalidOrientation bone frame) = refusal invalid_orientation (pos bone.0 ∷ frame ∷ [])
fault_of (Fault.InvalidWeight morph frame) = refusal invalid_weight (pos morph.0 ∷ frame ∷ [])
fault_of (Fault.Disconnected kind records) = refusal_of (kind_of kind) disconnected_records (pos records ∷ [])

abbrev pub met_read : Result (Unit {0}) Fault → Option Refusal
met_read (Ok none_met) = none
met_read (Err fault) = some (fault_of fault)
