-- Document 01, "Turned down, and by whose doing" (FORMAT, Refusals): what the answers of the strip call's code say, a case for each.
use Rattle.std.specs.Prelude.{List, [], ◌∷◌, pos, negsuc, Ok, Err}
use Rattle.layout.specs.Walk.{Answer, answered, declined, refusal}
use Rattle.binary.specs.declared.refusal.Refusal.{Refusal}
use Rattle.blocks.specs.declared.{kind.Kind.{Kind}, track.TrackIndex.{TrackIndex}, fault.Fault.{Fault}}
use Rattle.strip.specs.Call.{Built}
use Rattle.strip_call.specs.Answers.{strip_read}
use Rattle.strip_call.specs.declared.answer.StripRefusal.{StripRefusal}

abbrev pub meets : Fault → Answer Built
meets fault = strip_read (Err (StripRefusal.Build fault))

abbrev pub bone_7 : TrackIndex
bone_7 = TrackIndex.Bone (record { 0 = 7 })

abbrev pub morph_7 : TrackIndex
morph_7 = TrackIndex.Morph (record { 0 = 7 })

-- A kind stands before the values of 3 to 11 and of 15: 0 of bones, 1 of morphs.
abbrev pub strip_answers : List (Answer Built × Answer Built)
strip_answers =
    (strip_read (Ok (record { strip_length = 5; reached = 6; loose = 7 })), answered (record { strip_length = 5; reached = 6; loose = 7 }))
    ∷ (strip_read (Err (StripRefusal.Reading (Refusal.CountAboveLimit 5))), declined (refusal 20 (pos 5 ∷ [])))
    ∷ (strip_read (Err (StripRefusal.WorkTooShort 5)), declined (refusal 17 (pos 5 ∷ [])))
    ∷ (strip_read (Err (StripRefusal.OutputTooShort 5)), declined (refusal 18 (pos 5 ∷ [])))
    ∷ (meets (Fault.NegativeIndex Kind.Morph (negsuc 4)), declined (refusal 3 (pos 1 ∷ negsuc 4 ∷ [])))
    ∷ (meets (Fault.IndexBelowCount Kind.Bone (pos 5) 6), declined (refusal 4 (pos 0 ∷ pos 5 ∷ pos 6 ∷ [])))
    ∷ (meets (Fault.RepeatedIndex Kind.Morph (pos 5)), declined (refusal 5 (pos 1 ∷ pos 5 ∷ [])))
    ∷ (meets (Fault.MissingLink bone_7 (pos 5)), declined (refusal 6 (pos 0 ∷ pos 7 ∷ pos 5 ∷ [])))
    ∷ (meets (Fault.Cycle morph_7 (pos 5)), declined (refusal 7 (pos 1 ∷ pos 7 ∷ pos 5 ∷ [])))
    ∷ (meets (Fault.WrongPrevious bone_7 (pos 4) (pos 5) (pos 6)), declined (refusal 8 (pos 0 ∷ pos 7 ∷ pos 4 ∷ pos 5 ∷ pos 6 ∷ [])))
    ∷ (meets (Fault.NegativeFrame morph_7 (negsuc 4)), declined (refusal 10 (pos 1 ∷ pos 7 ∷ negsuc 4 ∷ [])))
    ∷ (meets (Fault.RepeatedFrame bone_7 (pos 5)), declined (refusal 11 (pos 0 ∷ pos 7 ∷ pos 5 ∷ [])))
    ∷ (meets (Fault.InvalidTranslation (record { 0 = 7 }) (pos 5)), declined (refusal 12 (pos 7 ∷ pos 5 ∷ [])))
    ∷ (meets (Fault.InvalidOrientation (record { 0 = 7 }) (pos 5)), declined (refusal 13 (pos 7 ∷ pos 5 ∷ [])))
    ∷ (meets (Fault.InvalidWeight (record { 0 = 7 }) (pos 5)), declined (refusal 14 (pos 7 ∷ pos 5 ∷ [])))
    ∷ (meets (Fault.Disconnected Kind.Morph 5), declined (refusal 15 (pos 1 ∷ pos 5 ∷ [])))
    ∷ []
