-- The numbers of what records and states have in common.
use Rattle.std.specs.Prelude.{ℕ, List, [], ◌∷◌, ◌++◌, get_or}
use Rattle.answer_numbers.specs.Scalars.{pattern, index}
use Rattle.records.specs.declared.base.{PmmDocumentBaseKeyframeSummary.{PmmDocumentBaseKeyframeSummary}, Span.{Span}}
use Rattle.records.specs.declared.pose.PoseBits.{PoseBits}

unfoldable pub base : PmmDocumentBaseKeyframeSummary → List ℕ
base b =
    index b.index ∷ pattern b.frame_index ∷ pattern b.previous_keyframe_index ∷ pattern b.next_keyframe_index ∷ []

-- Three floats' bits.
unfoldable pub vector : List ℕ → List ℕ
vector bits = get_or bits 0 0 ∷ get_or bits 1 0 ∷ get_or bits 2 0 ∷ []

-- Four floats' bits.
unfoldable pub orientation : List ℕ → List ℕ
orientation bits = get_or bits 0 0 ∷ get_or bits 1 0 ∷ get_or bits 2 0 ∷ get_or bits 3 0 ∷ []

unfoldable pub pose : PoseBits → List ℕ
pose p = vector p.translation ++ orientation p.orientation

unfoldable pub span : Span → List ℕ
span s = s.offset ∷ s.byte_length ∷ s.payload_offset ∷ s.payload_byte_length ∷ []
