-- Document 01, "Sections by hand": a case is a section, and what reading it from 0 gives, or what the strip call gives.
use Rattle.std.specs.Prelude.{ℕ, List, [], ◌∷◌, ℤ, ◌≡◌, take, replicate}
use Rattle.layout.specs.Walk.{Answer, answered, declined}
use Rattle.section.specs.{Limits.{edition1}, Summary.{model_summary}}
use Rattle.section.specs.declared.summary.PmmDocumentModelSummary.{PmmDocumentModelSummary}
use Rattle.strip.specs.{Strip.{count_width}, Call.{Outcome, strip_call}}

pub data Question : Type 0 where
  reading : Question
  strip : Question

-- Read: the offsets of the initial bones and of the bone, morph and model records, and the end. Accepted: the strip, reached and loose,
-- and the work slices. Refused: the number and values; bone is 0 where a kind is told first.
pub data Given : Type 0 where
  reads : ℕ → ℕ → ℕ → ℕ → ℕ → Given
  accepts : List ℕ → ℕ → ℕ → List ℕ → List ℕ → Given
  refuses : ℕ → List ℤ → Given

abbrev pub read : Answer PmmDocumentModelSummary → Given
read (answered m) =
    reads m.sections.initial_bone_keyframes_offset m.sections.bone_keyframes_offset
    m.sections.morph_keyframes_offset
    m.sections.model_keyframes_offset
    m.offset_end
read (declined why) = refuses why.number why.values

abbrev pub stripped : Outcome → Given
stripped o =
    elim o.answer [
      | answered b ↦ accepts (take b.strip_length o.output) b.reached b.loose o.first o.second
      | declined why ↦ refuses why.number why.values
    ]

-- The slices that are lent hold nines.
abbrev pub nines : ℕ → List ℕ
nines n = replicate n 9

abbrev pub given : Question → List ℕ → Given
given reading s = read (model_summary edition1 s 0)
given strip s = stripped (strip_call edition1 count_width s 0 (nines 2) (nines 2) (nines 28))

pub record Case : Type 0 where
  pub asked : Question
  pub section : List ℕ
  pub gives : Given

-- Every case of a table is as it says.
abbrev pub Hold : List Case → Type 0
Hold [] = Unit {0}
Hold (c ∷ cs) = (given c.asked c.section ≡ c.gives) × Hold cs

-- A section that the strip call accepts, with no additional record; one that it refuses.
abbrev pub gives_strip : List ℕ → List ℕ → Case
gives_strip section bytes =
    record { asked = strip; section = section; gives = accepts bytes 0 0 (9 ∷ 9 ∷ []) (9 ∷ 9 ∷ []) }

abbrev pub gives_refusal : List ℕ → ℕ → List ℤ → Case
gives_refusal section number values = record { asked = strip; section = section; gives = refuses number values }
