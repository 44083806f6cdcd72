-- Each group is written behind the one before it. Assumes nothing.
use mathlib.Core.Path.{refl}
use Rattle.answer_numbers.specs.Keyframes.{morph, morph_fields}
use Rattle.answer_numbers.specs.Groups.{base}
use Rattle.answer_numbers.proofs.Putting.{behind}
use Rattle.answer_numbers.proofs.keyframes.PmmDocumentMorphKeyframeSummaryNumbers.put.Goals as goal

pub returns : goal.returns
unfolding morph morph_fields base
returns c =
    behind _ _ _ _ _ _ _
    (behind _ _ _ _ _ _ _
    c.put_at.ensures refl
    c.put_morph_fields.ensures) refl
    c.put_at-2.ensures
