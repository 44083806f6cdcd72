-- A bone record that is answered was read, and its interpolation with it (records, Facts): so the section has its curves. Assumes nothing.
use Prim.Native.Nat.{ℕ, ◌+◌, ◌≤◌}
use mathlib.Core.Bool.{Bool}
use mathlib.Core.List.{List}
use mathlib.Core.Path.{◌≡◌, refl, ap, subst, ◌∙◌}
use native.Mathlib.Omega.{arith}
use lib.ListN.{length}
use Rattle.layout.specs.Walk.{Walk, fine, refused, after, answered, answer, entry_of}
use Rattle.layout.proofs.Inversion.{came, same-value}
use Rattle.records.specs.Base.{span_of}
use Rattle.records.specs.Keyframes.{bone_bits, bone_of}
use Rattle.records.specs.declared.bone.PmmDocumentBoneKeyframeSummary.{PmmDocumentBoneKeyframeSummary}
use Rattle.records.proofs.Facts.{interpolation-fits}
use Rattle.section.specs.declared.model.Model.{Model}

pub curves-fit : (found : Walk Model) (include_index : Bool) (s : List ℕ) (b : PmmDocumentBoneKeyframeSummary) → entry_of found (λ m. bone_bits include_index) (λ m at v end. bone_of v at end) s ≡ answered b → b.span.payload_offset + 16 ≤ length s
unfolding entry_of bone_of span_of
curves-fit found include_index s b e = go (after found (λ m at. after (bone_bits include_index s at) (λ v end. fine (bone_of v at end) end))) refl e
  where
    go : (w : Walk PmmDocumentBoneKeyframeSummary) → after found (λ m at. after (bone_bits include_index s at) (λ v end. fine (bone_of v at end) end)) ≡ w → answer w ≡ answered b → b.span.payload_offset + 16 ≤ length s
    go (fine q next) is e =
        let same : q ≡ b = cc in
        let m = came found _ q next is in
        let v = came (bone_bits include_index s m.at) _ q next m.rest in
        let offset = ap (λ (k : PmmDocumentBoneKeyframeSummary). k.span.payload_offset) (same-value v.rest ∙ same) in
        subst (λ (n : ℕ). n + 16 ≤ length s) offset (interpolation-fits include_index s m.at v.value v.at v.first)
    go (refused why) is e = absurd (let z : ◌≡◌ {A = ℕ} 0 1 = cc in omega arith)

pub ruleset bone_interpolation = (curves-fit)
