-- A bone's fields, with the plain value in place of each plain group: its floats are equal (BoneFloats), its curve bytes the same, and 25
-- is not met for them. Assumes nothing.
use Prim.Native.Nat.{ℕ, min}
use native.Mathlib.Omega.{arith}
use borrow.Author.Tests.{eqb-true, le-ltb}
use mathlib.Core.Bool.{Bool, true, false, not, ◌||◌, cond}
use mathlib.Core.List.{List, [], ◌∷◌, ◌++◌}
use mathlib.Core.Option.{none}
use mathlib.Core.Path.{◌≡◌, refl, ap, ◌∙◌}
use lib.Dec.{eqb}
use lib.ListN.{length, take, drop}
use Rattle.std.proofs.Common.{take-append-drop}
use Rattle.layout.specs.Refusals.{invalid_translation, invalid_orientation}
use Rattle.records.specs.Curves.{curves_at}
use Rattle.records.specs.Pose.{pose_of}
use Rattle.clip.specs.First.{given}
use Rattle.clip.specs.Fields.{BoneBody}
use Rattle.clip.specs.Keys.{translation_fails, orientation_fails, pose_asked, posed}
use Rattle.clip.proofs.First.{or-false, or-none, given-none}
use Rattle.strip.specs.Plain.{plain_bytes, plain_curve, plain_curves, clamped, bone_groups, bone_fields}
use Rattle.strip.proofs.Keys.{Shaped}
use Rattle.strip_reader.specs.Key.{some_byte_above, bone_body_of, bone_refused}
use Rattle.strip_reader.specs.Answers.{bone_key}
use Rattle.strip_laws.specs.Same.{SameBone}
use Rattle.strip_laws.proofs.Floats.{both-true, not-false}
use Rattle.strip_laws.proofs.BoneFloats.{zeros, unturned, filled_floats, three_finite, four_finite, short, filled-finite, filled-three, filled_finite, filled-long, filled-four}

abbrev pub filled_bytes : List ℕ → List ℕ → List ℕ
filled_bytes plains bytes = cond (plain_bytes plains bytes) plains bytes

-- Plain bytes are those of the plain value.
pub plain_are : (ps bs : List ℕ) → length bs ≡ length ps → plain_bytes ps bs ≡ true → ps ≡ bs
unfolding plain_bytes
plain_are [] [] l e = refl
plain_are [] (b ∷ bs) l e = absurd (omega (arith, l))
plain_are (p ∷ ps) [] l e = absurd (omega (arith, l))
plain_are (p ∷ ps) (b ∷ bs) l e =
    let parts = both-true (eqb b p) (plain_bytes ps bs) e in
    let first = eqb-true b p parts.0 in
    rw (first, plain_are ps bs (omega (arith, l)) parts.1)

filled-bytes : (ps bs : List ℕ) → length bs ≡ length ps → filled_bytes ps bs ≡ bs
filled-bytes ps bs l = go (plain_bytes ps bs) refl
  where
    go : (b : Bool) → plain_bytes ps bs ≡ b → cond b ps bs ≡ bs
    go true e = plain_are ps bs l e
    go false e = refl

clamped-parts : (xs ys : List ℕ) → clamped xs ++ clamped ys ≡ clamped (xs ++ ys)
clamped-parts [] ys = refl
clamped-parts (x ∷ xs) ys = rw (clamped-parts xs ys)

pub clamped-below : (bs : List ℕ) → some_byte_above 127 (clamped bs) ≡ false
clamped-below [] = refl
clamped-below (b ∷ bs) = rw (le-ltb 127 (min b 127) (omega arith), clamped-below bs)

-- What was not met of a pose.
record PoseParts (t o : List ℕ) : Type 0 where
  pub translation : three_finite t ≡ true
  pub orientation : four_finite o ≡ true
  pub length : short o ≡ false

module _ (b : BoneBody) where
  pose-parts : pose_asked (posed b) ≡ none → PoseParts b.translation b.orientation
  unfolding pose_asked translation_fails orientation_fails pose_of
  pose-parts e =
      let t = not (three_finite b.translation) in
      let o = not (four_finite b.orientation) || short b.orientation in
      let both = or-none (given t invalid_translation) (given o invalid_orientation) e in
      let turned = or-false (not (four_finite b.orientation)) (short b.orientation) (given-none o invalid_orientation both.1) in
      record {
        translation = not-false (three_finite b.translation) (given-none t invalid_translation both.0);
        orientation = not-false (four_finite b.orientation) turned.0;
        length = turned.1;
      }

  parts-pose : PoseParts b.translation b.orientation → pose_asked (posed b) ≡ none
  unfolding pose_asked translation_fails orientation_fails pose_of
  parts-pose p = rw (p.translation, p.orientation, p.length)

-- A bone's fields with the plain values filled in.
abbrev pub filled_bone : BoneBody → List (List ℕ)
filled_bone b =
    filled_floats zeros b.translation
    ∷ filled_floats unturned b.orientation
    ∷ filled_bytes plain_curves (clamped (take 12 b.interpolation))
    ∷ filled_bytes plain_curve (clamped (drop 12 b.interpolation))
    ∷ []

module _ (b : BoneBody) (shaped : Shaped bone_groups (bone_fields b)) (fine : pose_asked (posed b) ≡ none) where
  same_curves : (bone_body_of (filled_bone b)).interpolation ≡ clamped b.interpolation
  same_curves =
      rw (filled-bytes plain_curves (clamped (take 12 b.interpolation)) shaped.1.1.0, filled-bytes plain_curve (clamped (drop 12 b.interpolation)) shaped.1.1.1.0)
      (clamped-parts (take 12 b.interpolation) (drop 12 b.interpolation) ∙ ap clamped (take-append-drop 12 b.interpolation))

  still-fine : pose_asked (posed (bone_body_of (filled_bone b))) ≡ none
  still-fine =
      let p = pose-parts b fine in
      parts-pose (bone_body_of (filled_bone b))
      (record {
        translation = filled-finite b.translation p.translation;
        orientation = filled_finite b.orientation p.orientation p.length;
        length = filled-long b.orientation p.orientation p.length;
      })

  pub bone-not_refused : bone_refused (filled_bone b) ≡ false
  unfolding bone_refused
  bone-not_refused = rw (still-fine, same_curves, clamped-below b.interpolation)

  pub bone-same : (frame : ℕ) → SameBone (bone_key (record { frame = frame; body = filled_bone b })) (record { frame = frame; body = b })
  unfolding pose_of
  bone-same frame =
      let p = pose-parts b fine in
      let t = filled-three b.translation p.translation in
      let o = filled-four b.orientation p.orientation p.length in
      record {
        frame = refl;
        curves = ap (λ (bytes : List ℕ). curves_at bytes 0) same_curves;
        pose = record {
          translation_x = t.0;
          translation_y = t.1;
          translation_z = t.2;
          orientation_x = o.0;
          orientation_y = o.1;
          orientation_z = o.2;
          orientation_w = o.3;
        };
      }
