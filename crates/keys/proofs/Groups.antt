-- Whether a key's groups are plain, from what was read: three curves are plain if each is (`plain-parts`), and a curve if its four bytes
-- before clamping are one given number, because 20 and 107 are below 127 (`plain_word`). Assumes nothing.
use Prim.Native.Nat.{ℕ, ◌+◌, ◌*◌, ◌≤◌, ◌<◌, min}
use native.Mathlib.Decide.{ℕ_discrete}
use native.Mathlib.Omega.{arith}
use borrow.Author.Tests.{eq-eqb, ne_eqb}
use mathlib.Core.Bool.{Bool, true, false, ◌&&◌, cond, and-true, and_assoc}
use mathlib.Core.List.{List, [], ◌∷◌, ◌++◌}
use mathlib.Core.Path.{◌≡◌, refl, sym, ap, ◌∙◌}
use lib.Dec.{eqb}
use lib.Ieee.{eq}
use lib.ListN.{length, get_or, take, drop}
use Rattle.layout.specs.Numbers.{float}
use Rattle.records.specs.Curves.{curve_at}
use Rattle.records.specs.Pose.{pose_of}
use Rattle.records.proofs.CurvesWhole.{curves_bytes}
use Rattle.records.specs.declared.pose.Pose.{Pose}
use Rattle.clip.specs.Fields.{BoneBody}
use Rattle.clip.specs.Keys.{posed}
use Rattle.clip.specs.Section.{bone_body}
use Rattle.strip.specs.Plain.{one, plain_float, plain_floats, plain_bytes, plain_curve, plain_curves, clamped, bone_groups, bone_fields, morph_groups, morph_fields}
use Rattle.strip.specs.Keys.{map_byte}
use Rattle.keys.specs.Plain.{plain_in, bone_plain, standing}

all3 : (a b c : Bool) → a && b && c ≡ a && (b && (c && true))
all3 false b c = refl
all3 true false c = refl
all3 true true false = refl
all3 true true true = refl

all4 : (a b c d : Bool) → a && b && c && d ≡ a && (b && (c && (d && true)))
all4 false b c d = refl
all4 true b c d = all3 b c d

-- Four elements are the whole list.
pub four : (xs : List ℕ) → length xs ≡ 4 → get_or xs 0 0 ∷ get_or xs 1 0 ∷ get_or xs 2 0 ∷ get_or xs 3 0 ∷ [] ≡ xs
four [] l = absurd (omega arith)
four (a ∷ []) l = absurd (omega arith)
four (a ∷ b ∷ []) l = absurd (omega arith)
four (a ∷ b ∷ c ∷ []) l = absurd (omega arith)
four (a ∷ b ∷ c ∷ d ∷ []) l = refl
four (a ∷ b ∷ c ∷ d ∷ e ∷ xs) l = absurd (omega arith)

-- A byte below 127 is compared clamped or not.
clamped-equal : (b n : ℕ) → n < 127 → eqb b n ≡ eqb (min b 127) n
clamped-equal b n low = go (ℕ_discrete b n)
  where
    go : Dec (b ≡ n) → eqb b n ≡ eqb (min b 127) n
    go (yes e) = eq-eqb b n e ∙ sym (eq-eqb (min b 127) n (omega arith))
    go (no d) = ne_eqb b n d ∙ sym (ne_eqb (min b 127) n (λ e. d (omega arith)))

-- Numbers are equal if their lowest bytes are, and what is above them.
lowest-equal : (a b m n : ℕ) → a < 256 → b < 256 → eqb (a + 256 * m) (b + 256 * n) ≡ eqb a b && eqb m n
lowest-equal a b m n la lb = go (ℕ_discrete a b) (ℕ_discrete m n)
  where
    go : Dec (a ≡ b) → Dec (m ≡ n) → eqb (a + 256 * m) (b + 256 * n) ≡ eqb a b && eqb m n
    go (yes e) (yes f) = eq-eqb (a + 256 * m) (b + 256 * n) (omega arith) ∙ sym (rw (eq-eqb a b e) (eq-eqb m n f))
    go (yes e) (no d) = ne_eqb (a + 256 * m) (b + 256 * n) (λ s. d (omega arith)) ∙ sym (rw (eq-eqb a b e) (ne_eqb m n d))
    go (no d) f = ne_eqb (a + 256 * m) (b + 256 * n) (λ s. d (omega arith)) ∙ sym (rw (ne_eqb a b d))

-- A curve as one number: 20 + 256 * (20 + 256 * (107 + 256 * 107)).
pub plain_word : (a b c d : ℕ) → a < 256 → b < 256 → c < 256 → d < 256 → eqb (a + 256 * b + 65536 * c + 16777216 * d) 1802179604 ≡ plain_bytes plain_curve (clamped (a ∷ b ∷ c ∷ d ∷ []))
unfolding plain_bytes
plain_word a b c d la lb lc ld =
    let nested : a + 256 * b + 65536 * c + 16777216 * d ≡ a + 256 * (b + 256 * (c + 256 * d)) = omega arith in
    ap (λ (n : ℕ). eqb n 1802179604) nested
    ∙ lowest-equal a 20 (b + 256 * (c + 256 * d)) 7039764 la (omega arith)
    ∙ ap (λ (t : Bool). eqb a 20 && t)
    (lowest-equal b 20 (c + 256 * d) 27499 lb (omega arith)
    ∙ ap (λ (t : Bool). eqb b 20 && t) (lowest-equal c 107 d 107 lc (omega arith)))
    ∙ rw (clamped-equal a 20 (omega arith), clamped-equal b 20 (omega arith), clamped-equal c 107 (omega arith), clamped-equal d 107 (omega arith)) (ap (λ (t : Bool). eqb (min a 127) 20 && (eqb (min b 127) 20 && (eqb (min c 127) 107 && t))) (sym (and-true (eqb (min d 127) 107))))

-- Plain bytes in two parts.
plain-parts : (ps xs qs ys : List ℕ) → length ps ≡ length xs → plain_bytes (ps ++ qs) (xs ++ ys) ≡ plain_bytes ps xs && plain_bytes qs ys
unfolding plain_bytes
plain-parts [] [] qs ys l = refl
plain-parts [] (x ∷ xs) qs ys l = absurd (omega arith)
plain-parts (p ∷ ps) [] qs ys l = absurd (omega arith)
plain-parts (p ∷ ps) (x ∷ xs) qs ys l = ap (λ (b : Bool). eqb x p && b) (plain-parts ps xs qs ys (omega arith)) ∙ sym (and_assoc (eqb x p) (plain_bytes ps xs) (plain_bytes qs ys))

module _ (s : List ℕ) (at : ℕ) where
  -- The first three curves and the fourth are the parts of the 16 bytes.
  pub first-curves : clamped (take 12 (bone_body s at).interpolation) ≡ clamped (curve_at s at) ++ (clamped (curve_at s (at + 4)) ++ clamped (curve_at s (at + 8)))
  unfolding bone_body
  first-curves = ap (λ (bs : List ℕ). clamped (take 12 bs)) (sym (curves_bytes s at))

  pub fourth-curve : clamped (drop 12 (bone_body s at).interpolation) ≡ clamped (curve_at s (at + 12))
  unfolding bone_body
  fourth-curve = ap (λ (bs : List ℕ). clamped (drop 12 bs)) (sym (curves_bytes s at))

  abbrev body : BoneBody
  body = bone_body s at

  abbrev pose : Pose
  pose = posed body

  translation-is : eq pose.translation_x (float 0) && eq pose.translation_y (float 0) && eq pose.translation_z (float 0) ≡ plain_in bone_groups (bone_fields body) 0
  unfolding plain_floats plain_float pose_of
  translation-is = all3 (eq pose.translation_x (float 0)) (eq pose.translation_y (float 0)) (eq pose.translation_z (float 0))

  orientation-is : eq pose.orientation_x (float 0) && eq pose.orientation_y (float 0) && eq pose.orientation_z (float 0) && eq pose.orientation_w (float one) ≡ plain_in bone_groups (bone_fields body) 1
  unfolding plain_floats plain_float pose_of
  orientation-is = all4 (eq pose.orientation_x (float 0)) (eq pose.orientation_y (float 0)) (eq pose.orientation_z (float 0)) (eq pose.orientation_w (float one))

  abbrev plain_at : ℕ → Bool
  plain_at place = plain_bytes plain_curve (clamped (curve_at s place))

  curves-is : plain_at at && plain_at (at + 4) && plain_at (at + 8) ≡ plain_in bone_groups (bone_fields body) 2
  curves-is =
      let x = clamped (curve_at s at) in
      let y = clamped (curve_at s (at + 4)) in
      let z = clamped (curve_at s (at + 8)) in
      and_assoc (plain_at at) (plain_at (at + 4)) (plain_at (at + 8))
      ∙ ap (λ (b : Bool). plain_at at && b) (sym (plain-parts plain_curve y plain_curve z refl))
      ∙ sym (plain-parts plain_curve x (plain_curve ++ plain_curve) (y ++ z) refl)
      ∙ ap (plain_bytes plain_curves) (sym first-curves)

  rotation-is : plain_at (at + 12) ≡ plain_in bone_groups (bone_fields body) 3
  rotation-is = ap (plain_bytes plain_curve) (sym fourth-curve)

  -- What was read and compared, t, o, c and r the answers.
  module _ (p : Pose) (t o c r : Bool) where
    pub bone-plain-is : p ≡ pose → t ≡ eq p.translation_x (float 0) && eq p.translation_y (float 0) && eq p.translation_z (float 0) → o ≡ eq p.orientation_x (float 0) && eq p.orientation_y (float 0) && eq p.orientation_z (float 0) && eq p.orientation_w (float one) → c ≡ plain_at at && plain_at (at + 4) && plain_at (at + 8) → r ≡ plain_at (at + 12) → record { translation = t; orientation = o; curves = c; rotation = r } ≡ bone_plain body
    bone-plain-is pe te oe ce re =
        let ft : t ≡ plain_in bone_groups (bone_fields body) 0 = te ∙ rw pe translation-is in
        let fo : o ≡ plain_in bone_groups (bone_fields body) 1 = oe ∙ rw pe orientation-is in
        let fc : c ≡ plain_in bone_groups (bone_fields body) 2 = ce ∙ curves-is in
        let fr : r ≡ plain_in bone_groups (bone_fields body) 3 = re ∙ rotation-is in
        rw (ft, fo, fc, fr)

scaled : (b : Bool) (k : ℕ) → cond b 0 k ≡ k * cond b 0 1
scaled true k = omega arith
scaled false k = omega arith

pub bone-map-is : (s : List ℕ) (at : ℕ) → standing 1 2 4 8 (bone_plain (bone_body s at)) ≡ map_byte bone_groups (bone_fields (bone_body s at))
unfolding map_byte
bone-map-is s at =
    let p = bone_plain (bone_body s at) in
    omega (arith, scaled p.orientation 2, scaled p.curves 4, scaled p.rotation 8)

pub morph-map-is : (body : List ℕ) → cond (plain_in morph_groups (morph_fields body) 0) 0 1 ≡ map_byte morph_groups (morph_fields body)
unfolding map_byte
morph-map-is body = omega arith

-- At most what all groups together give.
pub at_most : (b : Bool) (n : ℕ) → cond b 0 n ≤ n
at_most true n = omega arith
at_most false n = omega arith

pub ruleset groups = (bone-plain-is)
