-- A morph's weight, with the plain value in its place where it is plain: 14 is not met, since 0 is finite, and the floats are equal
-- (Floats). Assumes nothing.
use Prim.Native.Nat.{ℕ}
use mathlib.Core.Bool.{Bool, true, false, not, cond}
use mathlib.Core.List.{List, [], ◌∷◌}
use mathlib.Core.Option.{none}
use mathlib.Core.Path.{◌≡◌, refl}
use lib.Ieee.{of_bits, eq}
use Rattle.layout.specs.Refusals.{invalid_weight}
use Rattle.layout.specs.Walk.{u32_at}
use Rattle.clip.specs.Keys.{finite, float_at, weight_asked}
use Rattle.clip.proofs.First.{given-none}
use Rattle.strip.specs.Numbers.{little_endian}
use Rattle.strip.specs.Plain.{plain_floats, floats}
use Rattle.strip_reader.specs.Key.{morph_refused}
use Rattle.strip_reader.specs.Answers.{morph_key}
use Rattle.strip_laws.specs.Same.{SameMorph}
use Rattle.strip_laws.proofs.Floats.{same-finite, plain-equals, both-true, not-false}
use Rattle.strip_laws.proofs.BoneFloats.{filled_floats}

-- A morph's fields with the plain value filled in.
abbrev pub filled_morph : List ℕ → List (List ℕ)
filled_morph weight = filled_floats (0 ∷ []) weight ∷ []

abbrev zero_weight : List ℕ
zero_weight = 0 ∷ []

zero-finite : finite (float_at (floats zero_weight) 0) ≡ true
unfolding floats little_endian of_bits
zero-finite = refl

module _ (w : List ℕ) (fine : weight_asked (float_at w 0) ≡ none) where
  weight-finite : finite (float_at w 0) ≡ true
  unfolding weight_asked
  weight-finite = not-false (finite (float_at w 0)) (given-none (not (finite (float_at w 0))) invalid_weight fine)

  pub morph-not_refused : morph_refused (filled_morph w) ≡ false
  unfolding morph_refused weight_asked
  morph-not_refused = rw (filled-finite (plain_floats 0 zero_weight w)) refl
    where
      filled-finite : (b : Bool) → finite (float_at (cond b (floats zero_weight) w) 0) ≡ true
      filled-finite true = zero-finite
      filled-finite false = weight-finite

  zero-equal : plain_floats 0 zero_weight w ≡ true → eq (float_at (floats zero_weight) 0) (float_at w 0) ≡ true
  unfolding plain_floats floats little_endian
  zero-equal e = plain-equals (u32_at w 0) 0 (both-true _ _ e).0

  pub morph-same : (frame : ℕ) → SameMorph (morph_key (record { frame = frame; body = filled_morph w })) (record { frame = frame; body = w })
  morph-same frame = record { frame = refl; weight = go (plain_floats 0 zero_weight w) refl }
    where
      go : (b : Bool) → plain_floats 0 zero_weight w ≡ b → eq (float_at (cond b (floats zero_weight) w) 0) (float_at w 0) ≡ true
      go true e = zero-equal e
      go false e = same-finite (float_at w 0) weight-finite
