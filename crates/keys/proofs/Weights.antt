-- A morph key by its weight: this is the float of the record's bytes and finite, so its bits are these bytes again (`to_bits-of_bits`), and
-- whether it is plain is told by its value. Assumes nothing.
use Prim.Native.Nat.{ℕ, ◌+◌, ◌*◌, ◌<◌, ◌%◌, ◌/◌}
use native.Mathlib.Omega.{arith}
use mathlib.Core.Bool.{Bool, true, false, and-true}
use mathlib.Core.List.{List, [], ◌∷◌}
use mathlib.Core.Path.{◌≡◌, sym, ap, ◌∙◌}
use lib.Ieee.{Float, nan, inf, fin, eq, binary32, fits, is_nan, to_bits}
use lib.Ieee.Bits.{of_bits-to_bits, to_bits-lt, to_bits-of_bits}
use lib.ListN.{get_or}
use Rattle.std.specs.Prelude.{T, not}
use Rattle.layout.specs.Numbers.{float}
use Rattle.layout.specs.Walk.{u32_at, bytes_at}
use Rattle.clip.specs.Keys.{finite, float_at}
use Rattle.clip.specs.Section.{morph_body}
use Rattle.strip.specs.Plain.{plain_float, plain_floats, morph_groups, morph_fields}
use Rattle.strip.specs.Numbers.{little_endian}
use Rattle.strip.specs.Keys.{key_bytes}
use Rattle.keys.specs.Plain.{plain_in}
use Rattle.keys.specs.Placed.{weight_key_bytes, morph_key_bytes}

-- A number of its four bytes, and four bytes of their number.
word_of : (n : ℕ) → n < 4294967296 → u32_at (little_endian 4 n) 0 ≡ n
unfolding little_endian
word_of n small = omega arith

bytes-of : (a b c d : ℕ) → a < 256 → b < 256 → c < 256 → d < 256 → little_endian 4 (a + 256 * b + 65536 * c + 16777216 * d) ≡ a ∷ b ∷ c ∷ d ∷ []
unfolding little_endian
bytes-of a b c d la lb lc ld =
    let n = a + 256 * b + 65536 * c + 16777216 * d in
    let e : n % 256 ≡ a = omega arith in
    let f : n / 256 % 256 ≡ b = omega arith in
    let g : n / 256 / 256 % 256 ≡ c = omega arith in
    let h : n / 256 / 256 / 256 % 256 ≡ d = omega arith in
    rw (e, f, g, h)

-- The weight is plain by its value.
pub weight-plain : (weight : Float) → T (fits binary32 weight) → eq weight (float 0) ≡ plain_in morph_groups (morph_fields (little_endian 4 (to_bits binary32 weight))) 0
unfolding plain_floats plain_float
weight-plain weight held =
    rw (word_of (to_bits binary32 weight) (to_bits-lt binary32 weight held), of_bits-to_bits binary32 weight held) (sym (and-true (eq weight (float 0))))

pub finite-number : (x : Float) → finite x ≡ true → T (not (is_nan x))
unfolding is_nan
finite-number nan e = absurd (let z : ◌≡◌ {A = Bool} false true = e in cc)
finite-number (inf s) e = tt
finite-number (fin s m e) f = tt

module _ (s : List ℕ) (at : ℕ) (bytes : (k : ℕ) → get_or s k 0 < 256) where
  -- The key of a record whose weight is finite.
  pub record-key : (frame : ℕ) (weight : Float) → finite weight ≡ true → weight ≡ float_at (morph_body s at) 0 → weight_key_bytes frame weight ≡ morph_key_bytes s at frame
  unfolding morph_body bytes_at
  record-key frame weight number is =
      let bits = u32_at (morph_body s at) 0 in
      let a = bytes (at + 0) in
      let b = bytes (at + 1) in
      let c = bytes (at + 2) in
      let d = bytes (at + 3) in
      let back : to_bits binary32 (float bits) ≡ bits = to_bits-of_bits binary32 bits (omega arith) (finite-number (float bits) (rw is at number)) in
      let body : little_endian 4 (to_bits binary32 weight) ≡ morph_body s at =
      ap (λ (w : Float). little_endian 4 (to_bits binary32 w)) is ∙ ap (little_endian 4) back ∙ bytes-of _ _ _ _ a b c d
      in
      ap (λ (w : List ℕ). key_bytes morph_groups morph_fields (record { frame = frame; body = w })) body
