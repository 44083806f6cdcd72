-- A float is finite exactly where the bits of its exponent are not all 1: in the cases by which a float is made of its fields only the
-- exponent 255 gives an infinity or a NaN. Assumes nothing.
use Prim.Native.Nat.{ℕ, zero, suc, ◌+◌, ◌%◌, ◌/◌, ◌<◌, ◌≤◌}
use native.Mathlib.Omega.{arith}
use mathlib.Core.Bool.{Bool, true, false, cond}
use mathlib.Core.Path.{◌≡◌, refl, sym, ◌∙◌}
use lib.Dec.{eqb, leb}
use lib.Ieee.{Float, nan, inf, fin, binary32, odd, prec, low, hid, top, of_fields, of_bits, nan_bits}
use borrow.Author.Tests.{eqb-false}
use Rattle.std.specs.Prelude.{T, not}
use Rattle.std.proofs.lemmas.Float.{not_nan_f32_bits}
use Rattle.layout.specs.Numbers.{float}
use Rattle.clip.specs.Keys.{finite}

odd-finite : (d : ℕ) (s : Bool) (q k l : ℕ) → finite (odd d s q k l) ≡ true
unfolding odd
odd-finite d s zero k l = refl
odd-finite d s (suc q) k l = refl

fields-finite : (s : Bool) (x t : ℕ) → finite (of_fields binary32 s x t) ≡ not (eqb x 255)
unfolding of_fields
fields-finite s zero t = odd-finite (prec binary32) s t 0 (low binary32)
fields-finite s (suc x) t = go (eqb (suc x) 255) (eqb t 0)
  where
    go : (all-ones no-digits : Bool) → finite (cond all-ones (cond no-digits (inf s) nan) (odd (prec binary32) s (hid binary32 + t) x (low binary32))) ≡ not all-ones
    go true true = refl
    go true false = refl
    go false b = odd-finite (prec binary32) s (hid binary32 + t) x (low binary32)

pub bits-finite : (bits : ℕ) → finite (float bits) ≡ not (eqb (bits % 2147483648 / 8388608) 255)
unfolding of_bits
bits-finite bits = fields-finite (leb (top binary32) bits) (bits % top binary32 / hid binary32) (bits % hid binary32)

not-true : (b : Bool) → not b ≡ true → b ≡ false
not-true false e = refl
not-true true e = sym e

-- Such bits are no NaN's.
pub number-bits : (bits : ℕ) → finite (float bits) ≡ true → T (not (nan_bits binary32 bits))
number-bits bits e =
    let apart = eqb-false (bits % 2147483648 / 8388608) 255 (not-true (eqb (bits % 2147483648 / 8388608) 255) (sym (bits-finite bits) ∙ e)) in
    not_nan_f32_bits bits (omega (arith, apart))

pub ruleset bits = (bits-finite)
