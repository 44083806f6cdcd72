-- `skip_records` return by return: n records are whole if n is no more than the room divided by a record's size; else the first item that
-- is not whole stands behind those that fit, at its place in the remainder (layout, Blocks). Assumes nothing.
use Prim.Native.Nat.{ℕ, zero, suc, ◌+◌, ◌-◌, ◌*◌, ◌/◌, ◌%◌, ◌≤◌, ◌<◌}
use mathlib.Core.List.{List, ◌∷◌}
use mathlib.Core.Path.{◌≡◌, refl, sym, ap, ◌∙◌}
use native.Mathlib.Nat.{le-div_iff_mul-le, div-lt_iff_lt-mul, div-add-mod', mul-zero}
use native.Mathlib.Omega.{arith}
use lib.ListN.{length}
use Rattle.layout.specs.Refusals.{too_short}
use Rattle.layout.specs.Walk.{Reader, fine, refused_at, times, items}
use Rattle.layout.specs.Records.{size}
use Rattle.layout.proofs.Steps.{short}
use Rattle.layout.specs.Blocks.{place}
use Rattle.layout.proofs.Blocks.{place-le, times-whole, times-short}

pub skip-none : {A : Type 0} (n : ℕ) (m : Reader A) (s : List ℕ) (at : ℕ) → n ≡ 0 → fine tt at ≡ times n m s at
unfolding times
skip-none n m s at e = rw e

pub skip-past : (n width : ℕ) (widths s : List ℕ) (at : ℕ) → (n ≡ 0 → ⊥) → length s < at → refused_at too_short at ≡ times n (items (width ∷ widths)) s at
unfolding times items
skip-past zero width widths s at some past = absurd (some refl)
skip-past (suc n) width widths s at some past = rw (short width _ s at (omega arith))

module _ (n k : ℕ) (widths s : List ℕ) (at : ℕ) (starts : at ≤ length s) (is : k ≡ size widths) where
  pub skip-empty : k ≡ 0 → fine tt at ≡ times n (items widths) s at
  skip-empty none =
      let nothing : n * size widths ≡ 0 = rw (← is, none) (mul-zero n) in
      let ends : at ≡ at + n * size widths = omega arith in
      ap (fine tt) ends ∙ sym (times-whole n widths s at (omega arith))

  pub fits_in : n ≤ (length s - at) / k → (k ≡ 0 → ⊥) → n * k ≤ length s - at
  fits_in few some = (le-div_iff_mul-le {k = k} {x = n} {y = length s - at} (omega arith)).0 few

  pub skip-whole : n ≤ (length s - at) / k → (k ≡ 0 → ⊥) → fine tt (at + n * k) ≡ times n (items widths) s at
  skip-whole few some =
      let fits = fits_in few some in
      let inside : at + n * k ≤ length s = omega arith in
      rw is (sym (times-whole n widths s at (rw is at inside)))

  pub skip-short : (p : ℕ) → (length s - at) / k < n → (k ≡ 0 → ⊥) → p ≡ place widths ((length s - at) % k) → refused_at too_short (at + ((length s - at) / k * k + p)) ≡ times n (items widths) s at
  skip-short p many some found =
      let lacks = (div-lt_iff_lt-mul {k = k} {x = length s - at} {y = n} (omega arith)).0 many in
      let outside : length s < at + n * k = omega arith in
      rw (found, is) (sym (times-short n widths s at (omega arith) starts (rw is at outside)))

  -- The place is no further than the section's end.
  pub place_in : (p : ℕ) → p ≡ place widths ((length s - at) % k) → at + ((length s - at) / k * k + p) ≤ length s
  place_in p found = omega (arith, div-add-mod' (length s - at) k, place-le widths ((length s - at) % k))

pub ruleset skip_records = (skip-none, skip-past, skip-empty, skip-whole, skip-short, place_in)
