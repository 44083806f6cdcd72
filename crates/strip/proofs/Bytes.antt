-- Bytes that are told apart: of two equal lists with fronts of one length the fronts are equal, and so is what follows; a number below 256
-- to the width is known by its bytes, the lowest first. Assumes nothing.
use Prim.Native.Nat.{ℕ, zero, suc, ◌/◌, ◌%◌, ◌^◌, ◌<◌}
use native.Mathlib.Nat.{div-add-mod, pow-suc, div-lt_iff_lt-mul}
use native.Mathlib.Omega.{arith}
use mathlib.Core.List.{List, [], ◌∷◌, ◌++◌}
use mathlib.Core.Path.{◌≡◌, refl, sym, ap, ◌∙◌, subst}
use lib.ListN.{length}
use Rattle.strip.specs.Numbers.{little_endian}

module _ {A : Type 0} where
  pub head-is : {a b : A} {vs ws : List A} → a ∷ vs ≡ b ∷ ws → a ≡ b
  head-is e = cc

  pub tail-is : {a b : A} {vs ws : List A} → a ∷ vs ≡ b ∷ ws → vs ≡ ws
  tail-is e = cc

  pub front-is : (vs ws xs ys : List A) → length vs ≡ length ws → vs ++ xs ≡ ws ++ ys → (vs ≡ ws) × (xs ≡ ys)
  front-is [] [] xs ys l e = (refl, e)
  front-is [] (b ∷ ws) xs ys l e = absurd (omega (arith, l))
  front-is (a ∷ vs) [] xs ys l e = absurd (omega (arith, l))
  front-is (a ∷ vs) (b ∷ ws) xs ys l e =
      let first : a ≡ b = head-is e in
      let rest = front-is vs ws xs ys (omega (arith, l)) (tail-is e) in
      (rw (first, rest.0), rest.1)

pub length-little_endian : (width n : ℕ) → length (little_endian width n) ≡ width
unfolding little_endian
length-little_endian zero n = refl
length-little_endian (suc width) n = ap suc (length-little_endian width (n / 256))

module _ (width : ℕ) where
  shorter : (n : ℕ) → n < 256 ^ suc width → n / 256 < 256 ^ width
  shorter n lt = (div-lt_iff_lt-mul {k = 256} {x = n} {y = 256 ^ width} (omega arith)).1 (subst (λ (k : ℕ). n < k) (pow-suc 256 width) lt)

pub number_is : (width n m : ℕ) → n < 256 ^ width → m < 256 ^ width → little_endian width n ≡ little_endian width m → n ≡ m
unfolding little_endian
number_is zero n m ln lm e = omega arith
number_is (suc width) n m ln lm e =
    let low : n % 256 ≡ m % 256 = head-is e in
    let high = number_is width (n / 256) (m / 256) (shorter width n ln) (shorter width m lm) (tail-is e) in
    omega (arith, low, high, div-add-mod n 256, div-add-mod m 256)

pub counts-are : (width n m : ℕ) (xs ys : List ℕ) → n < 256 ^ width → m < 256 ^ width → little_endian width n ++ xs ≡ little_endian width m ++ ys → (n ≡ m) × (xs ≡ ys)
counts-are width n m xs ys ln lm e =
    let parts = front-is (little_endian width n) (little_endian width m) xs ys (length-little_endian width n ∙ sym (length-little_endian width m)) e in
    (number_is width n m ln lm parts.0, parts.1)
