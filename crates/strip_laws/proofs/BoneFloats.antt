-- A bone's floats, with the plain value in place of each plain group: what 12 and 13 ask of them holds if it held before, since 0, 0, 0 is
-- finite and 0, 0, 0, 1 is long enough; and the floats are equal (Floats). Assumes nothing.
use Prim.Native.Nat.{ℕ}
use mathlib.Core.Bool.{Bool, true, false, ◌&&◌, cond}
use mathlib.Core.List.{List, [], ◌∷◌}
use mathlib.Core.Path.{◌≡◌, refl}
use lib.Ieee.{add, mul, eq, le, of_bits}
use Rattle.layout.specs.Walk.{u32_at}
use Rattle.clip.specs.Keys.{finite, float_at, squared_length, limit}
use Rattle.strip.specs.Numbers.{little_endian}
use Rattle.strip.specs.Plain.{one, plain_floats, floats}
use Rattle.strip_laws.proofs.Floats.{same-finite, plain-equals, both-true, all_three}

abbrev pub zeros : List ℕ
zeros = 0 ∷ 0 ∷ 0 ∷ []

abbrev pub unturned : List ℕ
unturned = 0 ∷ 0 ∷ 0 ∷ one ∷ []

-- The bytes of floats, and those of their plain values where all are plain.
abbrev pub filled_floats : List ℕ → List ℕ → List ℕ
filled_floats plains bytes = cond (plain_floats 0 plains bytes) (floats plains) bytes

-- What 12 and 13 ask, by the bytes.
abbrev pub three_finite : List ℕ → Bool
three_finite t = finite (float_at t 0) && finite (float_at t 4) && finite (float_at t 8)

abbrev pub four_finite : List ℕ → Bool
four_finite o = finite (float_at o 0) && finite (float_at o 4) && finite (float_at o 8) && finite (float_at o 12)

abbrev pub short : List ℕ → Bool
short o = le (squared_length (float_at o 0) (float_at o 4) (float_at o 8) (float_at o 12)) limit

zeros-finite : three_finite (floats zeros) ≡ true
unfolding floats little_endian of_bits
zeros-finite = refl

unturned-finite : four_finite (floats unturned) ≡ true
unfolding floats little_endian of_bits
unturned-finite = refl

unturned-long : short (floats unturned) ≡ false
unfolding floats little_endian squared_length le add mul of_bits
unturned-long = refl

-- Equal floats, by the bytes.
abbrev SameThree : List ℕ → List ℕ → Type 0
SameThree t u = (eq (float_at t 0) (float_at u 0) ≡ true) × (eq (float_at t 4) (float_at u 4) ≡ true) × (eq (float_at t 8) (float_at u 8) ≡ true)

abbrev SameFour : List ℕ → List ℕ → Type 0
SameFour o p =
    (eq (float_at o 0) (float_at p 0) ≡ true)
    × (eq (float_at o 4) (float_at p 4) ≡ true)
    × (eq (float_at o 8) (float_at p 8) ≡ true)
    × (eq (float_at o 12) (float_at p 12) ≡ true)

module _ (t : List ℕ) (f : three_finite t ≡ true) where
  pub filled-finite : three_finite (filled_floats zeros t) ≡ true
  filled-finite = go (plain_floats 0 zeros t)
    where
      go : (b : Bool) → three_finite (cond b (floats zeros) t) ≡ true
      go true = zeros-finite
      go false = f

  zeros-equal : plain_floats 0 zeros t ≡ true → SameThree (floats zeros) t
  unfolding plain_floats floats little_endian
  zeros-equal e =
      let x = both-true _ _ e in
      let y = both-true _ _ x.1 in
      let z = both-true _ _ y.1 in
      (plain-equals (u32_at t 0) 0 x.0, plain-equals (u32_at t 4) 0 y.0, plain-equals (u32_at t 8) 0 z.0)

  pub filled-three : SameThree (filled_floats zeros t) t
  filled-three = go (plain_floats 0 zeros t) refl
    where
      go : (b : Bool) → plain_floats 0 zeros t ≡ b → SameThree (cond b (floats zeros) t) t
      go true e = zeros-equal e
      go false e =
          let each = all_three (finite (float_at t 0)) (finite (float_at t 4)) (finite (float_at t 8)) f in
          (same-finite (float_at t 0) each.0, same-finite (float_at t 4) each.1, same-finite (float_at t 8) each.2)

module _ (o : List ℕ) (f : four_finite o ≡ true) (long : short o ≡ false) where
  pub filled_finite : four_finite (filled_floats unturned o) ≡ true
  filled_finite = go (plain_floats 0 unturned o)
    where
      go : (b : Bool) → four_finite (cond b (floats unturned) o) ≡ true
      go true = unturned-finite
      go false = f

  pub filled-long : short (filled_floats unturned o) ≡ false
  filled-long = go (plain_floats 0 unturned o)
    where
      go : (b : Bool) → short (cond b (floats unturned) o) ≡ false
      go true = unturned-long
      go false = long

  unturned-equal : plain_floats 0 unturned o ≡ true → SameFour (floats unturned) o
  unfolding plain_floats floats little_endian
  unturned-equal e =
      let x = both-true _ _ e in
      let y = both-true _ _ x.1 in
      let z = both-true _ _ y.1 in
      let w = both-true _ _ z.1 in
      (plain-equals (u32_at o 0) 0 x.0, plain-equals (u32_at o 4) 0 y.0, plain-equals (u32_at o 8) 0 z.0, plain-equals (u32_at o 12) one w.0)

  pub filled-four : SameFour (filled_floats unturned o) o
  filled-four = go (plain_floats 0 unturned o) refl
    where
      go : (b : Bool) → plain_floats 0 unturned o ≡ b → SameFour (cond b (floats unturned) o) o
      go true e = unturned-equal e
      go false e =
          let last = both-true (finite (float_at o 0) && finite (float_at o 4) && finite (float_at o 8)) (finite (float_at o 12)) f in
          let each = all_three (finite (float_at o 0)) (finite (float_at o 4)) (finite (float_at o 8)) last.0 in
          (same-finite (float_at o 0) each.0, same-finite (float_at o 4) each.1, same-finite (float_at o 8) each.2, same-finite (float_at o 12) last.1)
