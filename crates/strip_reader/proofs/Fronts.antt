-- Bytes at a position of a strip: whole, or not. Assumes nothing.
use Rattle.std.proofs.Common.{◌≡◌, ℕ, ◌+◌, ◌-◌, ◌*◌, ◌≤◌, ◌<◌, Bool, true, false, List, [], length, leb, drop, get_or, refl, sym, ap, ◌∙◌, arith}
use Rattle.std.proofs.lemmas.Bool.{leb-true, leb-false}
use Rattle.layout.specs.{Refusals.{strip_not_whole}, Walk.{refusal, answered, declined, bytes_at, u32_at}}
use Rattle.layout.proofs.Slices.{bytes_part}
use Rattle.strip.specs.{Numbers.{number_of}, Strip.{count_width}}
use Rattle.strip_reader.specs.Front.{bytes, number}
use Rattle.strip_reader.specs.Reads.{head, field_of}
use Rattle.strip_reader.proofs.FrontLaws.{bytes-whole, bytes-short, number-short}

module _ (s : List ℕ) (at n : ℕ) where
  bytes-there : at + n ≤ length s → bytes n (drop at s) ≡ answered (bytes_at s at n, drop (at + n) s)
  bytes-there fits = bytes-whole n at s fits ∙ ap (λ field. answered (field, drop (at + n) s)) (sym (bytes_part s at n fits))

  pub field-plain : (stands : Bool) (plain : List ℕ) → stands ≡ false → answered (plain, drop at s) ≡ field_of n stands plain (drop at s)
  field-plain stands plain is = rw is refl

  pub field-short : (stands : Bool) (plain : List ℕ) → stands ≡ true → length s - at < n → declined (refusal strip_not_whole []) ≡ field_of n stands plain (drop at s)
  field-short stands plain is short = rw is (sym (bytes-short n at s (omega arith) (omega arith)))

  pub field-there : (stands : Bool) (plain field : List ℕ) → stands ≡ true → field ≡ bytes_at s at n → 0 < n → n ≤ length s - at → answered (field, drop (at + n) s) ≡ field_of n stands plain (drop at s)
  field-there stands plain field is same some fits = rw (is, same) (sym (bytes-there (omega arith)))

module _ (s : List ℕ) (at : ℕ) where
  pub two-there : (n : ℕ) → n ≡ get_or s at 0 + 256 * get_or s (at + 1) 0 → 2 ≤ length s - at → answered (n, drop (at + 2) s) ≡ number count_width (drop at s)
  unfolding number bytes_at number_of
  two-there n is fits =
      let none : at + 0 ≡ at = omega arith in
      let same : get_or s at 0 + 256 * (get_or s (at + 1) 0 + 0) ≡ n = omega (arith, is) in
      rw (bytes-there s at 2 (omega arith), none, same) refl

  pub two-short : length s - at < 2 → declined (refusal strip_not_whole []) ≡ number count_width (drop at s)
  two-short short = sym (number-short 2 at s (omega arith) (omega arith))

  pub four : at + 4 ≤ length s → number 4 (drop at s) ≡ answered (u32_at s at, drop (at + 4) s)
  unfolding number bytes_at number_of
  four fits =
      let none : at + 0 ≡ at = omega arith in
      let is : get_or s at 0 + 256 * (get_or s (at + 1) 0 + 256 * (get_or s (at + 2) 0 + 256 * (get_or s (at + 3) 0 + 0))) ≡ u32_at s at = omega arith in
      rw (bytes-there s at 4 fits, none) (ap (λ n. answered (n, drop (at + 4) s)) is)

  pub one : at + 1 ≤ length s → number 1 (drop at s) ≡ answered (get_or s at 0, drop (at + 1) s)
  unfolding number bytes_at number_of
  one fits =
      let none : at + 0 ≡ at = omega arith in
      let is : get_or s at 0 + 0 ≡ get_or s at 0 = omega arith in
      rw (bytes-there s at 1 fits, none) (ap (λ n. answered (n, drop (at + 1) s)) is)

module _ (s : List ℕ) (at : ℕ) where
  pub head-there : (frame map : ℕ) → frame ≡ u32_at s at → map ≡ get_or s (at + 4) 0 → 5 ≤ length s - at → answered ((frame, map), drop (at + 5) s) ≡ head (drop at s)
  unfolding head
  head-there frame map f m fits =
      let behind : at + 4 + 1 ≡ at + 5 = omega arith in
      rw (four s at (omega arith), one s (at + 4) (omega arith), f, m, behind) refl

  pub head-short : length s - at < 5 → declined (refusal strip_not_whole []) ≡ head (drop at s)
  unfolding head
  head-short short = go (leb (at + 4) (length s)) refl
    where
      go : (whole : Bool) → leb (at + 4) (length s) ≡ whole → declined (refusal strip_not_whole []) ≡ head (drop at s)
      go true is = let fits = leb-true (at + 4) (length s) is in rw (four s at fits, number-short 1 (at + 4) s (omega (arith, fits)) (omega arith)) refl
      go false is = let past = leb-false (at + 4) (length s) is in rw (number-short 4 at s (omega (arith, past)) (omega arith)) refl

pub ruleset counts = (two-there, two-short)

pub ruleset heads = (head-there, head-short)

pub ruleset fields = (field-plain, field-short, field-there)
