-- What the readers of the front answer: so many bytes stand whole in what is left, or 23 is met; and a number is its bytes, the lowest
-- first, both ways. Assumes nothing.
use Rattle.std.proofs.Common.{◌≡◌, ℕ, zero, suc, ◌+◌, ◌*◌, ◌/◌, ◌%◌, ◌^◌, ◌<◌, ◌≤◌, List, [], ◌∷◌, length, take, drop, refl, subst, arith, pow-suc, div-lt_iff_lt-mul, le-leb, length-drop, drop-drop}
use native.Mathlib.Nat.{div-add-mod}
use borrow.Author.Tests.{lt-leb}
use Rattle.std.specs.List.{AllByRecursion}
use Rattle.layout.specs.{Refusals.{strip_not_whole}, Walk.{refusal, answered, declined}}
use Rattle.strip.specs.Numbers.{little_endian, number_of}
use Rattle.strip_reader.specs.Front.{bytes, number}

-- Each number is a byte's.
abbrev pub AreBytes : List ℕ → Type 0
AreBytes = AllByRecursion (λ byte. byte < 256)

pub bytes-whole : (n at : ℕ) (s : List ℕ) → at + n ≤ length s → bytes n (drop at s) ≡ answered (take n (drop at s), drop (at + n) s)
unfolding bytes
bytes-whole n at s fits = rw (le-leb n (length (drop at s)) (omega (arith, length-drop at s)), drop-drop n at s)

pub bytes-short : (n at : ℕ) (s : List ℕ) → length s < at + n → 0 < n → bytes n (drop at s) ≡ declined (refusal strip_not_whole [])
unfolding bytes
bytes-short n at s short some = rw (lt-leb n (length (drop at s)) (omega (arith, length-drop at s)))

pub number-whole : (width at : ℕ) (s : List ℕ) → at + width ≤ length s → number width (drop at s) ≡ answered (number_of (take width (drop at s)), drop (at + width) s)
unfolding number
number-whole width at s fits = rw (bytes-whole width at s fits)

pub number-short : (width at : ℕ) (s : List ℕ) → length s < at + width → 0 < width → number width (drop at s) ≡ declined (refusal strip_not_whole [])
unfolding number
number-short width at s short some = rw (bytes-short width at s short some)

pub number-of-little_endian : (width n : ℕ) → n < 256 ^ width → number_of (little_endian width n) ≡ n
unfolding number_of little_endian
number-of-little_endian zero n small = omega arith
number-of-little_endian (suc width) n small =
    let high : n / 256 < 256 ^ width = (div-lt_iff_lt-mul {k = 256} {x = n} {y = 256 ^ width} (omega arith)).1 (subst (λ (k : ℕ). n < k) (pow-suc 256 width) small) in
    let rest : number_of (little_endian width (n / 256)) ≡ n / 256 = number-of-little_endian width (n / 256) high in
    omega (arith, rest, div-add-mod n 256)

pub little_endian-number_of : (digits : List ℕ) → AreBytes digits → little_endian (length digits) (number_of digits) ≡ digits
unfolding number_of little_endian
little_endian-number_of [] small = refl
little_endian-number_of (byte ∷ digits) small =
    let low : (byte + 256 * number_of digits) % 256 ≡ byte = omega (arith, small.0) in
    let high : (byte + 256 * number_of digits) / 256 ≡ number_of digits = omega (arith, small.0) in
    rw (low, high, little_endian-number_of digits small.1)

pub number_of-below : (digits : List ℕ) → AreBytes digits → number_of digits < 256 ^ length digits
unfolding number_of
number_of-below [] small = omega arith
number_of-below (byte ∷ digits) small =
    let rest = number_of-below digits small.1 in
    omega (arith, rest, small.0, pow-suc 256 (length digits))
