-- A block of records of fixed items is whole or not by arithmetic alone: each record that is whole moves the place by its size, so the
-- first item that is not whole is found by one division, and in the remainder item by item. Assumes nothing.
use Prim.Native.Nat.{ℕ, zero, suc, ◌+◌, ◌-◌, ◌*◌, ◌/◌, ◌%◌, ◌≤◌, ◌<◌}
use mathlib.Core.List.{List, [], ◌∷◌, ◌++◌}
use mathlib.Core.Path.{◌≡◌, sym, ap, ◌∙◌}
use native.Mathlib.Nat.{suc-mul, zero-mul, mul-zero, div-eq_of_lt, mod-eq_of_lt, div-eq-sub-div, mod-eq-sub-mod}
use native.Mathlib.Numerals.{add-one}
use native.Mathlib.Decide.{dec_le}
use native.Mathlib.Omega.{arith}
use borrow.Author.Tests.{le-leb, lt-leb}
use lib.ListN.{length, replicate}
use Rattle.layout.specs.Refusals.{too_short}
use Rattle.layout.specs.Walk.{fine, refused_at, items, times}
use Rattle.layout.specs.Records.{size}
use Rattle.layout.specs.Blocks.{place, run_place}
use Rattle.layout.proofs.Steps.{whole, short}

pub pos-of-mul : (n width : ℕ) → 0 < n * width → 0 < width
pos-of-mul n zero some = absurd (omega (arith, mul-zero n))
pos-of-mul n (suc width) some = omega arith

pub items-whole : (widths s : List ℕ) (at : ℕ) → at + size widths ≤ length s → items widths s at ≡ fine tt (at + size widths)
unfolding items size
items-whole [] s at fits = ap (fine tt) (omega arith)
items-whole (width ∷ widths) s at fits =
    let rest = items-whole widths s (at + width) (omega arith) in
    let ends : at + width + size widths ≡ at + (width + size widths) = omega arith in
    rw (whole width _ s at (omega arith)) (rest ∙ ap (fine tt) ends)

pub items-short : (widths s : List ℕ) (at : ℕ) → at ≤ length s → length s < at + size widths → items widths s at ≡ refused_at too_short (at + place widths (length s - at))
unfolding items size place
items-short [] s at starts lacks = absurd (omega arith)
items-short (width ∷ widths) s at starts lacks =
    elim (dec_le width (length s - at)) [
      | yes fits ↦
          let left : length s - (at + width) ≡ length s - at - width = omega arith in
          let here : at + width + place widths (length s - at - width) ≡ at + (width + place widths (length s - at - width)) = omega arith in
          rw (whole width _ s at (omega arith), le-leb _ _ fits)
          (items-short widths s (at + width) (omega arith) (omega arith) ∙ ap (λ (room : ℕ). refused_at too_short (at + width + place widths room)) left ∙ ap (refused_at too_short) here)
      | no lack ↦
          let here : at + 0 ≡ at = omega arith in
          rw (short width _ s at (omega arith), lt-leb width (length s - at) (omega arith)) (ap (refused_at too_short) (sym here))
    ]

pub place-le : (widths : List ℕ) (room : ℕ) → place widths room ≤ room
unfolding place
place-le [] room = omega arith
place-le (width ∷ widths) room =
    elim (dec_le width room) [
      | yes fits ↦ rw (le-leb _ _ fits) (omega (arith, place-le widths (room - width)))
      | no lack ↦ rw (lt-leb width room (omega arith)) (omega arith)
    ]

pub times-whole : (n : ℕ) (widths s : List ℕ) (at : ℕ) → at + n * size widths ≤ length s → times n (items widths) s at ≡ fine tt (at + n * size widths)
unfolding times
times-whole zero widths s at fits =
    let none = zero-mul (size widths) in
    ap (fine tt) (omega arith)
times-whole (suc n) widths s at fits =
    let more = suc-mul n (size widths) in
    let ends : at + size widths + n * size widths ≡ at + suc n * size widths = omega arith in
    rw (items-whole widths s at (omega arith)) (times-whole n widths s (at + size widths) (omega arith) ∙ ap (fine tt) ends)

-- Where in a block of records the first item stands that is not whole.
abbrev pub block_place : List ℕ → ℕ → ℕ
block_place widths room = room / size widths * size widths + place widths (room % size widths)

-- A first record that is whole moves the place by its size.
block-next : (widths : List ℕ) (room : ℕ) → 0 < size widths → size widths ≤ room → size widths + block_place widths (room - size widths) ≡ block_place widths room
block-next widths room some fits =
    let k = size widths in
    let more = suc-mul ((room - k) / k) k in
    rw (div-eq-sub-div some fits, mod-eq-sub-mod fits, add-one) (omega arith)

block-first : (widths : List ℕ) (room : ℕ) → room < size widths → place widths room ≡ block_place widths room
block-first widths room lacks =
    let none = zero-mul (size widths) in
    rw (div-eq_of_lt lacks, mod-eq_of_lt lacks) (omega arith)

pub times-short : (n : ℕ) (widths s : List ℕ) (at : ℕ) → 0 < size widths → at ≤ length s → length s < at + n * size widths → times n (items widths) s at ≡ refused_at too_short (at + block_place widths (length s - at))
unfolding times
times-short zero widths s at some starts lacks =
    let none = zero-mul (size widths) in
    absurd (omega arith)
times-short (suc n) widths s at some starts lacks =
    let more = suc-mul n (size widths) in
    elim (dec_le (size widths) (length s - at)) [
      | yes fits ↦
          let left : length s - (at + size widths) ≡ length s - at - size widths = omega arith in
          let next = block-next widths (length s - at) some fits in
          let here : at + size widths + block_place widths (length s - at - size widths) ≡ at + block_place widths (length s - at) = omega arith in
          rw (items-whole widths s at (omega arith))
          (times-short n widths s (at + size widths) some (omega arith) (omega arith) ∙ ap (λ (room : ℕ). refused_at too_short (at + size widths + block_place widths room)) left ∙ ap (refused_at too_short) here)
      | no lack ↦
          rw (items-short widths s at starts (omega arith)) (ap (λ (p : ℕ). refused_at too_short (at + p)) (block-first widths (length s - at) (omega arith)))
    ]

-- A run of equal items in front.
module _ (n width room rest : ℕ) where
  pub run-whole : n * width ≤ room → run_place n width room rest ≡ n * width + rest
  unfolding run_place
  run-whole fits = rw (le-leb _ _ fits)

  pub run_short : room < n * width → run_place n width room rest ≡ room / width * width
  unfolding run_place
  run_short lacks = rw (lt-leb _ _ lacks)

-- One more item in front of the run.
run-next : (n width room : ℕ) (f : ℕ → ℕ) → width ≤ room → width + run_place n width (room - width) (f (room - width - n * width)) ≡ run_place (suc n) width room (f (room - suc n * width))
run-next n width room f fits =
    let more = suc-mul n width in
    elim (dec_le (n * width) (room - width)) [
      | yes all ↦
          let left : room - suc n * width ≡ room - width - n * width = omega arith in
          rw (left, run-whole n width (room - width) _ all, run-whole (suc n) width room _ (omega arith)) (omega arith)
      | no lack ↦
          let some : 0 < width = pos-of-mul n width (omega arith) in
          let one_more = suc-mul ((room - width) / width) width in
          rw (run_short n width (room - width) _ (omega arith), run_short (suc n) width room _ (omega arith), div-eq-sub-div some fits, add-one) (omega arith)
    ]

pub place-run : (n width : ℕ) (widths : List ℕ) (room : ℕ) → place (replicate n width ++ widths) room ≡ run_place n width room (place widths (room - n * width))
unfolding place
place-run zero width widths room =
    let none = zero-mul width in
    let all : room - zero * width ≡ room = omega arith in
    rw (all, run-whole zero width room _ (omega arith)) (omega arith)
place-run (suc n) width widths room =
    elim (dec_le width room) [
      | yes fits ↦ rw (le-leb _ _ fits, place-run n width widths (room - width)) (run-next n width room (place widths) fits)
      | no lack ↦
          let more = suc-mul n width in
          rw (lt-leb width room (omega arith), run_short (suc n) width room _ (omega arith), div-eq_of_lt {n = room} {m = width} (omega arith)) (sym (zero-mul width))
    ]
