-- Writing from a place on, by induction on what is written: nothing changes past the slice's end, one list behind another is both at once
-- (`put-append`), and in one equation `put` is what stands before, as much as fits, and what stands behind (`put_is`). Assumes nothing.
use Prim.Native.Nat.{ℕ, zero, suc, ◌+◌, ◌-◌, ◌<◌, ◌≤◌, min}
use mathlib.Core.List.{List, [], ◌∷◌, ◌++◌, append-nil, append_assoc}
use mathlib.Core.Path.{◌≡◌, refl, sym, ap, ◌∙◌}
use native.Mathlib.Nat.{add-zero, add-suc, suc-add}
use native.Mathlib.Omega.{arith}
use native.Mathlib.Decide.{dec_lt, dec_le}
use lib.ListN.{length, get_or, take, drop, set, length-set, length-drop, drop_of_length-le, take-append-drop}
use Rattle.std.proofs.Common.{drop-drop}
use lib.Seq.{set_out, take_all, take-nil, take-suc-set, length-take-le, drop-set-lt}
use Rattle.answer_numbers.specs.Put.{put}

pub put-none : {A : Type 0} (at : ℕ) (slice : List A) → put at [] slice ≡ slice
unfolding put
put-none at slice = refl

pub put-past : {A : Type 0} (at : ℕ) (xs slice : List A) → length slice ≤ at → put at xs slice ≡ slice
unfolding put
put-past at [] slice past = refl
put-past at (x ∷ xs) slice past =
    let same = set_out slice at x past in
    ap (put (suc at) xs) same ∙ put-past (suc at) xs slice (omega (arith, past))

pub length-put : {A : Type 0} (at : ℕ) (xs slice : List A) → length (put at xs slice) ≡ length slice
unfolding put
length-put at [] slice = refl
length-put at (x ∷ xs) slice = length-put (suc at) xs (set slice at x) ∙ length-set slice at x

-- Writing xs and then ys behind them is writing xs ++ ys.
pub put-append : {A : Type 0} (at : ℕ) (xs ys slice : List A) → put at (xs ++ ys) slice ≡ put (at + length xs) ys (put at xs slice)
unfolding put
put-append {A} at [] ys slice = ap (λ (k : ℕ). put k ys slice) (sym (add-zero at))
put-append {A} at (x ∷ xs) ys slice =
    put-append (suc at) xs ys (set slice at x)
    ∙ ap (λ (k : ℕ). put k ys (put (suc at) xs (set slice at x))) (suc-add at (length xs) ∙ sym (add-suc at (length xs)))

-- One item more: it goes to the place behind the others.
pub put-turn : {A : Type 0} (at i : ℕ) (xs slice : List A) (d : A) → i < length xs → put at (take (suc i) xs) slice ≡ set (put at (take i xs) slice) (at + i) (get_or xs i d)
unfolding put
put-turn at i [] slice d lt = absurd (omega (arith, lt))
put-turn at zero (x ∷ xs) slice d lt = ap (λ (k : ℕ). set slice k x) (sym (add-zero at))
put-turn at (suc i) (x ∷ xs) slice d lt =
    put-turn (suc at) i xs (set slice at x) d (omega (arith, lt))
    ∙ ap (λ (k : ℕ). set (put (suc at) (take i xs) (set slice at x)) k (get_or xs i d)) (suc-add at i ∙ sym (add-suc at i))

-- As many as fit are all that are written.
pub put-fit : {A : Type 0} (at fit : ℕ) (xs slice : List A) → at < length slice → fit ≡ min (length xs) (length slice - at) → put at (take fit xs) slice ≡ put at xs slice
put-fit {A} at fit xs slice within e =
    elim (dec_le (length xs) (length slice - at)) [
      | yes all ↦ ap (λ (ys : List A). put at ys slice) (take_all fit xs (omega (arith, e, all)))
      | no some ↦
          let many : length (take fit xs) ≡ fit = length-take-le fit xs (omega (arith, e)) in
          sym (put-past (at + length (take fit xs)) (drop fit xs) (put at (take fit xs) slice) (rw (length-put at (take fit xs) slice, many) (omega (arith, e, some))))
          ∙ sym (put-append at (take fit xs) (drop fit xs) slice)
          ∙ ap (λ (ys : List A). put at ys slice) (take-append-drop fit xs)
    ]

-- A group behind those that were written: `done` from `at` on, then xs at the place behind them.
pub behind : (at place : ℕ) (done xs before between now : List ℕ) → between ≡ put at done before → at + length done ≡ place → now ≡ put place xs between → now ≡ put at (done ++ xs) before
behind at place done xs before between now first here then =
    then ∙ rw (first, sym here) (sym (put-append at done xs before))

pub same : (at : ℕ) (xs ys before now : List ℕ) → now ≡ put at xs before → xs ≡ ys → now ≡ put at ys before
same at xs ys before now wrote is = wrote ∙ ap (λ (zs : List ℕ). put at zs before) is

pub also : (x y : ℕ) (xs ys : List ℕ) → x ≡ y → xs ≡ ys → x ∷ xs ≡ y ∷ ys
also x y xs ys here there = ap (λ (z : ℕ). z ∷ xs) here ∙ ap (λ (zs : List ℕ). y ∷ zs) there

-- One number more, where the slice reaches its place and where it does not.
within-room : {A : Type 0} (at : ℕ) (x : A) (xs slice : List A) → at < length slice → take (suc at) (set slice at x) ++ take (length (set slice at x) - suc at) xs ++ drop (suc at + length xs) (set slice at x) ≡ take at slice ++ take (length slice - at) (x ∷ xs) ++ drop (at + suc (length xs)) slice
within-room {A} at x xs slice within =
    let places : length slice - at ≡ suc (length slice - suc at) = omega (arith, within) in
    let behind-them : suc at + length xs ≡ at + suc (length xs) = omega arith in
    rw (length-set slice at x, take-suc-set slice at x within, drop-set-lt (suc at + length xs) slice at x (omega arith), places, behind-them)
    (ap (λ (zs : List A). zs ++ drop (at + suc (length xs)) slice) (append_assoc (take at slice) (x ∷ []) (take (length slice - suc at) xs)))

without-room : {A : Type 0} (at : ℕ) (xs slice : List A) (behind-them : ℕ) → length slice ≤ at → at ≤ behind-them → slice ≡ take at slice ++ take (length slice - at) xs ++ drop behind-them slice
without-room at xs slice behind-them past further =
    let places : length slice - at ≡ 0 = omega (arith, past) in
    rw (take_all at slice past, places, drop_of_length-le slice {i = behind-them} (omega (arith, past, further)))
    (sym (append-nil (slice ++ []) ∙ append-nil slice))

-- `put` at a glance: what stands before the place, the numbers as far as the slice reaches, what stands behind them.
pub put_is : {A : Type 0} (at : ℕ) (xs slice : List A) → put at xs slice ≡ take at slice ++ take (length slice - at) xs ++ drop (at + length xs) slice
unfolding put
put_is {A} at [] slice = rw (take-nil {A = A} (length slice - at), append-nil (take at slice), add-zero at) (sym (take-append-drop at slice))
put_is at (x ∷ xs) slice =
    elim (dec_lt at (length slice)) [
      | yes within ↦ put_is (suc at) xs (set slice at x) ∙ within-room at x xs slice within
      | no past ↦ put-past at (x ∷ xs) slice (omega (arith, past)) ∙ without-room at (x ∷ xs) slice (at + suc (length xs)) (omega (arith, past)) (omega arith)
    ]

-- Writing from a place on is writing what stands there from its first place on.
put-first : {A : Type 0} (at : ℕ) (xs slice : List A) → take at slice ++ put 0 xs (drop at slice) ≡ put at xs slice
put-first at xs slice =
    let places : length (drop at slice) - 0 ≡ length slice - at = omega (arith, length-drop at slice) in
    let many : 0 + length xs ≡ length xs = omega arith in
    rw (put_is 0 xs (drop at slice), places, many, drop-drop (length xs) at slice)
    (sym (append_assoc (take at slice) (take (length slice - at) xs) (drop (at + length xs) slice)) ∙ sym (put_is at xs slice))

-- A place past the end is as good as the end.
put-end : {A : Type 0} (at first : ℕ) (xs slice : List A) → first ≡ min at (length slice) → put first xs slice ≡ put at xs slice
put-end at first xs slice e =
    elim (dec_le at (length slice)) [
      | yes within ↦ ap (λ (k : ℕ). put k xs slice) (omega (arith, e, within))
      | no past ↦ put-past first xs slice (omega (arith, e, past)) ∙ sym (put-past at xs slice (omega (arith, past)))
    ]

-- The part of the slice from the place on, written by itself.
pub put-within : {A : Type 0} (at first : ℕ) (xs slice now : List A) → first ≡ min at (length slice) → now ≡ put 0 xs (take (length slice - first) (drop first slice)) → take first slice ++ (now ++ drop (length slice - first) (drop first slice)) ≡ put at xs slice
put-within at first xs slice now e wrote =
    let fits : length (drop first slice) ≤ length slice - first = omega (arith, length-drop first slice) in
    rw (wrote, take_all (length slice - first) (drop first slice) fits, drop_of_length-le (drop first slice) {i = length slice - first} fits, append-nil (put 0 xs (drop first slice)))
    (put-first first xs slice ∙ put-end at first xs slice e)

pub ruleset puts = (put-none, put-past, put-turn, put-fit, put-within)
