-- Placing bytes in an output keeps its length, and two parts side by side, placed in either order, are both placed at once (`placed-then`,
-- `placed-before`): so what is written part by part is written whole. Assumes nothing.
use Prim.Native.Nat.{ℕ, ◌+◌, ◌≤◌}
use native.Mathlib.Nat.{add_assoc, add-zero, zero-add}
use native.Mathlib.Omega.{arith}
use mathlib.Core.Bool.{Bool, true, cond}
use mathlib.Core.List.{List, [], ◌++◌, append_assoc, append-nil}
use mathlib.Core.Path.{◌≡◌, sym, ap, ◌∙◌}
use lib.ListN.{length, take, drop, length-append, length-drop, take-append-drop}
use lib.Seq.{length-take-le, take_at, drop_at, take-append-le, take-take, drop-append-add, drop-drop}
use Rattle.strip.specs.Call.{over}
use Rattle.strip.specs.Numbers.{little_endian}
use Rattle.strip.proofs.Bytes.{length-little_endian}
use Rattle.keys.specs.Placed.{placed, Room, Wrote}

pub length-placed : (place : ℕ) (bytes old : List ℕ) → place + length bytes ≤ length old → length (placed place bytes old) ≡ length old
unfolding placed
length-placed place bytes old fits =
    let a = length-append (take place old ++ bytes) (drop (place + length bytes) old) in
    let b = length-append (take place old) bytes in
    let c = length-take-le place old (omega arith) in
    let d = length-drop (place + length bytes) old in
    omega (arith, a, b, c, d)

pub placed-none : (place : ℕ) (old : List ℕ) → placed place [] old ≡ old
unfolding placed
placed-none place old = rw (append-nil (take place old), add-zero place) (take-append-drop place old)

-- Placed from the beginning of an output on, as the strip call has it.
pub placed_first : (bytes old : List ℕ) → placed 0 bytes old ≡ over bytes old
unfolding placed
placed_first bytes old = rw (zero-add (length bytes))

-- Placing xs and then ys behind them is placing xs ++ ys.
pub placed-then : (place : ℕ) (xs ys old : List ℕ) → place ≤ length old → placed (place + length xs) ys (placed place xs old) ≡ placed place (xs ++ ys) old
unfolding placed
placed-then place xs ys old fits =
    let front = take place old ++ xs in
    let rest = drop (place + length xs) old in
    let long : length front ≡ place + length xs = length-append (take place old) xs ∙ ap (λ (n : ℕ). n + length xs) (length-take-le place old fits) in
    let first : take (place + length xs) (front ++ rest) ≡ front = take_at front rest (place + length xs) long in
    let last : drop (place + length xs + length ys) (front ++ rest) ≡ drop (place + length (xs ++ ys)) old =
    ap (λ (n : ℕ). drop (n + length ys) (front ++ rest)) (sym long)
    ∙ drop-append-add front rest (length ys)
    ∙ drop-drop (length ys) (place + length xs) old
    ∙ ap (λ (n : ℕ). drop n old) (add_assoc place (length xs) (length ys) ∙ ap (λ (n : ℕ). place + n) (sym (length-append xs ys)))
    in
    rw (first, last, append_assoc (take place old) xs ys)

-- Placing ys and then xs before them is placing xs ++ ys.
pub placed-before : (place : ℕ) (xs ys old : List ℕ) → place + length xs ≤ length old → placed place xs (placed (place + length xs) ys old) ≡ placed place (xs ++ ys) old
unfolding placed
placed-before place xs ys old fits =
    let at = place + length xs in
    let front = take at old in
    let rest = drop (at + length ys) old in
    let joined : front ++ ys ++ rest ≡ front ++ (ys ++ rest) = append_assoc front ys rest in
    let first : take place (front ++ (ys ++ rest)) ≡ take place old =
    take-append-le place front (ys ++ rest) (let long = length-take-le at old fits in omega (arith, long)) ∙ take-take place at old (omega arith)
    in
    let last : drop at (front ++ (ys ++ rest)) ≡ ys ++ rest = drop_at front (ys ++ rest) at (length-take-le at old fits) in
    let behind : rest ≡ drop (place + length (xs ++ ys)) old =
    ap (λ (n : ℕ). drop n old) (add_assoc place (length xs) (length ys) ∙ ap (λ (n : ℕ). place + n) (sym (length-append xs ys)))
    in
    rw (joined, first, last)
    (sym (append_assoc (take place old ++ xs) ys rest)
    ∙ ap (λ (zs : List ℕ). zs ++ rest) (append_assoc (take place old) xs ys)
    ∙ ap (λ (zs : List ℕ). take place old ++ (xs ++ ys) ++ zs) behind)

module _ (place : ℕ) (xs ys old : List ℕ) (room : Room place (xs ++ ys) old) where
  pub room-front : Room place xs old
  room-front = let sum = length-append xs ys in omega (arith, sum)

  module _ (mid : ℕ) (first : List ℕ) (front : Wrote place xs old mid first) where
    pub room_back : Room mid ys first
    room_back =
        let sum = length-append xs ys in
        let same = ap length front.leaves ∙ length-placed place xs old room-front in
        let ends = front.ends in
        omega (arith, sum, same, ends)

    -- What is written behind what was written.
    pub wrote_then : (end : ℕ) (new : List ℕ) → Wrote mid ys first end new → Wrote place (xs ++ ys) old end new
    wrote_then end new back =
        let sum = length-append xs ys in
        let e1 = front.ends in
        let e2 = back.ends in
        record {
          ends = omega (arith, sum, e1, e2);
          leaves = back.leaves ∙ rw (front.ends, front.leaves) (placed-then place xs ys old (omega arith));
        }

  -- What is written before what was written.
  pub room-behind : Room (place + length xs) ys old
  room-behind = let sum = length-append xs ys in omega (arith, sum)

  pub wrote-before : (end : ℕ) (mid new : List ℕ) → Wrote (place + length xs) ys old end mid → new ≡ placed place xs mid → Wrote place (xs ++ ys) old end new
  wrote-before end mid new back e =
      let sum = length-append xs ys in
      let ends = back.ends in
      record {
        ends = omega (arith, sum, ends);
        leaves = e ∙ rw back.leaves (placed-before place xs ys old (omega arith));
      }

-- Three parts.
module _ (place : ℕ) (xs ys zs old : List ℕ) (room : Room place (xs ++ ys ++ zs) old) where
  abbrev both : Room place (xs ++ ys) old
  both = room-front place (xs ++ ys) zs old room

  pub room-first : Room place xs old
  room-first = room-front place xs ys old both

  module _ (mid : ℕ) (first : List ℕ) (front : Wrote place xs old mid first) where
    pub room-second : Room mid ys first
    room-second = room_back place xs ys old both mid first front

    module _ (next : ℕ) (second : List ℕ) (middle : Wrote mid ys first next second) where
      pub room-third : Room next zs second
      room-third = room_back place (xs ++ ys) zs old room next second (wrote_then place xs ys old both mid first front next second middle)

      pub wrote-three : (end : ℕ) (new : List ℕ) → Wrote next zs second end new → Wrote place (xs ++ ys ++ zs) old end new
      wrote-three = wrote_then place (xs ++ ys) zs old room next second (wrote_then place xs ys old both mid first front next second middle)

pub wrote_none : (place : ℕ) (old : List ℕ) → Wrote place [] old place old
wrote_none place old = record { ends = omega arith; leaves = sym (placed-none place old) }

-- A field whose group is plain.
pub left_out : (plain : Bool) (place : ℕ) (field old : List ℕ) → plain ≡ true → Wrote place (cond plain [] field) old place old
left_out plain place field old e = rw e (wrote_none place old)

-- A number in its bytes.
pub number-wrote : (width place n : ℕ) (old new : List ℕ) → new ≡ placed place (little_endian width n) old → Wrote place (little_endian width n) old (place + width) new
number-wrote width place n old new e = let long = length-little_endian width n in record { ends = omega (arith, long); leaves = e }
