-- A copy into a part of an output is placing the bytes there (`put-wrote`), and the bytes that std gives of a number are its bytes in
-- little endian. Assumes nothing.
use Prim.Native.Nat.{ℕ, ◌+◌, ◌-◌, ◌/◌, ◌≤◌}
use native.Mathlib.Omega.{arith}
use mathlib.Core.List.{List, [], ◌∷◌, ◌++◌, append_assoc}
use mathlib.Core.Path.{◌≡◌, refl, sym, ap, ◌∙◌}
use lib.ListN.{length, take, drop, length-append}
use lib.Seq.{drop-drop}
use Rattle.std.specs.Int.{w32, w64, to_le_bytes}
use Rattle.strip.specs.Numbers.{little_endian}
use Rattle.strip.proofs.Bytes.{length-little_endian}
use Rattle.keys.specs.Placed.{placed, Room, Wrote, head_bytes}

-- What a copy into a part of an output leaves.
pub put-wrote : (place end : ℕ) (bytes old new : List ℕ) → end ≡ place + length bytes → new ≡ bytes → Wrote place bytes old end (take place old ++ (new ++ drop (end - place) (drop place old)))
unfolding placed
put-wrote place end bytes old new ends same =
    let behind : place + (end - place) ≡ place + length bytes = omega arith in
    record {
      ends = ends;
      leaves =
          ap (λ (xs : List ℕ). take place old ++ (xs ++ drop (end - place) (drop place old))) same
          ∙ sym (append_assoc (take place old) bytes (drop (end - place) (drop place old)))
          ∙ ap (λ (xs : List ℕ). take place old ++ bytes ++ xs) (drop-drop (end - place) place old ∙ ap (λ (n : ℕ). drop n old) behind);
    }

-- Numbers in their bytes.
pub four-bytes : (n : ℕ) → to_le_bytes w32 n ≡ little_endian 4 n
unfolding little_endian
four-bytes n =
    let c : n / 65536 ≡ n / 256 / 256 = omega arith in
    let d : n / 16777216 ≡ n / 256 / 256 / 256 = omega arith in
    rw (c, d)

pub two-bytes : (n : ℕ) → take 2 (to_le_bytes w64 n) ≡ little_endian 2 n
unfolding little_endian
two-bytes n = refl

pub number-put : (place n : ℕ) (bytes old : List ℕ) (end : ℕ) (new : List ℕ) → bytes ≡ to_le_bytes w32 n → Wrote place bytes old end new → Wrote place (little_endian 4 n) old end new
number-put place n bytes old end new e w = rw (e, four-bytes n) at w

pub head-room : (old : List ℕ) (place frame map : ℕ) → Room place (head_bytes frame map) old → place + 5 ≤ length old
head-room old place frame map room =
    let four = length-little_endian 4 frame in
    let sum = length-append (little_endian 4 frame) (map ∷ []) in
    omega (arith, four, sum)

pub ruleset stores = (put-wrote, two-bytes)
