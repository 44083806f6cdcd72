-- The bytes of a record's body are those of the section: byte i of it stands i places behind its offset. So four of them make the number
-- that the section has there, and weight and pose are as the record reader has them. Assumes nothing.
use Prim.Native.Nat.{ℕ, zero, suc, ◌+◌, ◌≤◌, ◌<◌}
use native.Mathlib.Nat.{add_assoc, add-zero}
use native.Mathlib.Decide.{ℕ_discrete}
use native.Mathlib.Omega.{arith}
use mathlib.Core.List.{List, [], ◌∷◌, ◌++◌}
use mathlib.Core.Path.{◌≡◌, refl, sym, ap, ◌∙◌, subst}
use lib.ListN.{length, get_or, length-append, get_or-append}
use lib.Seq.{get_or_at}
use Rattle.layout.specs.Numbers.{float}
use Rattle.layout.specs.Walk.{fine, u32_at, bytes_at}
use Rattle.records.specs.Pose.{pose_bits, pose_of}
use Rattle.records.specs.declared.pose.PoseBits.{PoseBits}
use Rattle.records.proofs.PoseWhole.{seven, pose-was}
use Rattle.clip.specs.Keys.{posed, pose_bits_of, float_at}
use Rattle.clip.specs.Section.{bone_body, morph_body}

pub length-bytes_at : (s : List ℕ) (at n : ℕ) → length (bytes_at s at n) ≡ n
unfolding bytes_at
length-bytes_at s at zero = refl
length-bytes_at s at (suc n) =
    let sum = length-append (bytes_at s at n) (get_or s (at + n) 0 ∷ []) in
    let rest = length-bytes_at s at n in
    omega (arith, sum, rest)

pub get_or-bytes_at : (s : List ℕ) (at n i : ℕ) → i < n → get_or (bytes_at s at n) i 0 ≡ get_or s (at + i) 0
unfolding bytes_at
get_or-bytes_at s at zero i lt = absurd (omega arith)
get_or-bytes_at s at (suc n) i lt = go (ℕ_discrete i n) (λ less. get_or-bytes_at s at n i less)
  where
    go : Dec (i ≡ n) → (i < n → get_or (bytes_at s at n) i 0 ≡ get_or s (at + i) 0) → get_or (bytes_at s at n ++ get_or s (at + n) 0 ∷ []) i 0 ≡ get_or s (at + i) 0
    go (yes e) rest = subst (λ (j : ℕ). get_or (bytes_at s at n ++ get_or s (at + n) 0 ∷ []) j 0 ≡ get_or s (at + j) 0) (sym e) (get_or_at (bytes_at s at n) (get_or s (at + n) 0) [] 0 n (length-bytes_at s at n))
    go (no d) rest =
        let less : i < n = omega arith in
        let inside : i < length (bytes_at s at n) = rw (length-bytes_at s at n) less in
        get_or-append (bytes_at s at n) (get_or s (at + n) 0 ∷ []) 0 i inside ∙ rest less

-- Four bytes of a body, by their place in it and in the section.
pub word_in : (s : List ℕ) (at n i : ℕ) → i + 4 ≤ n → u32_at (bytes_at s at n) i ≡ u32_at s (at + i)
word_in s at n i fits =
    let a = get_or-bytes_at s at n i (omega arith) in
    let b = get_or-bytes_at s at n (i + 1) (omega arith) ∙ ap (λ (j : ℕ). get_or s j 0) (sym (add_assoc at i 1)) in
    let c = get_or-bytes_at s at n (i + 2) (omega arith) ∙ ap (λ (j : ℕ). get_or s j 0) (sym (add_assoc at i 2)) in
    let d = get_or-bytes_at s at n (i + 3) (omega arith) ∙ ap (λ (j : ℕ). get_or s j 0) (sym (add_assoc at i 3)) in
    rw (a, b, c, d)

pub first-word-in : (s : List ℕ) (at n : ℕ) → 4 ≤ n → u32_at (bytes_at s at n) 0 ≡ u32_at s at
first-word-in s at n fits = word_in s at n 0 (omega arith) ∙ ap (u32_at s) (add-zero at)

pub weight-bits-are : (s : List ℕ) (at : ℕ) → u32_at s at ≡ u32_at (morph_body s at) 0
unfolding morph_body
weight-bits-are s at = sym (first-word-in s at 4 (omega arith))

pub weight_is : (s : List ℕ) (at : ℕ) → float (u32_at s at) ≡ float_at (morph_body s at) 0
weight_is s at = ap float (weight-bits-are s at)

bits-are : (s : List ℕ) (at : ℕ) → seven s (at + 16) ≡ pose_bits_of (bone_body s at)
unfolding bone_body
bits-are s at =
    rw (
      add_assoc at 16 12,
      add_assoc at 16 16,
      add_assoc at 16 20,
      add_assoc at 16 24,
      first-word-in s (at + 16) 12 (omega arith),
      word_in s (at + 16) 12 4 (omega arith),
      word_in s (at + 16) 12 8 (omega arith),
      first-word-in s (at + 28) 16 (omega arith),
      word_in s (at + 28) 16 4 (omega arith),
      word_in s (at + 28) 16 8 (omega arith),
      word_in s (at + 28) 16 12 (omega arith),
      add_assoc at 28 4,
      add_assoc at 28 8,
      add_assoc at 28 12,
    )

-- The pose's bits that the record reader has of a body, and the pose.
pub bits-read : (s : List ℕ) (at : ℕ) (b : PoseBits) (next : ℕ) → fine b next ≡ pose_bits s (at + 16) → b ≡ pose_bits_of (bone_body s at)
bits-read s at b next e = sym (pose-was s (at + 16) b next (sym e)) ∙ bits-are s at

pub pose-read : (s : List ℕ) (at : ℕ) (b : PoseBits) (next : ℕ) → fine b next ≡ pose_bits s (at + 16) → pose_of b ≡ posed (bone_body s at)
pose-read s at b next e = ap pose_of (bits-read s at b next e)

pub ruleset posed_is = (pose-read)
