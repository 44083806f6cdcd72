-- A key that was told, written again: a float's four bytes are those of its bits, and the curves are the bytes that they were made of; so a
-- whole key is written as it was read. Assumes nothing.
use Rattle.std.proofs.Common.{◌≡◌, ℕ, suc, ◌+◌, ◌*◌, ◌/◌, ◌%◌, ◌<◌, zero, List, [], ◌∷◌, ◌++◌, length, take, drop, get_or-drop, take_at, drop_at, length-append, append-nil, refl, sym, ap, ◌∙◌, arith}
use Rattle.std.specs.List.{AllByRecursion, concat}
use Rattle.layout.specs.Walk.{u32_at, bytes_at}
use Rattle.layout.proofs.Slices.{bytes_part}
use Rattle.records.specs.Curves.{curves_at}
use Rattle.clip.specs.Fields.{bone, morph}
use Rattle.strip.specs.{Numbers.{little_endian}, Plain.{floats, bone_groups, morph_groups}, Strip.{FieldsKey}}
use Rattle.strip.proofs.Keys.{Shaped}
use Rattle.strip_reader.specs.{Key.{form_of}, Answers.{strip_key}}
use Rattle.strip_reader.proofs.FrontLaws.{AreBytes}
use Rattle.strip_laws.specs.Written.{written_key}
use Rattle.strip_laws.proofs.WholeKeys.{WholeKey}

-- Four bytes are those of their number.
word : (a b c d : ℕ) → a < 256 → b < 256 → c < 256 → d < 256 → little_endian 4 (a + 256 * b + 65536 * c + 16777216 * d) ≡ a ∷ b ∷ c ∷ d ∷ []
unfolding little_endian
word a b c d sa sb sc sd =
    let n = a + 256 * b + 65536 * c + 16777216 * d in
    let e0 : n % 256 ≡ a = omega (arith, sa) in
    let e1 : n / 256 % 256 ≡ b = omega (arith, sa, sb) in
    let e2 : n / 256 / 256 % 256 ≡ c = omega (arith, sa, sb, sc) in
    let e3 : n / 256 / 256 / 256 % 256 ≡ d = omega (arith, sa, sb, sc, sd) in
    rw (e0, e1, e2, e3)

-- The numbers of so many fours of bytes.
abbrev numbers : ℕ → List ℕ → List ℕ
numbers zero bs = []
numbers (suc n) bs = u32_at bs 0 ∷ numbers n (drop 4 bs)

numbers-written : (n : ℕ) (bs : List ℕ) → length bs ≡ 4 * n → AreBytes bs → floats (numbers n bs) ≡ bs
unfolding floats
numbers-written zero [] e small = refl
numbers-written zero (b ∷ bs) e small = absurd (omega (arith, e))
numbers-written (suc n) [] e small = absurd (omega (arith, e))
numbers-written (suc n) (a ∷ []) e small = absurd (omega (arith, e))
numbers-written (suc n) (a ∷ b ∷ []) e small = absurd (omega (arith, e))
numbers-written (suc n) (a ∷ b ∷ c ∷ []) e small = absurd (omega (arith, e))
numbers-written (suc n) (a ∷ b ∷ c ∷ d ∷ bs) e small =
    rw (word a b c d small.0 small.1.0 small.1.1.0 small.1.1.1.0, numbers-written n bs (omega (arith, e)) small.1.1.1.1)

three : (t : List ℕ) → u32_at t 0 ∷ u32_at t 4 ∷ u32_at t 8 ∷ [] ≡ numbers 3 t
three t = simp get_or-drop

front-curves : (s : List ℕ) → concat (take 3 (curves_at s 0)) ≡ bytes_at s 0 12
unfolding bytes_at
front-curves s = refl

last-curve : (s : List ℕ) → concat (drop 3 (curves_at s 0)) ≡ bytes_at s 12 4
unfolding bytes_at
last-curve s = refl

four : (o : List ℕ) → u32_at o 0 ∷ u32_at o 4 ∷ u32_at o 8 ∷ u32_at o 12 ∷ [] ≡ numbers 4 o
four o = simp get_or-drop

one-number : (w : List ℕ) → u32_at w 0 ∷ [] ≡ numbers 1 w
one-number w = refl

module _ (x r : List ℕ) (long_x : length x ≡ 12) (long_r : length r ≡ 4) where
  long : length (x ++ r) ≡ 16
  long = omega (arith, length-append x r, long_x, long_r)

  front-again : concat (take 3 (curves_at (x ++ r) 0)) ≡ x
  front-again = front-curves (x ++ r) ∙ bytes_part (x ++ r) 0 12 (omega (arith, long)) ∙ take_at x r 12 long_x

  last-again : concat (drop 3 (curves_at (x ++ r) 0)) ≡ r
  last-again =
      last-curve (x ++ r)
      ∙ bytes_part (x ++ r) 12 4 (omega (arith, long))
      ∙ ap (take 4) (drop_at x r 12 long_x)
      ∙ ap (take 4) (sym (append-nil r))
      ∙ take_at r [] 4 long_r

bone-fields : (frame : ℕ) (fs : List (List ℕ)) → Shaped bone_groups fs → AllByRecursion AreBytes fs → written_key (strip_key bone (record { frame = frame; body = fs })) ≡ record { frame = frame; body = fs }
bone-fields frame [] shaped small = absurd shaped
bone-fields frame (t ∷ []) shaped small = absurd shaped.1
bone-fields frame (t ∷ o ∷ []) shaped small = absurd shaped.1.1
bone-fields frame (t ∷ o ∷ x ∷ []) shaped small = absurd shaped.1.1.1
bone-fields frame (t ∷ o ∷ x ∷ r ∷ []) shaped small =
    let translation = ap floats (three t) ∙ numbers-written 3 t shaped.0 small.0 in
    let orientation = ap floats (four o) ∙ numbers-written 4 o shaped.1.0 small.1.0 in
    let curves = front-again x r shaped.1.1.0 shaped.1.1.1.0 in
    let rotation = last-again x r shaped.1.1.0 shaped.1.1.1.0 in
    cc
bone-fields frame (t ∷ o ∷ x ∷ r ∷ y ∷ fs) shaped small = absurd shaped.1.1.1.1

morph-fields : (frame : ℕ) (fs : List (List ℕ)) → Shaped morph_groups fs → AllByRecursion AreBytes fs → written_key (strip_key morph (record { frame = frame; body = fs })) ≡ record { frame = frame; body = fs }
morph-fields frame [] shaped small = absurd shaped
morph-fields frame (w ∷ []) shaped small = rw (numbers-written 1 w shaped.0 small.0)
morph-fields frame (w ∷ x ∷ fs) shaped small = absurd shaped.1

-- Keys of a kind, as they were read.
pub bone-written : (k : FieldsKey) → WholeKey (form_of bone) k → written_key (strip_key bone k) ≡ k
bone-written k whole = bone-fields k.frame k.body whole.shaped whole.bytes

pub morph-written : (k : FieldsKey) → WholeKey (form_of morph) k → written_key (strip_key morph k) ≡ k
morph-written k whole = morph-fields k.frame k.body whole.shaped whole.bytes
