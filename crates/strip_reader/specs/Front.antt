-- Document 02, T-02 (FORMAT, Strips read back): a strip is read from its front.
use Rattle.std.specs.Prelude.{ℕ, Bool, true, false, cond, List, [], length, take, drop, leb}
use Rattle.layout.specs.{Refusals.{strip_not_whole}, Walk.{refusal, Answer, answered, declined}}
use Rattle.strip.specs.Numbers.{number_of}

-- A reader takes the bytes left: it gives a value and the bytes behind it, or the refusal that it met.
abbrev pub Front : Type 0 → Type 0
Front A = List ℕ → Answer (A × List ℕ)

-- One reader after the other; a refusal ends the reading.
abbrev pub and_then : {A B : Type 0} → Answer (A × List ℕ) → (A → Front B) → Answer (B × List ℕ)
and_then (answered (a, left)) f = f a left
and_then (declined why) f = declined why

abbrev pub ◌>>=◌ : {A B : Type 0} → Front A → (A → Front B) → Front B
◌>>=◌ m f left = and_then (m left) f

abbrev pub ◌>>◌ : {A B : Type 0} → Front A → Front B → Front B
◌>>◌ m n left = and_then (m left) (λ a. n)

-- A value without reading.
abbrev pub give : {A : Type 0} → A → Front A
give a left = answered (a, left)

-- A refusal of that number, which has no values, where something is met.
abbrev pub refuse_if : Bool → ℕ → Front (Unit {0})
refuse_if true number left = declined (refusal number [])
refuse_if false number left = answered (tt, left)

-- "23 a strip that ends early": so many bytes.
unfoldable pub bytes : ℕ → Front (List ℕ)
bytes n left = cond (leb n (length left)) (answered (take n left, drop n left)) (declined (refusal strip_not_whole []))

unfoldable pub number : ℕ → Front ℕ
number width = do
  digits ← bytes width
  give (number_of digits)
