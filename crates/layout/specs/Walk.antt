-- Reading a section item by item, as document 01 describes it (FORMAT, Numbers): each item stands whole at its offset, or the reading ends
-- there with refusal 1.
use Rattle.std.specs.Prelude.{ℕ, zero, suc, ◌+◌, ◌*◌, ◌-◌, List, [], ◌∷◌, ◌++◌, Bool, not, cond, ◌≡◌, length, get_or, take, drop, leb, ltb, eqb, ℤ, pos, Float}
use Rattle.layout.specs.{Refusals.{too_short, negative_count, count_above_limit}, Numbers.{signed, least_negative, negative, float}}
use Rattle.layout.specs.declared.Part.{Part}

-- A refusal: its number in 01, "Turned down, and by whose doing" (FORMAT, Refusals), and the values listed there, in that order.
pub record Refusal : Type 0 where
  pub number : ℕ
  pub values : List ℤ

abbrev pub refusal : ℕ → List ℤ → Refusal
refusal number values = record { number = number; values = values }

-- What reading gives: a value and the offset behind it, or a refusal.
pub data Walk (A : Type 0) : Type 0 where
  fine : A → ℕ → Walk A
  refused : Refusal → Walk A

-- A reader takes the lent bytes and an offset.
abbrev pub Reader : Type 0 → Type 0
Reader A = List ℕ → ℕ → Walk A

-- One reader after the other; a refusal ends the reading.
abbrev pub after : {A B : Type 0} → Walk A → (A → ℕ → Walk B) → Walk B
after (fine a next) f = f a next
after (refused r) f = refused r

abbrev pub ◌>>=◌ : {A B : Type 0} → Reader A → (A → Reader B) → Reader B
◌>>=◌ m f s at = after (m s at) (λ a next. f a s next)

abbrev pub ◌>>◌ : {A B : Type 0} → Reader A → Reader B → Reader B
◌>>◌ m n s at = after (m s at) (λ a next. n s next)

-- A value without reading; the offset reached.
abbrev pub give : {A : Type 0} → A → Reader A
give a s at = fine a at

abbrev pub here : Reader ℕ
here s at = fine at at

-- What a call answers: a value, or a refusal.
pub data Answer (A : Type 0) : Type 0 where
  answered : A → Answer A
  declined : Refusal → Answer A

-- An answer that is no refusal.
pub record Answers {A : Type 0} (a : Answer A) : Type 0 where
  pub value : A
  pub is : a ≡ answered value

abbrev pub answer : {A : Type 0} → Walk A → Answer A
answer (fine a next) = answered a
answer (refused why) = declined why

-- What a call answers of an entry of a section: where it stands is found, it is read there, and its summary is made of its bits, its
-- offset and its end.
unfoldable pub entry_of : {M A B : Type 0} → Walk M → (M → Reader A) → (M → ℕ → A → ℕ → B) → List ℕ → Answer B
entry_of found bits summary s = answer (after found (λ m at. after (bits m s at) (λ b end. fine (summary m at b end) end)))

-- A refusal whose one value is an offset.
abbrev pub refused_at : {A : Type 0} → ℕ → ℕ → Walk A
refused_at number at = refused (refusal number (pos at ∷ []))

-- 1: a value does not fit in the bytes left, a start past the end included (place: the offset of the item that is not whole).
-- An item is `width` bytes; `value` says what they are.
unfoldable pub item : {A : Type 0} → ℕ → (List ℕ → ℕ → A) → Reader A
item width value s at = cond (leb (at + width) (length s)) (fine (value s at) (at + width)) (refused_at too_short at)

-- Numbers are little endian.
abbrev pub u32_at : List ℕ → ℕ → ℕ
u32_at s at = get_or s at 0 + 256 * get_or s (at + 1) 0 + 65536 * get_or s (at + 2) 0 + 16777216 * get_or s (at + 3) 0

abbrev pub u8 : Reader ℕ
u8 = item 1 (λ s at. get_or s at 0)

-- A bool is one byte, true unless 0.
abbrev pub bool : Reader Bool
bool = do
  b ← u8
  give (not (eqb b 0))

-- The 32 bits of an i32 or an f32.
abbrev pub u32 : Reader ℕ
u32 = item 4 u32_at

abbrev pub i32 : Reader ℤ
i32 = do
  b ← u32
  give (signed b)

abbrev pub f32 : Reader Float
f32 = do
  b ← u32
  give (float b)

-- A skipped block, a string body or an interpolation block is one item.
abbrev pub block : ℕ → Reader (Unit {0})
block width = item width (λ s at. tt)

-- A name or path is "the part of the section that holds it" (module 7; FORMAT, Calls by number): where its bytes stand, and how many they
-- are.
abbrev pub part : ℕ → ℕ → Part
part offset byte_length = record { offset = offset; byte_length = byte_length }

abbrev pub bytes_of : Part → List ℕ → List ℕ
bytes_of p s = take p.byte_length (drop p.offset s)

abbrev pub body : ℕ → Reader Part
body width = item width (λ s at. part at width)

-- So many bytes from an offset on.
unfoldable pub bytes_at : List ℕ → ℕ → ℕ → List ℕ
bytes_at s at zero = []
bytes_at s at (suc n) = bytes_at s at n ++ get_or s (at + n) 0 ∷ []

-- A name (FORMAT, A model section): length u8, then that many bytes.
unfoldable pub string : Reader Part
string = do
  width ← u8
  body width

-- A fixed field: `width` bytes, "ending before its first zero byte if it has one"; so many stand before it.
unfoldable pub before_zero : List ℕ → ℕ
before_zero [] = 0
before_zero (b ∷ bs) = cond (eqb b 0) 0 (suc (before_zero bs))

abbrev pub fixed_string : ℕ → Reader Part
fixed_string width = item width (λ s at. part at (before_zero (take width (drop at s))))

-- The same reader n times.
unfoldable pub times : {A : Type 0} → ℕ → Reader A → Reader (Unit {0})
times zero m = give tt
times (suc n) m = do
  m
  times n m

-- A count is an i32 (FORMAT, Refusals). 2: it is negative (its offset); tested after 2, 20: it is above the limit (its offset).
unfoldable pub count : ℕ → Reader ℕ
count limit s at =
    after (u32 s at)
    (λ n next. cond (negative n) (refused_at negative_count at) (cond (ltb limit n) (refused_at count_above_limit at) (fine n next)))

-- No i32 is above this limit: for the counts to which 20 does not apply.
abbrev pub unlimited : ℕ
unlimited = least_negative - 1

-- The items of a record, given by their widths, in file order.
unfoldable pub items : List ℕ → Reader (Unit {0})
items [] = give tt
items (width ∷ widths) = do
  block width
  items widths
