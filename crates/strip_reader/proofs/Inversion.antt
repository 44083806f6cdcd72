-- From a reading that was answered back to its steps: a refusal of the first would have been that of the whole, so it was answered too, and
-- the second began with what it left (`came`). Bytes read stand in front of what is left, and a number's are its own. Assumes nothing.
use Rattle.std.proofs.Common.{◌≡◌, ℕ, ◌^◌, ◌<◌, Bool, true, false, cond, List, [], ◌∷◌, ◌++◌, length, take, drop, leb, refl, sym, ap, ◌∙◌, subst, arith, length-take-le, take-append-drop}
use borrow.Author.Tests.{leb-true}
use Rattle.layout.specs.{Refusals.{strip_not_whole}, Walk.{refusal, Answer, answered, declined}}
use Rattle.strip.specs.Numbers.{little_endian, number_of}
use Rattle.strip_reader.specs.Front.{Front, and_then, refuse_if, give, bytes, number}
use Rattle.strip_reader.proofs.FrontLaws.{AreBytes, little_endian-number_of, number_of-below}

pub both-bytes : (xs ys : List ℕ) → AreBytes (xs ++ ys) → AreBytes xs × AreBytes ys
both-bytes [] ys small = (tt, small)
both-bytes (x ∷ xs) ys small = let rest = both-bytes xs ys small.1 in ((small.0, rest.0), rest.1)

pub same-answer : {A : Type 0} {a b : A} → answered a ≡ answered b → a ≡ b
same-answer e = cc

-- The value and what is left are those that were answered.
module _ {A : Type 0} {a b : A} {left right : List ℕ} (e : ◌≡◌ {A = Answer (A × List ℕ)} (answered (a, left)) (answered (b, right))) where
  pub value-is : a ≡ b
  value-is = ap (λ (p : A × List ℕ). p.0) (same-answer e)

  pub left-is : left ≡ right
  left-is = ap (λ (p : A × List ℕ). p.1) (same-answer e)

-- A value that was given without reading.
pub gave : {A : Type 0} (a b : A) (s left : List ℕ) → give a s ≡ answered (b, left) → (a ≡ b) × (s ≡ left)
gave a b s left e = (value-is e, left-is e)

-- The step in front, and what follows it.
pub record Came {A B : Type 0} (m : Answer (A × List ℕ)) (f : A → Front B) (b : B) (left : List ℕ) : Type 0 where
  pub value : A
  pub behind : List ℕ
  pub first : m ≡ answered (value, behind)
  pub rest : f value behind ≡ answered (b, left)

pub came : {A B : Type 0} (m : Answer (A × List ℕ)) (f : A → Front B) (b : B) (left : List ℕ) → and_then m f ≡ answered (b, left) → Came m f b left
came (answered p) f b left e = record { value = p.0; behind = p.1; first = refl; rest = e }
came (declined why) f b left e = absurd (let z : ◌≡◌ {A = ℕ} 0 1 = cc in omega arith)

-- A test that refused nothing was not met, and nothing was read.
pub not-met : (met : Bool) (number : ℕ) (s left : List ℕ) (u : Unit {0}) → refuse_if met number s ≡ answered (u, left) → (met ≡ false) × (s ≡ left)
not-met true number s left u e = absurd (let z : ◌≡◌ {A = ℕ} 0 1 = cc in omega arith)
not-met false number s left u e = (refl, left-is e)

-- So many bytes, in front of what is left.
pub record Taken (n : ℕ) (s front left : List ℕ) : Type 0 where
  pub is : s ≡ front ++ left
  pub long : length front ≡ n

pub taken : (n : ℕ) (s front left : List ℕ) → bytes n s ≡ answered (front, left) → Taken n s front left
unfolding bytes
taken n s front left e = go (leb n (length s)) refl e
  where
    go : (b : Bool) → leb n (length s) ≡ b → cond {A = Answer (List ℕ × List ℕ)} b (answered (take n s, drop n s)) (declined (refusal strip_not_whole [])) ≡ answered (front, left) → Taken n s front left
    go true fits e =
        let is_front : take n s ≡ front = value-is e in
        let is_left : drop n s ≡ left = left-is e in
        record {
          is = rw (← is_front, ← is_left) (sym (take-append-drop n s));
          long = rw (← is_front) (length-take-le n s (leb-true n (length s) fits));
        }
    go false fits e = absurd (let z : ◌≡◌ {A = ℕ} 0 1 = cc in omega arith)

-- A number that was read: its bytes are in front of what is left.
pub record Numbered (width n : ℕ) (s left : List ℕ) : Type 0 where
  pub is : s ≡ little_endian width n ++ left
  pub small : n < 256 ^ width
  pub bytes : AreBytes left

pub numbered : (width n : ℕ) (s left : List ℕ) → AreBytes s → number width s ≡ answered (n, left) → Numbered width n s left
unfolding number
numbered width n s left small e =
    let step = came (bytes width s) (λ digits. give (number_of digits)) n left e in
    let digits = step.value in
    let part = taken width s digits step.behind step.first in
    let is_n : number_of digits ≡ n = value-is step.rest in
    let is_left : step.behind ≡ left = left-is step.rest in
    let both = both-bytes digits step.behind (subst AreBytes part.is small) in
    let again : little_endian (length digits) (number_of digits) ≡ digits = little_endian-number_of digits both.0 in
    let written : little_endian width n ≡ digits = ap (λ w. little_endian w n) (sym part.long) ∙ ap (little_endian (length digits)) (sym is_n) ∙ again in
    record {
      is = part.is ∙ ap (λ rest. digits ++ rest) is_left ∙ ap (λ front. front ++ left) (sym written);
      small = subst (λ (k : ℕ). k < 256 ^ width) is_n (subst (λ (w : ℕ). number_of digits < 256 ^ w) part.long (number_of-below digits both.0));
      bytes = subst AreBytes is_left both.1;
    }
