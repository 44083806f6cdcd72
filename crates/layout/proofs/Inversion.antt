-- From a walk that went well back to its steps: a refusal of the first step would have been that of the walk, so it went well, and the rest
-- of the walk began where it ended (`came`). Assumes nothing.
use Prim.Native.Nat.{ℕ, ◌+◌, ◌≤◌, ◌<◌}
use mathlib.Core.Bool.{Bool, true, false, cond}
use mathlib.Core.List.{List}
use mathlib.Core.Path.{◌≡◌, refl}
use native.Mathlib.Omega.{arith}
use borrow.Author.Tests.{leb-true, leb-false, ltb-false}
use lib.Dec.{leb, ltb}
use lib.ListN.{length}
use Rattle.layout.specs.Refusals.{too_short, negative_count, count_above_limit}
use Rattle.layout.specs.Numbers.{least_negative, negative}
use Rattle.layout.specs.Walk.{Walk, fine, refused, refused_at, after, item, u32, count}

-- The step in front, and what follows it.
pub record Came {A B : Type 0} (w : Walk A) (f : A → ℕ → Walk B) (b : B) (next : ℕ) : Type 0 where
  pub value : A
  pub at : ℕ
  pub first : w ≡ fine value at
  pub rest : f value at ≡ fine b next

pub came : {A B : Type 0} (w : Walk A) (f : A → ℕ → Walk B) (b : B) (next : ℕ) → after w f ≡ fine b next → Came w f b next
came (fine a at) f b next e = record { value = a; at = at; first = refl; rest = e }
came (refused why) f b next e = absurd (let z : ◌≡◌ {A = ℕ} 0 1 = cc in omega arith)

-- A walk that goes well.
pub record Reads {A : Type 0} (w : Walk A) : Type 0 where
  pub value : A
  pub to : ℕ
  pub is : w ≡ fine value to

pub same-value : {A : Type 0} {a b : A} {n m : ℕ} → fine a n ≡ fine b m → a ≡ b
same-value e = cc

-- A count that was read is an i32 that is not negative, and not above its limit.
pub record Counted (limit n : ℕ) : Type 0 where
  pub positive : n < least_negative
  pub within : n ≤ limit

pub counted : (limit : ℕ) (s : List ℕ) (at n next : ℕ) → count limit s at ≡ fine n next → Counted limit n
unfolding count
counted limit s at n next e =
    let back = came (u32 s at) _ n next e in
    go back.value back.at (negative back.value) (ltb limit back.value) refl refl back.rest
  where
    go : (m after : ℕ) (high above : Bool) → negative m ≡ high → ltb limit m ≡ above → cond high (refused_at negative_count at) (cond above (refused_at count_above_limit at) (fine m after)) ≡ fine n next → Counted limit n
    go m after true above h a e = absurd (let z : ◌≡◌ {A = ℕ} 0 1 = cc in omega arith)
    go m after false true h a e = absurd (let z : ◌≡◌ {A = ℕ} 0 1 = cc in omega arith)
    go m after false false h a e =
        let same : m ≡ n = cc in
        let low = leb-false least_negative m h in
        let under = ltb-false limit m a in
        record { positive = omega arith; within = omega arith }

-- An item that was read is whole.
pub item-fits : {A : Type 0} (width : ℕ) (value : List ℕ → ℕ → A) (s : List ℕ) (at : ℕ) (a : A) (next : ℕ) → item width value s at ≡ fine a next → at + width ≤ length s
unfolding item
item-fits {A} width value s at a next e = go (leb (at + width) (length s)) refl e
  where
    go : (b : Bool) → leb (at + width) (length s) ≡ b → cond b (fine (value s at) (at + width)) (refused_at too_short at) ≡ fine a next → at + width ≤ length s
    go true test e = leb-true (at + width) (length s) test
    go false test e = absurd (let z : ◌≡◌ {A = ℕ} 0 1 = cc in omega arith)

-- What was read, and where it ends.
pub record Was {A : Type 0} (value : A) (end : ℕ) (a : A) (next : ℕ) : Type 0 where
  pub is : value ≡ a
  pub to : end ≡ next

pub item-was : {A : Type 0} (width : ℕ) (value : List ℕ → ℕ → A) (s : List ℕ) (at : ℕ) (a : A) (next : ℕ) → item width value s at ≡ fine a next → Was (value s at) (at + width) a next
unfolding item
item-was {A} width value s at a next e = go (leb (at + width) (length s)) e
  where
    go : (b : Bool) → cond b (fine (value s at) (at + width)) (refused_at too_short at) ≡ fine a next → Was (value s at) (at + width) a next
    go true e = record { is = cc; to = cc }
    go false e = absurd (let z : ◌≡◌ {A = ℕ} 0 1 = cc in omega arith)
