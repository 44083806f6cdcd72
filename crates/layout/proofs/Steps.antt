-- One step of a walk: one comparison says whether an item is whole, whatever it is read as. Of a reader that is repeated, a turn that goes
-- well leaves one repetition fewer, from where it ended, and one that is refused ends the walk. Assumes nothing.
use Prim.Native.Nat.{ℕ, suc, ◌+◌, ◌-◌, ◌≤◌, ◌<◌}
use native.Mathlib.Omega.{arith}
use mathlib.Core.List.{List}
use mathlib.Core.Path.{◌≡◌, refl}
use borrow.Author.Tests.{le-leb, lt-leb}
use lib.ListN.{length}
use lib.Dec.{leb}
use mathlib.Core.Bool.{Bool, true, false, cond}
use Rattle.layout.specs.Refusals.{too_short}
use Rattle.layout.specs.Walk.{Refusal, Walk, fine, refused, refused_at, Reader, after, item, block, times}

module _ {A : Type 0} (width : ℕ) (value : List ℕ → ℕ → A) (s : List ℕ) (at : ℕ) where
  pub whole : at + width ≤ length s → item width value s at ≡ fine (value s at) (at + width)
  unfolding item
  whole fits = simp (le-leb _ _ fits)

  pub short : length s < at + width → item width value s at ≡ refused_at too_short at
  unfolding item
  short lacks = simp (lt-leb _ _ lacks)

-- Steps behind steps, and a last step that gives what was read.
pub after-after : {A B C : Type 0} (w : Walk A) (f : A → ℕ → Walk B) (g : B → ℕ → Walk C) → after (after w f) g ≡ after w (λ a n. after (f a n) g)
after-after (fine a n) f g = refl
after-after (refused why) f g = refl

pub after-fine : {A : Type 0} (w : Walk A) → after w (λ a n. fine a n) ≡ w
after-fine (fine a n) = refl
after-fine (refused why) = refl

-- Whether an item is whole does not turn on what it is read as.
module _ {A : Type 0} (width : ℕ) (value : List ℕ → ℕ → A) (s : List ℕ) (at : ℕ) where
  pub read_as : (next : ℕ) → block width s at ≡ fine (tt {0}) next → item width value s at ≡ fine (value s at) next
  unfolding item
  read_as next e = go (leb (at + width) (length s)) e
    where
      go : (b : Bool) → cond b (fine (tt {0}) (at + width)) (refused_at too_short at) ≡ fine (tt {0}) next → cond b (fine (value s at) (at + width)) (refused_at too_short at) ≡ fine (value s at) next
      go true e = cc
      go false e = cc

-- One turn of a reader that is repeated n times, after k turns.
module _ {A : Type 0} (m : Reader A) (s : List ℕ) (at n k : ℕ) where
  pub times-turn : (a : A) (next : ℕ) → k < n → fine a next ≡ m s at → times (n - k) m s at ≡ times (n - (k + 1)) m s next
  unfolding times
  times-turn a next more e = turn (n - k) (n - (k + 1)) (omega arith)
    where
      turn : (x y : ℕ) → x ≡ suc y → times x m s at ≡ times y m s next
      turn x y f = rw (f, ← e)

  pub times-stop : (why : Refusal) → k < n → refused why ≡ m s at → times (n - k) m s at ≡ refused why
  unfolding times
  times-stop why more e = stop (n - k) (n - (k + 1)) (omega arith)
    where
      stop : (x y : ℕ) → x ≡ suc y → times x m s at ≡ refused why
      stop x y f = rw (f, ← e)

  pub times-done : n ≤ k → times (n - k) m s at ≡ fine tt at
  unfolding times
  times-done none = done (n - k) (omega arith)
    where
      done : (x : ℕ) → x ≡ 0 → times x m s at ≡ fine tt at
      done x f = rw f

pub ruleset turns = (times-turn, times-stop, times-done)
