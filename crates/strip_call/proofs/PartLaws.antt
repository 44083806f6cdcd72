-- Parts of slices, lent and put back: a part that comes back as long as it was holds what was left in it, and nothing before or behind it
-- changes; so of two parts side by side nothing outside both does. Assumes nothing.
use Prim.Native.Nat.{ℕ, ◌+◌, ◌-◌, ◌≤◌}
use native.Mathlib.Omega.{arith}
use mathlib.Core.List.{List, ◌++◌}
use mathlib.Core.Path.{◌≡◌, refl, sym, ap, ◌∙◌}
use borrow.Rule.Slice.PartMut.{mid_of, post_of, put_mid, same_len_mid, mid_len, take_put, drop_put}
use lib.ListN.{length, take, drop}
use lib.Seq.{length-take-le, take_at, drop_at, drop-drop}
use Rattle.strip_call.specs.Parts.{part, Outside}
use Rattle.strip_call.proofs.Clipped.{front-passed}

module _ (from n : ℕ) (xs ys : List ℕ) (room : from + n ≤ length xs) (full : length ys ≡ n) where
  pub part-put : part from n (put_mid from (from + n - from) xs ys) ≡ ys
  part-put =
      ap (take n) (drop_at (take from xs) (ys ++ post_of from (from + n - from) xs) from (length-take-le from xs (omega (arith, room))))
      ∙ take_at ys (post_of from (from + n - from) xs) n full

  pub outside-put : Outside from n xs (put_mid from (from + n - from) xs ys)
  outside-put =
      record {
        same = same_len_mid from (from + n - from) xs ys (full ∙ sym (mid_len from (from + n) xs room ∙ omega arith));
        front = take_put from (from + n - from) xs ys (omega (arith, room));
        back = drop_put from (from + n) xs ys (omega arith) room (full ∙ omega arith);
      }

-- The part that is lent has as many places.
pub part-full : (from n : ℕ) (xs : List ℕ) → from + n ≤ length xs → length (mid_of from (from + n - from) xs) ≡ n
part-full from n xs room = mid_len from (from + n) xs room ∙ omega arith

-- Two parts, one behind the other.
further : (a n : ℕ) (xs : List ℕ) → drop (0 + (a + n)) xs ≡ drop n (drop (0 + a) xs)
further a n xs = let sum : 0 + (a + n) ≡ 0 + a + n = omega arith in ap (λ (k : ℕ). drop k xs) sum ∙ sym (drop-drop n (0 + a) xs)

pub outside-first : {a : ℕ} (n : ℕ) {before middle : List ℕ} → Outside 0 a before middle → Outside 0 (a + n) before middle
outside-first {a} n {before} {middle} o = record { same = o.same; front = refl; back = further a n middle ∙ ap (drop n) o.back ∙ sym (further a n before) }

pub outside-both : {a n : ℕ} {before middle after : List ℕ} → Outside 0 a before middle → Outside a n middle after → Outside 0 (a + n) before after
outside-both {a} {n} {before} {middle} {after} o p =
    let first = outside-first n o in
    let sum : 0 + (a + n) ≡ a + n = omega arith in
    record {
      same = p.same ∙ o.same;
      front = refl;
      back = ap (λ (k : ℕ). drop k after) sum ∙ p.back ∙ sym (ap (λ (k : ℕ). drop k middle) sum) ∙ first.back;
    }

-- What a part that was lent holds once it is back, and what is outside it.
pub record PutBack (from n : ℕ) (before now ys : List ℕ) : Type 0 where
  pub holds : part from n now ≡ ys
  pub outside : Outside from n before now

pub put-back : (from n : ℕ) (xs ys : List ℕ) → from + n ≤ length xs → length ys ≡ length (mid_of from (from + n - from) xs) → PutBack from n xs (put_mid from (from + n - from) xs ys) ys
put-back from n xs ys room same =
    let full : length ys ≡ n = same ∙ part-full from n xs room in
    record { holds = part-put from n xs ys room full; outside = outside-put from n xs ys room full }

pub ruleset clip_parts = (outside-first, outside-both, front-passed)
