-- The slots were filled with 0, 1, .. before they were sorted: the least slot right behind an equal number is the first record whose number
-- an earlier one has, since the slot before it is the smaller one. Assumes nothing.
use Prim.Native.Nat.{ℕ, ◌-◌, ◌≤◌, ◌<◌}
use native.Mathlib.Omega.{arith}
use mathlib.Core.List.{List}
use mathlib.Core.Path.{◌≡◌, ap, ◌∙◌}
use lib.ListN.{length, get_or}
use Rattle.order.specs.Field.{number_of, Within, AllBelow}
use Rattle.order.specs.Sorted.{times, Sorted}
use Rattle.order.specs.Repeat.{FirstRepeat, up_to, LeastBehind}
use Rattle.order.specs.declared.field.Field.{Field}
use Rattle.order.proofs.Counted.{up_to-length, up_to-once, up_to-below, up_to-has}
use Rattle.order.proofs.Equals.{later-behind, behind-later}

module _ (s : List ℕ) (f : Field) (within : Within s f) (n : ℕ) (few : n ≤ f.count) (filled : List ℕ) (is : filled ≡ up_to n) where
  pub filled-below : AllBelow f.count filled
  filled-below = rw is (up_to-below n f.count few)

  filled-once : (x : ℕ) → times x filled ≤ 1
  filled-once = rw is (λ x. up_to-once n x)

  filled-has : (x : ℕ) → x < n → 0 < times x filled
  filled-has = rw is (up_to-has n)

  module _ (after : List ℕ) (sorted : Sorted s f filled after) where
    -- The pass was given the slots' length.
    pub first-repeat : (m : ℕ) → LeastBehind s f after (length after) m → FirstRepeat (number_of s f) n m
    first-repeat m pass =
        let long : length after ≡ n = sorted.as_many ∙ ap length is ∙ up_to-length n in
        record {
          most = omega (arith, pass.most, long);
          apart = λ i j lt inside same.
              let at = later-behind s f within filled after sorted filled-below filled-once i j lt (filled-has i (omega (arith, pass.most, long))) (filled-has j (omega (arith, pass.most, long))) same in
              let least = pass.least at.0 at.1 in
              omega (arith, least, at.2);
          again = λ lt.
              let at = pass.some (omega (arith, long)) in
              let up = behind-later s f within filled after sorted filled-below filled-once at.0 at.1 in
              (get_or after (at.0 - 1) 0, omega (arith, up, at.2), at.1.equal ∙ ap (number_of s f) at.2);
        }
