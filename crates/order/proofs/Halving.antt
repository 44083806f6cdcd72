-- The search for the first place of a number: numbers do not fall along the slots, so those below the given one come first, and the
-- partition point that std finds is that place. Assumes nothing.
use Prim.Native.Nat.{ℕ, ◌≤◌, ◌<◌}
use native.Mathlib.Omega.{arith}
use mathlib.Core.Path.{◌≡◌, sym, subst, ap, ◌∙◌}
use mathlib.Core.Bool.{Bool, true, false, ◌&&◌}
use lib.ListN.{length, get_or}
use mathlib.Core.List.{List}
use Rattle.std.proofs.Common.{ltb, ltb-true, lt-ltb, ltb-false}
use Rattle.std.proofs.lemmas.Grind.{get_or_default_zero}
use Rattle.std.specs.List.Sorted.{IsPartitionedBy, IsPartitionPoint}
use Rattle.order.specs.Field.{AllBelow}
use Rattle.order.specs.Met.{FirstPlace}
use Rattle.order.proofs.Times.{equal_or_not}

module _ (v : ℕ → ℕ) (n number : ℕ) (xs : List ℕ) (below : AllBelow n xs) where
  abbrev pub under : ℕ → Bool
  under y = ltb y n && ltb (v y) number

  is : (i d : ℕ) → i < length xs → under (get_or xs i d) ≡ ltb (v (get_or xs i 0)) number
  is i d lt = ap under (get_or_default_zero xs i d lt) ∙ ap (λ (t : Bool). t && ltb (v (get_or xs i 0)) number) (lt-ltb _ _ (below i lt))

  module _ (rise : (i j : ℕ) → i < j → j < length xs → v (get_or xs i 0) ≤ v (get_or xs j 0)) where
    pub parted : IsPartitionedBy under xs
    parted i j d le lt e =
        equal_or_not i j
        (λ same. subst (λ k. under (get_or xs k d) ≡ true) (sym same) e)
        (λ other.
        let up = rise i j (omega (arith, other)) lt in
        let less = ltb-true _ _ (sym (is j d lt) ∙ e) in
        is i d (omega arith) ∙ lt-ltb _ _ (omega (arith, up, less)))

    pub first : (k : ℕ) → k ≤ length xs → IsPartitionPoint (λ y. under y ≡ true) (λ y. under y ≡ false) xs k → FirstPlace (λ i. v (get_or xs i 0)) (length xs) number k
    first k most point = record {
      within = most;
      under = λ i lt. ltb-true _ _ (sym (is i 0 (omega arith)) ∙ point.0 i 0 (omega arith) lt);
      rest = λ i past lt. ltb-false _ _ (sym (is i 0 lt) ∙ point.1 i 0 past lt);
    }
