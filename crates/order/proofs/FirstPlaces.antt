-- Where numbers do not fall, all places between two of a number have that number too: so, going down from any two places of it, its first
-- two stand side by side. Assumes nothing.
use Prim.Native.Nat.{ℕ, zero, suc, ◌+◌, ◌≤◌, ◌<◌}
use native.Mathlib.Decide.{ℕ_discrete}
use native.Mathlib.Omega.{arith}
use mathlib.Core.Path.{◌≡◌, sym, subst, ◌∙◌}
use Rattle.order.specs.Met.{Twice}
use Rattle.order.proofs.Times.{equal_or_not}

module _ (v : ℕ → ℕ) (n number : ℕ) where
  -- The same numbers, told by another function.
  pub two-same : (w : ℕ → ℕ) (m : ℕ) → ((k : ℕ) → v k ≡ w k) → n ≡ m → (i : ℕ) → Twice v n number i → Twice w m number i
  two-same w m same long i two = record {
    inside = omega (arith, two.inside);
    under = λ k lt. let low = two.under k lt in omega (arith, low, same k);
    here = sym (same i) ∙ two.here;
    next = sym (same (i + 1)) ∙ two.next;
  }

  -- Where numbers do not fall, a number at two places has its first two side by side.
  module _ (rise : (i j : ℕ) → i < j → j < n → v i ≤ v j) where
    two_here : (i j : ℕ) → i < j → j < n → v i ≡ number → v j ≡ number → ((k : ℕ) → k < i → v k < number) → Twice v n number i
    two_here i j lt inside here there under = record {
      inside = omega arith;
      under = under;
      here = here;
      next =
          let low = rise i (i + 1) (omega arith) (omega arith) in
          equal_or_not (i + 1) j
          (λ same. subst (λ k. v k ≡ number) (sym same) there)
          (λ other. let high = rise (i + 1) j (omega (arith, other)) inside in omega (arith, low, high));
    }

    pub two-of : (i j : ℕ) → i < j → j < n → v i ≡ number → v j ≡ number → (k : ℕ) × Twice v n number k
    two-of zero j lt inside here there = (0, two_here 0 j lt inside here there (λ k less. absurd (omega arith)))
    two-of (suc i) j lt inside here there = go (ℕ_discrete (v i) number) (two-of i (suc i) (omega arith) (omega arith))
      where
        go : Dec (v i ≡ number) → (v i ≡ number → v (suc i) ≡ number → (k : ℕ) × Twice v n number k) → (k : ℕ) × Twice v n number k
        go (yes same) before = before same here
        go (no other) before =
            let last = rise i (suc i) (omega arith) (omega arith) in (
              suc i,
              two_here (suc i) j lt inside here there (λ k less.
                  equal_or_not k i
                  (λ e. subst (λ m. v m < number) (sym e) (omega (arith, last, other)))
                  (λ e. let low = rise k i (omega (arith, e)) (omega arith) in omega (arith, low, last, other))),
            )
