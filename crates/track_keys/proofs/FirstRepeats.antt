-- Of numbers of which none is repeated, and one more: it equals an earlier one and is the first repeat, or it equals none. Assumes nothing.
use Prim.Native.Nat.{ℕ, ◌+◌, ◌<◌}
use native.Mathlib.Omega.{arith}
use mathlib.Core.Bool.{false}
use mathlib.Core.Path.{◌≡◌, sym, ap, ◌∙◌}
use Rattle.order.specs.Repeat.{FirstRepeat, Repeats}
use Rattle.order.proofs.Times.{equal_or_not}

module _ (f : ℕ → ℕ) where
  pub none-repeated : (n : ℕ) → Repeats f n false → FirstRepeat f n n
  none-repeated n apart = record { most = omega arith; apart = apart; again = λ lt. absurd (omega arith) }

  pub apart-one : Repeats f 1 false
  apart-one i j lt inside = absurd (omega arith)

  -- One number more, which an earlier one equals, or none does.
  module _ (i : ℕ) (apart : Repeats f (i + 1) false) {number : ℕ} (is : number ≡ f (i + 1)) where
    pub repeat-here : {n : ℕ} → i < n → (k : ℕ) → k < i + 1 → f k ≡ number → FirstRepeat f (n + 1) (i + 1)
    repeat-here inside k lt same = record {
      most = omega (arith, inside);
      apart = apart;
      again = λ less. (k, lt, same ∙ is);
    }

    pub apart-more : ((k : ℕ) → k < i + 1 → f k ≡ number → ⊥) → Repeats f (i + 1 + 1) false
    apart-more new j k lt less same =
        equal_or_not k (i + 1)
        (λ last. new j (omega (arith, last)) (same ∙ ap f last ∙ sym is))
        (λ before. apart j k lt (omega (arith, before)) same)
