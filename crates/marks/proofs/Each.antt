-- The list f 0, .., f (n - 1) (strip, specs/Work): it has n places, with f i at place i, and no other list has. Assumes nothing.
use Prim.Native.Nat.{ℕ, zero, suc, ◌<◌}
use native.Mathlib.Omega.{arith}
use mathlib.Core.List.{List, [], ◌∷◌}
use mathlib.Core.Path.{◌≡◌, refl, sym, ap, ◌∙◌}
use lib.ListN.{length, get_or, length-append, get_or-append}
use lib.Seq.{get_or_at, ext_get_or}
use Rattle.clip.proofs.First.{below_suc}
use Rattle.strip.specs.Work.{each}

module _ (f : ℕ → ℕ) where
  pub length-each : (n : ℕ) → length (each n f) ≡ n
  unfolding each
  length-each zero = refl
  length-each (suc n) = let sum = length-append (each n f) (f n ∷ []) in let rest = length-each n in omega (arith, sum, rest)

  pub each_at : (n i : ℕ) → i < n → get_or (each n f) i 0 ≡ f i
  unfolding each
  each_at zero i lt = absurd (omega arith)
  each_at (suc n) i lt =
      below_suc i n lt
      (λ last. get_or_at (each n f) (f n) [] 0 i (length-each n ∙ sym last) ∙ ap f (sym last))
      (λ less. let long = length-each n in get_or-append (each n f) (f n ∷ []) 0 i (omega (arith, long, less)) ∙ each_at n i less)

  pub is-each : (n : ℕ) (xs : List ℕ) → length xs ≡ n → ((i : ℕ) → i < n → get_or xs i 0 ≡ f i) → xs ≡ each n f
  is-each n xs long at = ext_get_or 0 xs (each n f) (long ∙ sym (length-each n)) (λ i lt. at i (omega (arith, long)) ∙ sym (each_at n i (omega (arith, long))))
