-- The bytes of four curves are those of the first three and of the fourth: where neither group is plain all are written at once, and where
-- both are plain none is. Assumes nothing.
use Prim.Native.Nat.{ℕ}
use native.Mathlib.Omega.{arith}
use mathlib.Core.Bool.{true, false}
use mathlib.Core.List.{List, [], ◌∷◌, ◌++◌, append_assoc, append-nil}
use mathlib.Core.Path.{◌≡◌, ◌∙◌}
use lib.ListN.{length, get_or}
use Rattle.std.specs.List.{flat_map}
use Rattle.keys.specs.Placed.{Wrote, three_curves, curve_bytes}
use Rattle.keys.specs.declared.plain.BonePlain.{BonePlain}
use Rattle.keys.proofs.Placing.{wrote_none}

-- Four elements, each equal to another.
pub four : {A : Type 0} {a b c d w x y z : A} → a ≡ w → b ≡ x → c ≡ y → d ≡ z → a ∷ b ∷ c ∷ d ∷ [] ≡ w ∷ x ∷ y ∷ z ∷ []
four p q r s = cc

-- Four curves, flattened.
all-flat : (cs : List (List ℕ)) → length cs ≡ 4 → flat_map (λ x. x) cs ≡ three_curves cs ++ get_or cs 3 []
all-flat [] l = absurd (omega arith)
all-flat (a ∷ []) l = absurd (omega arith)
all-flat (a ∷ b ∷ []) l = absurd (omega arith)
all-flat (a ∷ b ∷ c ∷ []) l = absurd (omega arith)
all-flat (a ∷ b ∷ c ∷ d ∷ []) l = simp (append_assoc, append-nil)
all-flat (a ∷ b ∷ c ∷ d ∷ e ∷ cs) l = absurd (omega arith)

module _ (p : BonePlain) (cs : List (List ℕ)) where
  pub all-bytes : length cs ≡ 4 → p.curves ≡ false → p.rotation ≡ false → flat_map (λ x. x) cs ≡ curve_bytes p cs
  all-bytes l c r = all-flat cs l ∙ rw (c, r)

  -- Plain curves are not written.
  pub none_written : (place : ℕ) (old : List ℕ) → p.curves ≡ true → p.rotation ≡ true → Wrote place (curve_bytes p cs) old place old
  none_written place old c r = rw (c, r) (wrote_none place old)

pub ruleset curves = (all-bytes, none_written)
