-- The sizes of document 01's record table follow from the items' widths, which add up by computation; of a model record, with its runs of
-- bools and pairs, by the size of a run (`size-run`). Assumes nothing.
use Prim.Native.Nat.{ℕ, zero, suc, ◌+◌, ◌*◌}
use mathlib.Core.List.{List, [], ◌∷◌, ◌++◌}
use mathlib.Core.Path.{◌≡◌, refl}
use native.Mathlib.Nat.{suc-mul, zero-mul}
use native.Mathlib.Omega.{arith}
use lib.ListN.{replicate}
use Rattle.layout.specs.Records.{size, initial, additional, bone, morph, model, camera, light, bone_state, morph_state, constraint_state, parent_state}

-- A run of equal items in front.
pub size-run : (n width : ℕ) (rest : List ℕ) → size (replicate n width ++ rest) ≡ n * width + size rest
unfolding size
size-run zero width rest = omega (arith, zero-mul width)
size-run (suc n) width rest = omega (arith, suc-mul n width, size-run n width rest)

pub bone-sizes : (size (initial bone) ≡ 58) × (size (additional bone) ≡ 62)
unfolding size
bone-sizes = (refl, refl)

pub morph-sizes : (size (initial morph) ≡ 17) × (size (additional morph) ≡ 21)
unfolding size
morph-sizes = (refl, refl)

pub model-sizes : (c p : ℕ) → (size (initial (model c p)) ≡ 14 + c + 8 * p) × (size (additional (model c p)) ≡ 18 + c + 8 * p)
unfolding size
model-sizes c p =
    let bools = size-run c 1 (replicate (2 * p) 4 ++ 1 ∷ []) in
    let pairs = size-run (2 * p) 4 (1 ∷ []) in
    (omega arith, omega arith)

pub camera-sizes : (size (initial camera) ≡ 78) × (size (additional camera) ≡ 82)
unfolding size
camera-sizes = (refl, refl)

pub light-sizes : (size (initial light) ≡ 37) × (size (additional light) ≡ 41)
unfolding size
light-sizes = (refl, refl)

pub state-sizes : (size bone_state ≡ 31) × (size morph_state ≡ 4) × (size constraint_state ≡ 1) × (size parent_state ≡ 16)
unfolding size
state-sizes = (refl, refl, refl, refl)
