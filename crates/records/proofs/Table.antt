-- Each record and state, read field by field, walks the items of document 01's record table, each field its own items, one behind the other
-- (layout, Walks): where those are whole it is read, and it ends where they end. Assumes nothing.
use Prim.Native.Nat.{ℕ, zero, suc, ◌*◌}
use Rattle.std.proofs.lemmas.List.{append-nil}
use mathlib.Core.Bool.{Bool, true, false}
use mathlib.Core.List.{List, [], ◌∷◌, ◌++◌}
use lib.ListN.{replicate}
use Rattle.std.specs.Prelude.{None}
use Rattle.layout.specs.Walk.{block, bool, u32, times, items, here}
use Rattle.layout.specs.Records.{base, initial, additional, bone, morph, model, bone_state, constraint_state, pair}
use Rattle.layout.proofs.Walks.{Walks, walks-give, walks-here, walks-item, walks-then, walks-bool, walks-u32, walks-bools, walks-pairs}
use Rattle.binary.specs.Groups.{u32s}
use Rattle.records.specs.Base.{index_bits, base_bits}
use Rattle.records.specs.Pose.{pose_bits}
use Rattle.records.specs.Keyframes.{bone_bits, morph_bits, model_bits}
use Rattle.records.specs.States.{bone_state as bone_state_bits}

pub u32s-walks : (n : ℕ) → Walks (u32s n) (replicate n 4)
unfolding u32s
u32s-walks zero = walks-give []
u32s-walks (suc n) =
    rw (← append-nil {A = ℕ} (replicate n 4)) (walks-then u32 _ (4 ∷ []) (replicate n 4 ++ []) walks-u32
    (λ a. walks-then (u32s n) _ (replicate n 4) [] (u32s-walks n) (λ others. walks-give _)))

-- A base whose index, if it has one, walks `index`.
base-walks : (include_index : Bool) (index : List ℕ) → Walks (index_bits include_index) index → Walks (base_bits include_index) (index ++ base)
unfolding base_bits
base-walks include_index index index-walks =
    walks-then (index_bits include_index) _ index base index-walks
    (λ i. walks-then u32 _ (4 ∷ []) (4 ∷ 4 ∷ []) walks-u32
    (λ f. walks-then u32 _ (4 ∷ []) (4 ∷ []) walks-u32
    (λ p. walks-then u32 _ (4 ∷ []) [] walks-u32 (λ l. walks-then here _ [] [] walks-here (λ o. walks-give _)))))

pub initial-base-walks : Walks (base_bits false) base
initial-base-walks = base-walks false [] (walks-give None)

pub additional-base-walks : Walks (base_bits true) (4 ∷ base)
additional-base-walks = base-walks true (4 ∷ []) (walks-then u32 _ (4 ∷ []) [] walks-u32 (λ i. walks-give _))

pub pose-walks : Walks pose_bits (replicate 7 4)
unfolding pose_bits
pose-walks = walks-then (u32s 3) _ (replicate 3 4) (replicate 4 4) (u32s-walks 3) (λ t. walks-then (u32s 4) _ (replicate 4 4) [] (u32s-walks 4) (λ o. walks-give _))

-- A record whose base walks `front`.
module _ (include_index : Bool) (front : List ℕ) (front-walks : Walks (base_bits include_index) front) where
  bone-walks : Walks (bone_bits include_index) (front ++ bone)
  unfolding bone_bits
  bone-walks =
      walks-then (base_bits include_index) _ front bone front-walks
      (λ b. walks-then (block 16) _ (16 ∷ []) (replicate 7 4 ++ 1 ∷ 1 ∷ []) (walks-item 16 _)
      (λ u. walks-then pose_bits _ (replicate 7 4) (1 ∷ 1 ∷ []) pose-walks
      (λ p. walks-then bool _ (1 ∷ []) (1 ∷ []) walks-bool (λ d. walks-then bool _ (1 ∷ []) [] walks-bool (λ e. walks-give _)))))

  morph-walks : Walks (morph_bits include_index) (front ++ morph)
  unfolding morph_bits
  morph-walks =
      walks-then (base_bits include_index) _ front morph front-walks
      (λ b. walks-then u32 _ (4 ∷ []) (1 ∷ []) walks-u32 (λ w. walks-then bool _ (1 ∷ []) [] walks-bool (λ e. walks-give _)))

  model-walks : (c p : ℕ) → Walks (model_bits include_index c p) (front ++ model c p)
  unfolding model_bits
  model-walks c p =
      let tail : List ℕ = replicate (2 * p) 4 ++ 1 ∷ [] in
      walks-then (base_bits include_index) _ front (model c p) front-walks
      (λ b. walks-then bool _ (1 ∷ []) (replicate c 1 ++ tail) walks-bool
      (λ v. walks-then here _ [] (replicate c 1 ++ tail) walks-here
      (λ bools. walks-then (times c (items constraint_state)) _ (replicate c 1) tail (walks-bools c)
      (λ u. walks-then here _ [] tail walks-here
      (λ pairs. walks-then (times p (items pair)) _ (replicate (2 * p) 4) (1 ∷ []) (walks-pairs p)
      (λ w. walks-then here _ [] (1 ∷ []) walks-here
      (λ shadow. walks-then bool _ (1 ∷ []) [] walks-bool (λ e. walks-give _))))))))

pub bones-walk : Walks (bone_bits false) (initial bone) × Walks (bone_bits true) (additional bone)
bones-walk = (bone-walks false base initial-base-walks, bone-walks true (4 ∷ base) additional-base-walks)

pub morphs-walk : Walks (morph_bits false) (initial morph) × Walks (morph_bits true) (additional morph)
morphs-walk = (morph-walks false base initial-base-walks, morph-walks true (4 ∷ base) additional-base-walks)

pub models-walk : (c p : ℕ) → Walks (model_bits false c p) (initial (model c p)) × Walks (model_bits true c p) (additional (model c p))
models-walk c p = (model-walks false base initial-base-walks c p, model-walks true (4 ∷ base) additional-base-walks c p)

pub bone-states-walk : Walks bone_state_bits bone_state
unfolding bone_state_bits
bone-states-walk =
    walks-then pose_bits _ (replicate 7 4) (1 ∷ 1 ∷ 1 ∷ []) pose-walks
    (λ p. walks-then bool _ (1 ∷ []) (1 ∷ 1 ∷ []) walks-bool
    (λ d. walks-then bool _ (1 ∷ []) (1 ∷ []) walks-bool (λ e. walks-then bool _ (1 ∷ []) [] walks-bool (λ f. walks-give _))))
