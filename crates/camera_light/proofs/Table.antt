-- Camera and light records, read field by field, walk the items of document 01's record table, as bone records do (records, Table): each
-- field its own items, one behind the other (layout, Walks). Assumes nothing.
use Prim.Native.Nat.{ℕ}
use mathlib.Core.Bool.{Bool, true, false}
use mathlib.Core.List.{List, [], ◌∷◌, ◌++◌}
use lib.ListN.{replicate}
use Rattle.layout.specs.Walk.{block, bool, u32}
use Rattle.layout.specs.Records.{base, initial, additional, camera, light}
use Rattle.layout.proofs.Walks.{Walks, walks-give, walks-item, walks-then, walks-bool, walks-u32}
use Rattle.binary.specs.Groups.{u32s}
use Rattle.records.specs.Base.{base_bits}
use Rattle.records.proofs.Table.{u32s-walks, initial-base-walks, additional-base-walks}
use Rattle.camera_light.specs.Camera.{view_bits, lens_bits, camera_bits}
use Rattle.camera_light.specs.Light.{light_bits}

view-walks : Walks view_bits (replicate 9 4)
unfolding view_bits
view-walks =
    walks-then u32 _ (4 ∷ []) (replicate 8 4) walks-u32
    (λ d. walks-then (u32s 3) _ (replicate 3 4) (replicate 5 4) (u32s-walks 3)
    (λ l. walks-then (u32s 3) _ (replicate 3 4) (replicate 2 4) (u32s-walks 3)
    (λ a. walks-then u32 _ (4 ∷ []) (4 ∷ []) walks-u32 (λ m. walks-then u32 _ (4 ∷ []) [] walks-u32 (λ b. walks-give _)))))

lens-walks : Walks lens_bits (24 ∷ 1 ∷ 4 ∷ 1 ∷ [])
unfolding lens_bits
lens-walks =
    walks-then (block 24) _ (24 ∷ []) (1 ∷ 4 ∷ 1 ∷ []) (walks-item 24 _)
    (λ u. walks-then bool _ (1 ∷ []) (4 ∷ 1 ∷ []) walks-bool
    (λ p. walks-then u32 _ (4 ∷ []) (1 ∷ []) walks-u32 (λ f. walks-then bool _ (1 ∷ []) [] walks-bool (λ e. walks-give _))))

-- A record whose base walks `front`.
module _ (include_index : Bool) (front : List ℕ) (front-walks : Walks (base_bits include_index) front) where
  camera-walks : Walks (camera_bits include_index) (front ++ camera)
  unfolding camera_bits
  camera-walks =
      walks-then (base_bits include_index) _ front camera front-walks
      (λ b. walks-then view_bits _ (replicate 9 4) (24 ∷ 1 ∷ 4 ∷ 1 ∷ []) view-walks
      (λ v. walks-then lens_bits _ (24 ∷ 1 ∷ 4 ∷ 1 ∷ []) [] lens-walks (λ l. walks-give _)))

  light-walks : Walks (light_bits include_index) (front ++ light)
  unfolding light_bits
  light-walks =
      walks-then (base_bits include_index) _ front light front-walks
      (λ b. walks-then (u32s 3) _ (replicate 3 4) (replicate 3 4 ++ 1 ∷ []) (u32s-walks 3)
      (λ c. walks-then (u32s 3) _ (replicate 3 4) (1 ∷ []) (u32s-walks 3) (λ d. walks-then bool _ (1 ∷ []) [] walks-bool (λ e. walks-give _))))

pub cameras-walk : Walks (camera_bits false) (initial camera) × Walks (camera_bits true) (additional camera)
cameras-walk = (camera-walks false base initial-base-walks, camera-walks true (4 ∷ base) additional-base-walks)

pub lights-walk : Walks (light_bits false) (initial light) × Walks (light_bits true) (additional light)
lights-walk = (light-walks false base initial-base-walks, light-walks true (4 ∷ base) additional-base-walks)
