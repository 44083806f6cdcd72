-- Document 01, "Records" (FORMAT, Records): the items of each record by their widths in bytes. i32 and f32 are 4 bytes, a bool is 1.
use Rattle.std.specs.Prelude.{ℕ, ◌+◌, ◌*◌, List, [], ◌∷◌, ◌++◌, replicate}

-- A record is as long as its items together.
unfoldable pub size : List ℕ → ℕ
size [] = 0
size (width ∷ widths) = width + size widths

abbrev pub base : List ℕ
base = 4 ∷ 4 ∷ 4 ∷ []  -- "frame, previous link, next link (i32 each)"

abbrev pub initial : List ℕ → List ℕ
initial rest = base ++ rest  -- "an initial record has none"

abbrev pub additional : List ℕ → List ℕ
additional rest = 4 ∷ base ++ rest  -- "an additional record has its index (i32) before them"

-- "interpolation 16 bytes, translation 3 f32, orientation 4 f32, physics disabled bool, selected bool"
abbrev pub bone : List ℕ
bone = 16 ∷ replicate 3 4 ++ replicate 4 4 ++ 1 ∷ 1 ∷ []

abbrev pub morph : List ℕ
morph = 4 ∷ 1 ∷ []  -- "weight f32, selected bool"

abbrev pub pair : List ℕ
pair = 4 ∷ 4 ∷ []  -- one of a model record's "P pairs of i32"

-- "visible bool, C bools, P pairs of i32, self shadow bool"
abbrev pub model : ℕ → ℕ → List ℕ
model constraints parents = 1 ∷ (replicate constraints 1 ++ (replicate (2 * parents) 4 ++ 1 ∷ []))

-- "distance f32, look-at 3 f32, angle 3 f32, parent model i32, parent bone i32, interpolation 24 bytes, perspective byte, fov i32, selected
-- bool"
abbrev pub camera : List ℕ
camera = 4 ∷ replicate 3 4 ++ replicate 3 4 ++ 4 ∷ 4 ∷ 24 ∷ 1 ∷ 4 ∷ 1 ∷ []

abbrev pub light : List ℕ
light = replicate 3 4 ++ replicate 3 4 ++ 1 ∷ []  -- "colour 3 f32, direction 3 f32, selected bool"

-- The states (FORMAT, A model section): "31 bytes a bone (translation, orientation, three bools: dirty, physics disabled, selected), 4 a
-- morph (weight), 1 a constraint (bool), 16 an outside parent (four i32)".
abbrev pub bone_state : List ℕ
bone_state = replicate 3 4 ++ replicate 4 4 ++ 1 ∷ 1 ∷ 1 ∷ []

abbrev pub morph_state : List ℕ
morph_state = 4 ∷ []

abbrev pub constraint_state : List ℕ
constraint_state = 1 ∷ []

abbrev pub parent_state : List ℕ
parent_state = replicate 4 4
