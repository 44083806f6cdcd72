-- Document 01, "The strip" (FORMAT, The strip): the groups of fields that a map byte names, and when each is plain.
use Rattle.std.specs.Prelude.{ℕ, ◌+◌, min, Bool, true, false, ◌&&◌, List, [], ◌∷◌, ◌++◌, map, eqb, take, drop}
use Rattle.std.specs.Float.Ieee.{eq}
use Rattle.layout.specs.{Numbers.{float}, Walk.{u32_at}}
use Rattle.clip.specs.Fields.{BoneBody}
use Rattle.strip.specs.Numbers.{little_endian}

-- "every component equals, as a float or byte, its plain value": of a float, by the bits of both.
unfoldable pub plain_float : ℕ → ℕ → Bool
plain_float bits plain = eq (float bits) (float plain)

-- Floats of 4 bytes each from a place on, against the bits of their plain values.
unfoldable pub plain_floats : ℕ → List ℕ → List ℕ → Bool
plain_floats at [] bytes = true
plain_floats at (plain ∷ plains) bytes = plain_float (u32_at bytes at) plain && plain_floats (at + 4) plains bytes

unfoldable pub plain_bytes : List ℕ → List ℕ → Bool
plain_bytes [] bytes = true
plain_bytes (plain ∷ plains) [] = false
plain_bytes (plain ∷ plains) (byte ∷ bytes) = eqb byte plain && plain_bytes plains bytes

-- A group of fields: how many bytes it has, when they are plain, and its "plain value", by its bytes.
pub record Group : Type 0 where
  pub width : ℕ
  pub plain : List ℕ → Bool
  pub value : List ℕ

-- The bytes of floats, given by their bits.
unfoldable pub floats : List ℕ → List ℕ
floats [] = []
floats (bits ∷ others) = little_endian 4 bits ++ floats others

-- The bits of the f32 1.
abbrev pub one : ℕ
one = 0x3f80_0000

-- "each curve 20, 20, 107, 107"
abbrev pub plain_curve : List ℕ
plain_curve = 20 ∷ 20 ∷ 107 ∷ 107 ∷ []

abbrev pub plain_curves : List ℕ
plain_curves = 20 ∷ 20 ∷ 107 ∷ 107 ∷ 20 ∷ 20 ∷ 107 ∷ 107 ∷ 20 ∷ 20 ∷ 107 ∷ 107 ∷ []

-- "bit 0 translation (12 bytes), bit 1 orientation (16), bit 2 the x, y, z curves (12), bit 3 the rotation curve (4)"; "translation 0,
-- orientation 0, 0, 0, 1"
abbrev pub bone_groups : List Group
bone_groups =
    record { width = 12; plain = plain_floats 0 (0 ∷ 0 ∷ 0 ∷ []); value = floats (0 ∷ 0 ∷ 0 ∷ []) }
    ∷ record { width = 16; plain = plain_floats 0 (0 ∷ 0 ∷ 0 ∷ one ∷ []); value = floats (0 ∷ 0 ∷ 0 ∷ one ∷ []) }
    ∷ record { width = 12; plain = plain_bytes plain_curves; value = plain_curves }
    ∷ record { width = 4; plain = plain_bytes plain_curve; value = plain_curve }
    ∷ []

-- "A morph key is frame u32, map byte, and with bit 0 the weight (4)"; "weight 0"
abbrev pub morph_groups : List Group
morph_groups = record { width = 4; plain = plain_floats 0 (0 ∷ []); value = floats (0 ∷ []) } ∷ []

-- "each byte above 127 counts as 127 in a clip"
abbrev pub clamped : List ℕ → List ℕ
clamped = map (λ b. min b 127)

-- The bytes of each group, in the order of the bits.
abbrev pub bone_fields : BoneBody → List (List ℕ)
bone_fields b = b.translation ∷ b.orientation ∷ clamped (take 12 b.interpolation) ∷ clamped (drop 12 b.interpolation) ∷ []

abbrev pub morph_fields : List ℕ → List (List ℕ)
morph_fields weight = weight ∷ []
