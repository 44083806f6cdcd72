-- Document 01, "The strip" (FORMAT, The strip): which groups of a bone key are plain, by their bits.
use Rattle.std.specs.Prelude.{ℕ, zero, suc, ◌+◌, Bool, false, cond, List, [], ◌∷◌}
use Rattle.clip.specs.Fields.{BoneBody}
use Rattle.strip.specs.Plain.{Group, bone_groups, bone_fields}
use Rattle.keys.specs.declared.plain.BonePlain.{BonePlain}

-- Whether the group of a bit is plain.
abbrev pub plain_in : List Group → List (List ℕ) → ℕ → Bool
plain_in [] fields bit = false
plain_in (g ∷ gs) [] bit = false
plain_in (g ∷ gs) (field ∷ fields) zero = g.plain field
plain_in (g ∷ gs) (field ∷ fields) (suc bit) = plain_in gs fields bit

abbrev pub bone_plain : BoneBody → BonePlain
bone_plain b =
    record {
      translation = plain_in bone_groups (bone_fields b) 0;
      orientation = plain_in bone_groups (bone_fields b) 1;
      curves = plain_in bone_groups (bone_fields b) 2;
      rotation = plain_in bone_groups (bone_fields b) 3;
    }

-- The sum of one number for each group that is not plain. "A bit stands unless every component equals .. its plain value": of the bits
-- 1, 2, 4, 8 it is the map byte, and of the widths 12, 16, 12, 4 how many bytes follow it.
abbrev pub standing : ℕ → ℕ → ℕ → ℕ → BonePlain → ℕ
standing a b c d p = cond p.translation 0 a + cond p.orientation 0 b + cond p.curves 0 c + cond p.rotation 0 d
