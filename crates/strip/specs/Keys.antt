-- Document 01, "The strip" (FORMAT, The strip; of keys that are alike, Two sections, one strip): a key's bytes, and when two keys are
-- alike.
use Rattle.std.specs.Prelude.{ℕ, ◌+◌, ◌*◌, true, cond, List, [], ◌∷◌, ◌++◌, ◌⊎◌, ◌≡◌}
use Rattle.clip.specs.Keys.{Key}
use Rattle.strip.specs.{Numbers.{little_endian}, Plain.{Group}}

-- "A bit stands unless every component equals .. its plain value"
unfoldable pub map_byte : List Group → List (List ℕ) → ℕ
map_byte [] fields = 0
map_byte (g ∷ gs) [] = 0
map_byte (g ∷ gs) (field ∷ fields) = cond (g.plain field) 0 1 + 2 * map_byte gs fields

-- "then only the fields whose bit stands"
unfoldable pub present : List Group → List (List ℕ) → List ℕ
present [] fields = []
present (g ∷ gs) [] = []
present (g ∷ gs) (field ∷ fields) = cond (g.plain field) [] field ++ present gs fields

module _ {B : Type 0} (groups : List Group) (fields_of : B → List (List ℕ)) where
  -- "A bone key is frame u32 and a map byte, then only the fields whose bit stands"
  unfoldable pub key_bytes : Key B → List ℕ
  key_bytes key = little_endian 4 key.frame ++ map_byte groups (fields_of key.body) ∷ present groups (fields_of key.body)

-- "each group that a bit names is plain in both or the same in both, bit for bit"
abbrev pub SameFields : List Group → List (List ℕ) → List (List ℕ) → Type 0
SameFields [] fields₁ fields₂ = Unit {0}
SameFields (g ∷ gs) [] fields₂ = Unit {0}
SameFields (g ∷ gs) (field₁ ∷ fields₁) [] = Unit {0}
SameFields (g ∷ gs) (field₁ ∷ fields₁) (field₂ ∷ fields₂) =
    (((g.plain field₁ ≡ true) × (g.plain field₂ ≡ true)) ⊎ (field₁ ≡ field₂)) × SameFields gs fields₁ fields₂

module _ {B : Type 0} (groups : List Group) (fields_of : B → List (List ℕ)) where
  -- "Two keys are alike if their frames are equal and each group .."
  pub record Alike (key₁ key₂ : Key B) : Type 0 where
    pub frames : key₁.frame ≡ key₂.frame
    pub fields : SameFields groups (fields_of key₁.body) (fields_of key₂.body)

  -- As many keys in both, those in the same place alike.
  abbrev pub AlikeKeys : List (Key B) → List (Key B) → Type 0
  AlikeKeys [] [] = Unit {0}
  AlikeKeys [] (key₂ ∷ keys₂) = ⊥
  AlikeKeys (key₁ ∷ keys₁) [] = ⊥
  AlikeKeys (key₁ ∷ keys₁) (key₂ ∷ keys₂) = Alike key₁ key₂ × AlikeKeys keys₁ keys₂
