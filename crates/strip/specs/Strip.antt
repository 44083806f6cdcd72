-- Document 01, "The strip", which is its word (FORMAT, The strip): what a strip holds, and its bytes.
use Rattle.std.specs.Prelude.{ℕ, List, [], ◌∷◌, ◌++◌, map, length}
use Rattle.section.specs.declared.model.Model.{Model}
use Rattle.clip.specs.{Fields.{bone, morph}, Keys.{Key}, Build.{keys}, Section.{bones, morphs}}
use Rattle.strip.specs.{Numbers.{little_endian}, Plain.{Group, bone_groups, bone_fields, morph_groups, morph_fields}, Keys.{key_bytes}, Work.{each}}

-- The bytes of a count: "Bone count u16, morph count u16", "key count u16".
abbrev pub count_width : ℕ
count_width = 2

-- A key by its frame and the bytes of each group, in the order of the bits.
abbrev pub FieldsKey : Type 0
FieldsKey = Key (List (List ℕ))

-- "bone tracks, then morph tracks: .. the keys in chain order"
pub record Contents : Type 0 where
  pub bones : List (List FieldsKey)
  pub morphs : List (List FieldsKey)

module _ {B : Type 0} (groups : List Group) (fields_of : B → List (List ℕ)) where
  unfoldable pub keys_bytes : List (Key B) → List ℕ
  keys_bytes [] = []
  keys_bytes (key ∷ rest) = key_bytes groups fields_of key ++ keys_bytes rest

module _ {B : Type 0} (width : ℕ) (groups : List Group) (fields_of : B → List (List ℕ)) where
  -- "key count u16 and the keys in chain order"
  unfoldable pub track_bytes : List (Key B) → List ℕ
  track_bytes ks = little_endian width (length ks) ++ keys_bytes groups fields_of ks

-- The tracks of a kind, one behind the other.
unfoldable pub tracks_bytes : ℕ → List Group → List (List FieldsKey) → List ℕ
tracks_bytes width groups [] = []
tracks_bytes width groups (track ∷ tracks) = track_bytes width groups (λ fields. fields) track ++ tracks_bytes width groups tracks

-- "Bone count u16, morph count u16; then bone tracks, then morph tracks"
unfoldable pub strip_bytes : ℕ → Contents → List ℕ
strip_bytes width c =
    little_endian width (length c.bones)
    ++ little_endian width (length c.morphs)
    ++ tracks_bytes width bone_groups c.bones
    ++ tracks_bytes width morph_groups c.morphs

abbrev pub with_fields : {B : Type 0} → (B → List (List ℕ)) → Key B → FieldsKey
with_fields fields_of key = record { frame = key.frame; body = fields_of key.body }

module _ (s : List ℕ) (m : Model) where
  -- What the strip of a section holds: its clip's keys.
  unfoldable pub clip_contents : Contents
  clip_contents =
      record {
        bones = each (bones s m).tracks (λ t. map (with_fields bone_fields) (keys bone (bones s m) t));
        morphs = each (morphs s m).tracks (λ t. map (with_fields morph_fields) (keys morph (morphs s m) t));
      }

unfoldable pub strip_of : ℕ → List ℕ → Model → List ℕ
strip_of width s m = strip_bytes width (clip_contents s m)
