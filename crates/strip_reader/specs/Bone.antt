-- Of private functions: a bone key's fields, group by group.
use Rattle.std.specs.Prelude.{ℕ, Bool, cond, List, [], ◌∷◌, Result}
use Rattle.layout.specs.Walk.{Answer}
use Rattle.records.specs.Curves.{curves_at}
use Rattle.clip.specs.Keys.{pose_bits_of}
use Rattle.strip.specs.{Plain.{Group}, Strip.{FieldsKey}}
use Rattle.strip_reader.specs.{Front.{Front, ◌>>=◌, give, bytes}, Reads.{read_as}, Key.{bone_body_of}}
use Rattle.strip_reader.specs.declared.{refusal.ReaderRefusal.{ReaderRefusal}, bone_fields.BoneFields.{BoneFields}, bone_key.BoneKeyFields.{BoneKeyFields}, key.BoneKey.{BoneKey}}

abbrev pub fields_of : BoneFields → List (List ℕ)
fields_of f = f.translation ∷ f.orientation ∷ f.curves ∷ f.rotation ∷ []

abbrev pub bone_fields_read : List ℕ → Result (BoneFields × ℕ) ReaderRefusal → Answer (List (List ℕ) × List ℕ)
bone_fields_read strip result = read_as fields_of strip result

-- The groups by whether each bit stands.
unfoldable pub standing_fields : List Group → List Bool → Front (List (List ℕ))
standing_fields [] bits = give []
standing_fields (g ∷ gs) [] = give []
standing_fields (g ∷ gs) (stands ∷ bits) = do
  field ← cond stands (bytes g.width) (give g.value)
  others ← standing_fields gs bits
  give (field ∷ others)

abbrev pub bone_field_key : BoneKeyFields → FieldsKey
bone_field_key k = record { frame = k.frame; body = fields_of k.fields }

abbrev pub bone_key_read : List ℕ → Result (BoneKeyFields × ℕ) ReaderRefusal → Answer (FieldsKey × List ℕ)
bone_key_read strip result = read_as bone_field_key strip result

-- What is told of it, its map as it stands.
abbrev pub bone_key_of : BoneKeyFields → BoneKey
bone_key_of k =
    record {
      frame = k.frame;
      map = k.map;
      pose_bits = pose_bits_of (bone_body_of (fields_of k.fields));
      curves = curves_at (bone_body_of (fields_of k.fields)).interpolation 0;
    }
