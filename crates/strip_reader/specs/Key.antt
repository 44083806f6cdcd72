-- Document 02, T-02 (FORMAT, Strips read back): one key of a strip.
use Rattle.std.specs.Prelude.{ℕ, ◌^◌, ◌/◌, ◌%◌, Bool, true, false, not, ◌||◌, cond, List, [], ◌∷◌, ◌++◌, length, get_or, eqb, leb, ltb}
use Rattle.std.specs.List.{list_any}
use Rattle.std.proofs.Math.Option.{Option, none, some}
use Rattle.layout.specs.{Refusals.{unknown_map, never_written}, Numbers.{negative}}
use Rattle.clip.specs.{Fields.{BoneBody, Kind, bone, morph}, Keys.{pose_asked, posed, weight_asked, float_at}}
use Rattle.strip.specs.{Plain.{Group, bone_groups, morph_groups}, Keys.{map_byte}, Strip.{FieldsKey}}
use Rattle.strip_reader.specs.Front.{Front, ◌>>=◌, ◌>>◌, give, refuse_if, bytes, number}

-- What keys of a kind are read by: the groups that a map byte names, and whether the fields of a key are refused.
pub record Form : Type 0 where
  pub groups : List Group
  pub refused : List (List ℕ) → Bool

abbrev pub some_byte_above : ℕ → List ℕ → Bool
some_byte_above limit bytes = list_any (λ byte. ltb limit byte) bytes

abbrev pub is_refused : Option ℕ → Bool
is_refused none = false
is_refused (some number) = true

-- The body of a record that has these fields.
abbrev pub bone_body_of : List (List ℕ) → BoneBody
bone_body_of fields =
    record {
      interpolation = get_or fields 2 [] ++ get_or fields 3 [];
      translation = get_or fields 0 [];
      orientation = get_or fields 1 [];
    }

-- "a curve byte above 127, a float or orientation that 12 to 14 would stop"
unfoldable pub bone_refused : List (List ℕ) → Bool
bone_refused fields =
    some_byte_above 127 (bone_body_of fields).interpolation || is_refused (pose_asked (posed (bone_body_of fields)))

unfoldable pub morph_refused : List (List ℕ) → Bool
morph_refused fields = is_refused (weight_asked (float_at (get_or fields 0 []) 0))

abbrev pub form_of : Kind → Form
form_of bone = record { groups = bone_groups; refused = bone_refused }
form_of morph = record { groups = morph_groups; refused = morph_refused }

-- "A map byte names which fields follow and how long the key is"; "absent fields as their plain values"
unfoldable pub fields : List Group → ℕ → Front (List (List ℕ))
fields [] map = give []
fields (g ∷ gs) map = do
  field ← cond (eqb (map % 2) 1) (bytes g.width) (give g.value)
  others ← fields gs (map / 2)
  give (field ∷ others)

-- 25, "what the builder never writes: a plain field present", so that the map is not the one of these fields; "a frame above
-- 2,147,483,647".
unfoldable pub not_of_builder : Form → ℕ → FieldsKey → Bool
not_of_builder form map key =
    not (eqb map (map_byte form.groups key.body)) || form.refused key.body || negative key.frame

-- "24 a bone map from 16 to 255 or a morph map from 2 to 255"; "25 at the end of the key concerned".
unfoldable pub key : Form → Front FieldsKey
key form = do
  frame ← number 4
  map ← number 1
  refuse_if (leb (2 ^ length form.groups) map) unknown_map
  body ← fields form.groups map
  refuse_if (not_of_builder form map (record { frame = frame; body = body })) never_written
  give (record { frame = frame; body = body })
