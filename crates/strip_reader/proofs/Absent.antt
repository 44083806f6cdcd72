-- Document 02, T-02: "absent fields as their plain values": what is read of fields that were written. Assumes nothing.
use Rattle.std.specs.Prelude.{ℕ, cond, List, [], ◌∷◌, map}
use Rattle.strip.specs.{Plain.{Group, bone_groups, morph_groups}, Strip.{FieldsKey, Contents}}

-- What is read of fields that were written: a plain one is absent.
unfoldable pub filled : List Group → List (List ℕ) → List (List ℕ)
filled [] fields = []
filled (g ∷ gs) [] = []
filled (g ∷ gs) (field ∷ fields) = cond (g.plain field) g.value field ∷ filled gs fields

abbrev pub filled_key : List Group → FieldsKey → FieldsKey
filled_key groups k = record { frame = k.frame; body = filled groups k.body }

abbrev pub filled_tracks : List Group → List (List FieldsKey) → List (List FieldsKey)
filled_tracks groups = map (map (filled_key groups))

abbrev pub filled_contents : Contents → Contents
filled_contents c = record { bones = filled_tracks bone_groups c.bones; morphs = filled_tracks morph_groups c.morphs }
