-- Document 01, "Sections by hand": the lines of the listing program, as bytes.
use Rattle.std.specs.Prelude.{ℕ, ◌+◌, List, [], ◌∷◌, ◌++◌, length, codes}
use Rattle.std.specs.Fmt.{decimal}
use Rattle.clip.specs.Fields.{Kind, bone, morph}
use Rattle.strip.specs.{Keys.{map_byte}, Strip.{FieldsKey, Contents}}
use Rattle.strip_reader.specs.Key.{form_of}

-- A number "decimal", as std's formatting writes it, behind a space.
abbrev pub spaced : ℕ → List ℕ
spaced n = codes " " ++ decimal n

-- "`model 1 0 430` (bones, morphs, end)"
unfoldable pub model_line : ℕ → ℕ → ℕ → List ℕ
model_line bones morphs end = codes "model" ++ spaced bones ++ spaced morphs ++ spaced end ++ codes "\n"

-- "`bone 0 0 0` (track, frame, map, decimal; one line a key, morphs likewise)"
abbrev pub name_of : Kind → List ℕ
name_of bone = codes "bone"
name_of morph = codes "morph"

unfoldable pub key_line : List ℕ → ℕ → ℕ → ℕ → List ℕ
key_line name track frame map = name ++ spaced track ++ spaced frame ++ spaced map ++ codes "\n"

-- "`keys 1 loose 0` (all keys, loose)"
unfoldable pub count_line : ℕ → ℕ → List ℕ
count_line keys loose = codes "keys" ++ spaced keys ++ codes " loose" ++ spaced loose ++ codes "\n"

-- "A refusal prints only `refused` and the number."
unfoldable pub refused_line : ℕ → List ℕ
refused_line number = codes "refused" ++ spaced number ++ codes "\n"

-- A line for each key, track by track from 0, in the strip's order.
unfoldable pub track_lines : Kind → ℕ → List FieldsKey → List ℕ
track_lines kind track [] = []
track_lines kind track (k ∷ ks) =
    key_line (name_of kind) track k.frame (map_byte (form_of kind).groups k.body) ++ track_lines kind track ks

unfoldable pub kind_lines : Kind → ℕ → List (List FieldsKey) → List ℕ
kind_lines kind track [] = []
kind_lines kind track (ks ∷ tracks) = track_lines kind track ks ++ kind_lines kind (track + 1) tracks

unfoldable pub key_lines : Contents → List ℕ
key_lines c = kind_lines bone 0 c.bones ++ kind_lines morph 0 c.morphs

-- "all keys"
unfoldable pub keys_in : List (List FieldsKey) → ℕ
keys_in [] = 0
keys_in (ks ∷ tracks) = length ks + keys_in tracks

unfoldable pub all_keys : Contents → ℕ
all_keys c = keys_in c.bones + keys_in c.morphs
