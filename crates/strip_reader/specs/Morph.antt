-- Of private functions: a morph key's one field.
use Rattle.std.specs.Prelude.{ℕ, List, [], ◌∷◌, Result}
use Rattle.layout.specs.Walk.{Answer, u32_at}
use Rattle.strip.specs.Strip.{FieldsKey}
use Rattle.strip_reader.specs.Reads.{read_as}
use Rattle.strip_reader.specs.declared.{refusal.ReaderRefusal.{ReaderRefusal}, morph_key.MorphKeyFields.{MorphKeyFields}, key.MorphKey.{MorphKey}}

abbrev pub weight_read : List ℕ → Result (List ℕ × ℕ) ReaderRefusal → Answer (List (List ℕ) × List ℕ)
weight_read strip result = read_as (λ weight. weight ∷ []) strip result

abbrev pub morph_field_key : MorphKeyFields → FieldsKey
morph_field_key k = record { frame = k.frame; body = k.weight ∷ [] }

abbrev pub morph_key_read : List ℕ → Result (MorphKeyFields × ℕ) ReaderRefusal → Answer (FieldsKey × List ℕ)
morph_key_read strip result = read_as morph_field_key strip result

-- What is told of it, its map as it stands.
abbrev pub morph_key_of : MorphKeyFields → MorphKey
morph_key_of k = record { frame = k.frame; map = k.map; weight_bits = u32_at k.weight 0 }
