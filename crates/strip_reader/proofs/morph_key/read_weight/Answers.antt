use Rattle.std.proofs.Common.{[], ◌∷◌, drop, sym, ap, ◌∙◌}
use Rattle.layout.specs.Walk.{answered}
use Rattle.clip.specs.Fields.{morph}
use Rattle.strip.specs.{Numbers.{little_endian}, Plain.{floats}}
use Rattle.strip_reader.specs.Front.{and_then}
use Rattle.strip_reader.specs.Key.{form_of, fields}
use Rattle.strip_reader.specs.Reads.{known_fields}
use Rattle.strip_reader.proofs.MorphKeys.{as-fields}
use Rattle.strip_reader.proofs.morph_key.read_weight.Goals as goal

pub returns-in-0 : goal.returns-in-0
unfolding known_fields fields floats little_endian
returns-in-0 c = as-fields _ _ ∙ ap (λ a. and_then a (λ field left. answered (field ∷ [], left))) c.read_field.ensures ∙ ap (λ map. known_fields (form_of morph) map (drop c.args.at c.args.strip.now)) (sym c.in-0.is)
