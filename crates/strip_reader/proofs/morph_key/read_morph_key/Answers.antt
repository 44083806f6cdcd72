use Rattle.std.proofs.Common.{sym, ◌∙◌}
use Rattle.strip_reader.proofs.Told.{map-kept}
use Rattle.strip_reader.proofs.morph_key.read_morph_key.Goals as goal

pub returns-clause-map : goal.returns-clause-map
returns-clause-map c = map-kept _ _ _ (sym c.not_of_builder.ensures ∙ c.if-not_of_builder.false)
