-- Every case of specs/AssetPaths, by computation. Assumes nothing.
use mathlib.Core.Path.{refl}
use Rattle.asset_references.specs.Normalize.{one_pass, last_userfile}
use Rattle.asset_references.specs.References.{first_reference, references_within}
use Rattle.section.specs.Limits.{edition1}
use Rattle.answer_cases.specs.Equal.{Equal}
use Rattle.cases.specs.AssetPaths.{HoldPaths, path_cases, four_bytes, limit_cases, index_answers, lists_written}

pub paths_hold : HoldPaths edition1 path_cases × HoldPaths four_bytes limit_cases × Equal index_answers × Equal lists_written
unfolding one_pass last_userfile first_reference references_within
paths_hold = ((refl, (refl, (refl, (refl, (refl, (refl, (refl, (refl, (refl, (refl, (refl, (refl, (refl, (refl, (refl, (refl, (refl, tt))))))))))))))))), (refl, (refl, (refl, (refl, tt)))), (refl, (refl, (refl, (refl, (refl, tt))))), (refl, tt))
