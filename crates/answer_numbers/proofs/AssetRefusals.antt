-- The refusals of a path and a list have no value, so nothing is written. Assumes nothing.
use Rattle.std.proofs.Common.{◌≡◌, ℕ, List, arith, sym}
use Rattle.asset_references.specs.Answers.{asset_refusal}
use Rattle.asset_references.specs.declared.refusal.AssetRefusal.{AssetRefusal}
use Rattle.answer_numbers.specs.Answers.{Refuses}
use Rattle.answer_numbers.proofs.Putting.{put-none}

pub asset-refused : (why : AssetRefusal) (values : List ℕ) (returned : ℕ) → returned ≡ (asset_refusal why).number → Refuses (asset_refusal why) values returned values
asset-refused AssetRefusal.TooLong values returned is = record { returns = is; some = omega arith; writes = sym (put-none 0 values) }
asset-refused AssetRefusal.ListCutOff values returned is = record { returns = is; some = omega arith; writes = sym (put-none 0 values) }
asset-refused AssetRefusal.NotAscii values returned is = record { returns = is; some = omega arith; writes = sym (put-none 0 values) }

pub ruleset asset_refusals = (asset-refused)
