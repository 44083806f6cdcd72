-- What is found in the bytes left, or else the cut so far, is the whole path normalised.
use Rattle.std.proofs.Common.{◌≡◌, drop}
use Rattle.std.specs.Option.{unwrap_or}
use Rattle.asset_references.specs.Normalize.{collapsed, last_userfile, normalize_path}
use Rattle.asset_references.proofs.normalize.normalize_path.Given as goal

abbrev pub invariant-loop-at : goal.invariant-loop-at
invariant-loop-at l = unwrap_or (last_userfile l.here (collapsed (drop l.at l.path))) (collapsed l.cut) ≡ normalize_path l.path
