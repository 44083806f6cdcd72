-- The path left and the bytes of the text left give what the whole of both gives.
use Rattle.std.proofs.Common.{◌≡◌, drop}
use Rattle.asset_references.specs.{Behind.{behind}, Normalize.{collapsed}}
use Rattle.asset_references.proofs.normalize.strip_prefix_ignoring_case.Given as goal

abbrev pub invariant-loop-byte : goal.invariant-loop-byte
invariant-loop-byte l = behind (collapsed l.path) l.text ≡ behind (collapsed l.rest) (drop l.byte-index l.text)
