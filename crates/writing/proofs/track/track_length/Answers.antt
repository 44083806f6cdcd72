-- A key has at most 49 bytes and a chain at most 65,534 records, so the sum of the three parts does not overflow. Assumes nothing.
use native.Mathlib.Omega.{arith}
use Rattle.writing.proofs.OfKind.{key-most}
use Rattle.writing.proofs.Measuring.{chain-most}
use Rattle.writing.proofs.Sums.{records-most}
use Rattle.writing.proofs.track.track_length.Goals as goal

pub overflow_add-result-2 : goal.overflow_add-result-2
overflow_add-result-2 c = omega (arith, key-most, records-most, chain-most c.args.chain.now.ends)
