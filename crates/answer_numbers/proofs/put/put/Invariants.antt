-- The first `i` items are written, and the slice has as many places as before.
use Rattle.std.proofs.Common.{◌≡◌}
use lib.ListN.{take}
use Rattle.answer_numbers.specs.Put.{put}
use Rattle.answer_numbers.proofs.put.put.Given as goal

abbrev pub invariant-loop-i : goal.invariant-loop-i
invariant-loop-i g l = l.slice ≡ put l.at (take l.i l.items) l.initial.slice
