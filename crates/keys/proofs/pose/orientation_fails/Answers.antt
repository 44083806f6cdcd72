-- The bits of the limit are those of 2^-23. Assumes nothing.
use Rattle.clip.specs.Keys.{orientation_fails}
use lib.Ieee.{of_bits}
use Rattle.keys.proofs.pose.orientation_fails.Goals as goal

pub returns : goal.returns
unfolding orientation_fails of_bits
returns c = rw (c.finite3.ensures, c.finite.ensures, c.squared_length.ensures)
