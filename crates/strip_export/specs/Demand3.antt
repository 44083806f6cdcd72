-- Demand 3 as a caller in C sees it. What it says of any two sections (strip, specs/Demand3) is said of the sections that are accepted and
-- of their strips: in C, 0 is returned of just these, and the strip is the output up to the first of the values. The proof is in
-- proofs/Seen.antt.
use Rattle.std.specs.Prelude.{◌<◌, ◌↔◌, ◌≡◌, length, take, get_or}
use Rattle.section.specs.Limits.{edition1}
use Rattle.strip.specs.{Strip.{count_width}, Runs.{Accepted, strip_out}}
use Rattle.strip_export.specs.Run.{Run}

pub record Seen (x : Run) : Type 0 where
  pub accepted : (x.returned ≡ 0) ↔ Accepted edition1 count_width x.lent
  pub strip : 0 < length x.before → (a : Accepted edition1 count_width x.lent) → take (get_or x.values 0 0) x.output ≡ strip_out edition1 count_width x.lent a
