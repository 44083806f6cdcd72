use Rattle.std.proofs.Common.{◌+◌, ◌-◌, ◌≡◌, ◌≤◌, ◌++◌, drop, length}
use Rattle.std.specs.Fmt.{decimal}
use Rattle.listing_lines.proofs.decimal.write_digits.Given as goal

-- The digits that are left have room before those that stand.
abbrev pub invariant-loop-left : goal.invariant-loop-left
invariant-loop-left l = record {
  whole : length l.digits ≡ 20;
  room : length (decimal l.left) ≤ l.at;
  within : l.at ≤ 20;
  so_far : decimal l.left ++ drop l.at l.digits ≡ decimal l.n;
}

abbrev pub decreases-loop-left : goal.decreases-loop-left
decreases-loop-left l = l.left + 1 - 10
