use Rattle.std.proofs.Common.{ℕ, ◌≤◌, List, length, drop}
use Rattle.listing_lines.specs.{Written.{Written}, Rows.{row_lines}}
use Rattle.listing_lines.proofs.rows.write_rows.Given as goal

-- Who writes the lines that are left has written them all.
abbrev pub invariant-loop-row : goal.invariant-loop-row
invariant-loop-row l = record {
  within : l.end ≤ length l.output;
  all : (last : ℕ) (new : List ℕ) → Written l.end (row_lines (drop l.row-index l.rows)) l.output last new → Written l.at (row_lines l.rows) l.initial.output last new;
}
