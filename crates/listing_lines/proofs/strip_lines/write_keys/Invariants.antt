use Rattle.std.proofs.Common.{ℕ, ◌-◌, ◌≡◌, ◌≤◌, List, length, drop}
use Rattle.layout.specs.Walk.{answered}
use Rattle.section.specs.Limits.{edition1}
use Rattle.strip.specs.Strip.{count_width, Contents}
use Rattle.strip_reader.specs.{Read.{read_strip}, Answers.{rows}}
use Rattle.listing_lines.specs.{Written.{Written}, Lines.{key_lines}, Rows.{row_lines}}
use Rattle.listing_lines.proofs.strip_lines.write_keys.Given as goal

-- Who writes the lines of the keys that are left has written them all.
abbrev pub invariant-loop-first : goal.invariant-loop-first
invariant-loop-first l = record {
  long : length l.rows ≡ 8192;
  within : l.end ≤ length l.output;
  met : l.first ≤ l.count;
  all :
      (c : Contents) → read_strip edition1 count_width l.strip ≡ answered c
      → (last : ℕ) (new : List ℕ) → Written l.end (row_lines (drop l.first (rows c))) l.output last new
      → Written l.at (key_lines c) l.initial.output last new;
}

abbrev pub decreases-loop-first : goal.decreases-loop-first
decreases-loop-first l = l.count - l.first
