-- The marks of one chain, and the counts of a build.
use Rattle.std.specs.Prelude.{ℕ, List, [], ◌∷◌, set}
use Rattle.clip.specs.Build as Build
use Rattle.blocks.specs.{Kind.{kind_of}, Block.{links}}
use Rattle.blocks.specs.declared.block.Block.{Block}
use Rattle.marks.specs.declared.counts.Counts.{Counts}

-- A mark at the place of each record of a chain.
abbrev pub marked : ℕ → List ℕ → List ℕ → List ℕ
marked mark [] marks = marks
marked mark (p ∷ ps) marks = marked mark ps (set marks p mark)

-- (FORMAT, The build) "15 unreached records with a nonzero link (how many)"; "reached (links followed) and loose (unreached additional
-- records, both links 0)"
abbrev pub counts_of : List ℕ → Block → Counts
counts_of s b =
    record {
      disconnected = Build.disconnected (kind_of b.kind) (links s b);
      reached = Build.links_followed (kind_of b.kind) (links s b);
      loose = Build.loose (kind_of b.kind) (links s b);
    }
