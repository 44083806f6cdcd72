-- Records found by their index, in the first work slice.
use Rattle.std.specs.Prelude.{ℕ, List, ◌≡◌, Option, Some, None}
use Rattle.std.proofs.Math.Option as maybe
use Rattle.clip.specs.Scan.{Indexed}
use Rattle.strip.specs.Work.{by_index}
use Rattle.blocks.specs.Block.{Fits, links}
use Rattle.blocks.specs.declared.block.Block.{Block}
use Rattle.chains.specs.declared.standing.Standing.{Standing}

-- The index scan has passed, and the slots hold the positions by rising index.
pub record Ordered (s : List ℕ) (b : Block) (slots : List ℕ) : Type 0 where
  pub fits : Fits s b
  pub indexed : Indexed (links s b)
  pub positions : slots ≡ by_index (links s b) b.records.count

abbrev pub found_read : Option Standing → maybe.Option ℕ
found_read (Some at) = maybe.some at.position
found_read None = maybe.none
