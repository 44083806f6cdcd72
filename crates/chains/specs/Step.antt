-- A step along a chain.
use Rattle.std.specs.Prelude.{ℕ, List, ◌≡◌, Option, Some, None}
use Rattle.std.proofs.Math.Option as maybe
use Rattle.clip.specs.Scan.{record_of}
use Rattle.blocks.specs.Block.{links}
use Rattle.blocks.specs.declared.block.Block.{Block}
use Rattle.chains.specs.declared.step.Step.{Step}

-- The record of a link, and the link that leads on from it.
pub record Reaches (s : List ℕ) (b : Block) (link : ℕ) (step : Step) : Type 0 where
  pub bears : maybe.some step.position ≡ record_of (links s b) link
  pub next : step.next ≡ ((links s b).at step.position).next

abbrev pub Leads : List ℕ → Block → ℕ → Option Step → Type 0
Leads s b link (Some step) = Reaches s b link step
Leads s b link None = maybe.none ≡ record_of (links s b) link
