-- The chain of a track, which ends, and how far it was followed.
use Rattle.std.specs.Prelude.{ℕ, zero, suc, ◌<◌, ◌≤◌, List, ◌≡◌, length, get_or}
use Rattle.layout.specs.Walk.{answered}
use Rattle.clip.specs.{Fields.{Records}, Chain.{chain}, Build.{chain_of}}
use Rattle.blocks.specs.{Kind.{kind_of}, Block.{links}}
use Rattle.chains.specs.Lookup.{Ordered}
use Rattle.blocks.specs.declared.block.Block.{Block}

abbrev pub chain_at : List ℕ → Block → ℕ → List ℕ
chain_at s b track = chain_of (kind_of b.kind) (links s b) track

-- The chain of a track ends.
pub record Ends (s : List ℕ) (b : Block) (slots : List ℕ) (track : ℕ) : Type 0 where
  pub ordered : Ordered s b slots
  pub is-track : track < b.initials.count
  pub ends : chain (kind_of b.kind) (links s b) track ≡ answered (chain_at s b track)

-- The link that leads to each record of a chain, and the last one, which leads to none.
abbrev pub link_to : {B : Type 0} → Records B → ℕ → List ℕ → ℕ → ℕ
link_to r link ps zero = link
link_to r link ps (suc i) = (r.at (get_or ps i 0)).next

-- The link leads on from the first i records of the chain.
pub record Along (s : List ℕ) (b : Block) (track i link : ℕ) : Type 0 where
  pub most : i ≤ length (chain_at s b track)
  pub linked : link ≡ link_to (links s b) ((links s b).initial track).next (chain_at s b track) i
