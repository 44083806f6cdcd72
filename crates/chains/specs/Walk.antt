-- What a walk along a chain answers.
use Rattle.std.specs.Prelude.{ℕ, ◌<◌, List, ◌≡◌, take, Result, Ok, Err}
use Rattle.layout.specs.Walk.{Answer, answered, declined}
use Rattle.clip.specs.Chain.{chain}
use Rattle.blocks.specs.{Kind.{kind_of}, Block.{links}, Fault.{fault_of}}
use Rattle.chains.specs.Chain.{chain_at}
use Rattle.blocks.specs.declared.{block.Block.{Block}, fault.Fault.{Fault}}

-- The records of the chain stand at the front of the second work slice.
abbrev pub walked_read : List ℕ → Result ℕ Fault → Answer (List ℕ)
walked_read list (Ok n) = answered (take n list)
walked_read list (Err fault) = declined (fault_of fault)

-- Every track's chain ends.
abbrev pub AllEnd : List ℕ → Block → Type 0
AllEnd s b = (t : ℕ) → t < b.initials.count → chain (kind_of b.kind) (links s b) t ≡ answered (chain_at s b t)
