-- Indices in range, and indices that rise.
use Rattle.std.specs.Prelude.{ℕ, ◌≤◌, ◌<◌, ◌⊎◌, List}
use Rattle.layout.specs.Numbers.{least_negative}
use Rattle.blocks.specs.Block.{links}
use Rattle.blocks.specs.declared.block.Block.{Block}

-- Neither 3 nor 4 is met at the first n records, and one of them at the next.
pub record InRange (s : List ℕ) (b : Block) (n : ℕ) : Type 0 where
  pub most : n ≤ b.records.count
  pub positive : (p : ℕ) → p < n → ((links s b).at p).index < least_negative
  pub above : (p : ℕ) → p < n → b.initials.count ≤ ((links s b).at p).index
  pub next : n < b.records.count → (least_negative ≤ ((links s b).at n).index) ⊎ (((links s b).at n).index < b.initials.count)

-- The indices rise in file order, and all are in range.
pub record IndicesRise (s : List ℕ) (b : Block) : Type 0 where
  pub positive : (p : ℕ) → p < b.records.count → ((links s b).at p).index < least_negative
  pub above : (p : ℕ) → p < b.records.count → b.initials.count ≤ ((links s b).at p).index
  pub rise : (p q : ℕ) → p < q → q < b.records.count → ((links s b).at p).index < ((links s b).at q).index
