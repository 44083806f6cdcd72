-- One chain marked, record by record: marking what is left of it gives what marking all of it gave at the beginning, and the records passed
-- and those left are as many as the chain has (`Following`). Assumes nothing.
use Prim.Native.Nat.{ℕ, ◌+◌, ◌<◌}
use native.Mathlib.Omega.{arith}
use mathlib.Core.List.{List, [], ◌∷◌}
use mathlib.Core.Path.{◌≡◌, sym, ap, ◌∙◌}
use lib.ListN.{length, set}
use Rattle.clip.proofs.Counting.{AllBelow}
use Rattle.clip.proofs.Chained.{all-below}
use Rattle.blocks.specs.Block.{links}
use Rattle.blocks.specs.declared.block.Block.{Block}
use Rattle.chains.specs.Chain.{chain_at, Ends}
use Rattle.chains.proofs.AlongChain.{chained}
use Rattle.marks.specs.Marks.{marked}

-- The records left, and how many were passed.
pub record Following (s : List ℕ) (b : Block) (track : ℕ) (before marks left : List ℕ) (n : ℕ) : Type 0 where
  pub below : AllBelow b.records.count left
  pub many : n + length left ≡ length (chain_at s b track)
  pub to-mark : marked (track + 1) (chain_at s b track) before ≡ marked (track + 1) left marks

pub begins : {s : List ℕ} {b : Block} {slots : List ℕ} {track : ℕ} → Ends s b slots track → (before : List ℕ) {left : List ℕ} → left ≡ chain_at s b track → Following s b track before before left 0
begins {s} {b} {slots} {track} x before is =
    record {
      below = rw is (all-below (links s b) (chain_at s b track) track ((links s b).initial track).next (chained x));
      many = let same = ap length is in omega (arith, same);
      to-mark = rw is;
    }

module _ {s : List ℕ} {b : Block} {track : ℕ} {before marks left : List ℕ} {n : ℕ} (g : Following s b track before marks left n) where
  module _ {p : ℕ} {rest : List ℕ} (is : left ≡ p ∷ rest) where
    pub first-below : p < b.records.count
    first-below = (rw is at g.below).0

    pub room : n < length (chain_at s b track)
    room = omega (arith, rw is at g.many)

    pub goes_on : Following s b track before (set marks p (track + 1)) rest (n + 1)
    goes_on =
        record {
          below = (rw is at g.below).1;
          many = omega (arith, rw is at g.many);
          to-mark = g.to-mark ∙ rw is;
        }

  pub ends : left ≡ [] → (marks ≡ marked (track + 1) (chain_at s b track) before) × (n ≡ length (chain_at s b track))
  ends is = (sym (g.to-mark ∙ rw is), omega (arith, rw is at g.many))
