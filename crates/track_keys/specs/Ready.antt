-- A track before its records' keys are asked.
use Rattle.std.specs.Prelude.{ℕ, ◌+◌, ◌≤◌, List, ◌≡◌, take, Result, Ok, Err}
use Rattle.std.proofs.Math.Option.{some}
use Rattle.order.specs.Repeat.{FirstRepeat}
use Rattle.blocks.specs.{Block.{links}, Fault.{fault_of}}
use Rattle.track_keys.specs.Tracks.{meets, Listed, frames_of, left}
use Rattle.blocks.specs.declared.{block.Block.{Block}, fault.Fault.{Fault}}
use Rattle.track_keys.specs.declared.ready.Keys.{Keys}

-- The chain's n records stand at the front of the list, `again` is the first key whose frame is repeated, and the initial record's key
-- meets nothing.
pub record Keyed (s : List ℕ) (b : Block) (track : ℕ) (list : List ℕ) (n again : ℕ) : Type 0 where
  pub listed : Listed s b track n list
  pub many : n ≤ b.records.count
  pub repeat : FirstRepeat (frames_of (links s b) track (take n list)) (n + 1) again
  pub so_far : meets s b track ≡ left s b track (take n list) 0

abbrev pub KeysReady : List ℕ → Block → ℕ → List ℕ → Result Keys Fault → Type 0
KeysReady s b track list (Ok keys) = Keyed s b track list keys.records keys.again
KeysReady s b track list (Err fault) = meets s b track ≡ some (fault_of fault)
