-- What the keys of the tracks meet.
use Rattle.std.specs.Prelude.{ℕ, zero, suc, List, [], ◌∷◌, ◌≡◌, get_or, take, drop}
use Rattle.std.proofs.Math.Option.{Option}
use Rattle.layout.specs.Walk.{Refusal, answered}
use Rattle.clip.specs.{Fields.{Records}, First.{first_met}, Chain.{chain}, Keys.{KeyTest, key_test}}
use Rattle.clip.specs.Build.{records_refusal, track_refusal}
use Rattle.blocks.specs.{Kind.{kind_of}, Block.{links}}
use Rattle.track_keys.specs.Keys.{asked_at}
use Rattle.blocks.specs.declared.block.Block.{Block}

abbrev pub test_at : List ℕ → Block → KeyTest ℕ
test_at s b = key_test (kind_of b.kind) (asked_at s b.kind)

-- What a track meets, and what the tracks before one meet.
abbrev pub meets : List ℕ → Block → ℕ → Option Refusal
meets s b track = track_refusal (kind_of b.kind) (test_at s b) (links s b) track

abbrev pub tracks_meet : List ℕ → Block → ℕ → Option Refusal
tracks_meet s b track = first_met track (meets s b)

-- The chain of a track stands at the front of a list.
abbrev pub Listed : List ℕ → Block → ℕ → ℕ → List ℕ → Type 0
Listed s b track n list = chain (kind_of b.kind) (links s b) track ≡ answered (take n list)

-- The frames of a track's keys, the initial record's first.
abbrev pub frames_of : {B : Type 0} → Records B → ℕ → List ℕ → ℕ → ℕ
frames_of r t ps zero = (r.initial t).frame
frames_of r t ps (suc i) = (r.at (get_or ps i 0)).frame

-- f 0, .., f (j - 1), the last one first.
abbrev pub earlier : (ℕ → ℕ) → ℕ → List ℕ
earlier f zero = []
earlier f (suc j) = f j ∷ earlier f j

-- What is left of the records of a chain, from one on.
abbrev pub left : List ℕ → Block → ℕ → List ℕ → ℕ → Option Refusal
left s b track ps i = records_refusal (kind_of b.kind) (test_at s b) (links s b) track (earlier (frames_of (links s b) track ps) (suc i)) (drop i ps)
