-- A track is written in three parts: two places are left, the initial record's key and the chain's keys are written behind them, and then
-- the key count into them; what is placed before what was placed joins it (keys, Placing). Assumes nothing.
use Prim.Native.Nat.{ℕ, ◌+◌, ◌≤◌}
use native.Mathlib.Omega.{arith}
use mathlib.Core.List.{List, ◌++◌, append_assoc}
use mathlib.Core.Path.{◌≡◌, ap, sym, ◌∙◌, subst}
use lib.ListN.{length}
use Rattle.strip.specs.Numbers.{little_endian}
use Rattle.strip.proofs.Bytes.{length-little_endian}
use Rattle.keys.specs.Placed.{placed, Room, Wrote}
use Rattle.keys.proofs.Placing.{length-placed, room-front, room_back, room-behind, wrote_then, wrote-before}
use Rattle.chains.specs.Chain.{chain_at}
use Rattle.blocks.specs.declared.block.Block.{Block}
use Rattle.writing.specs.Tracks.{initial_bytes, records_bytes, strip_track}
use Rattle.writing.proofs.Sums.{track-parts, track-long, records-most}
use Rattle.writing.proofs.OfKind.{key-most}
use Rattle.writing.proofs.OfRecord.{bytes-read}

module _ (s : List ℕ) (b : Block) (track place : ℕ) (old : List ℕ) (room : Room place (strip_track s b track) old) where
  abbrev count : ℕ → List ℕ
  count n = little_endian 2 (n + 1)

  abbrev initial : List ℕ
  initial = initial_bytes s b track

  abbrev records : List ℕ
  records = records_bytes s b (chain_at s b track)

  abbrev many : ℕ
  many = length (chain_at s b track)

  parts : count many ++ (initial ++ records) ≡ strip_track s b track
  parts = sym (append_assoc (count many) initial records) ∙ track-parts s b track

  all : Room place (count many ++ (initial ++ records)) old
  all = rw parts room

  two : place + length (count many) ≡ place + 2
  two = ap (λ (n : ℕ). place + n) (length-little_endian 2 (many + 1))

  behind : Room (place + 2) (initial ++ records) old
  behind = subst (λ (at : ℕ). Room at (initial ++ records) old) two (room-behind place (count many) (initial ++ records) old all)

  pub initial-room : Room (place + 2) initial old
  initial-room = room-front (place + 2) initial records old behind

  module _ (next : ℕ) (second : List ℕ) (w : Wrote (place + 2) initial old next second) where
    pub records-room : Room next records second
    records-room = room_back (place + 2) initial records old behind next second w

    module _ (end : ℕ) (mid : List ℕ) (rest : Wrote next records second end mid) where
      keys : Wrote (place + 2) (initial ++ records) old end mid
      keys = wrote_then (place + 2) initial records old behind next second w end mid rest

      pub count_room : place + 2 ≤ length mid
      count_room =
          let same = ap length keys.leaves ∙ length-placed (place + 2) (initial ++ records) old behind in
          omega (arith, same, behind)

      pub track-wrote : (n : ℕ) (new : List ℕ) → n ≡ many → new ≡ placed place (count n) mid → Wrote place (strip_track s b track) old end new
      track-wrote n new is e =
          let after = subst (λ (at : ℕ). Wrote at (initial ++ records) old end mid) (sym two) keys in
          rw parts at (wrote-before place (count many) (initial ++ records) old all end mid new after (subst (λ (k : ℕ). new ≡ placed place (count k) mid) is e))

pub ruleset rooms = (bytes-read, records-room, count_room)

pub ruleset sums = (bytes-read, track-long, key-most)
