-- The keys of the records behind are written and end where the next one goes (`Fills`), and so for tracks (`Filled`). Room for all of them
-- is room for those behind and one more, which is then written behind them (keys, Placing). Assumes nothing.
use Prim.Native.Nat.{ℕ, ◌+◌, ◌≤◌, ◌<◌}
use native.Mathlib.Omega.{arith}
use mathlib.Core.List.{List, [], ◌∷◌, ◌++◌}
use mathlib.Core.Path.{◌≡◌, ap, ◌∙◌}
use lib.ListN.{length, length-append}
use Rattle.keys.specs.Placed.{Room, Wrote}
use Rattle.keys.proofs.Placing.{length-placed, room_back, wrote_then, wrote_none}
use Rattle.chains.specs.Chain.{chain_at, Ends}
use Rattle.blocks.specs.declared.block.Block.{Block}
use Rattle.writing.specs.Tracks.{record_bytes, records_bytes, strip_track, first_tracks}
use Rattle.writing.proofs.Measuring.{chain-most, Passed, next-passed}
use Rattle.writing.proofs.Sums.{no-records, records-and, records-within, no-tracks, first_more, first-within}

-- What is written keeps the length of an output.
pub wrote-length : (place : ℕ) (bytes old : List ℕ) (end : ℕ) (new : List ℕ) → Room place bytes old → Wrote place bytes old end new → length new ≡ length old
wrote-length place bytes old end new room w = ap (λ (bs : List ℕ). length bs) w.leaves ∙ length-placed place bytes old room

-- The keys of the records behind are written.
pub record Fills (s : List ℕ) (b : Block) (track place : ℕ) (old behind ahead : List ℕ) (n here : ℕ) (new : List ℕ) : Type 0 where
  pub passed : Passed s b track behind ahead
  pub many : n ≡ length behind
  pub wrote : Wrote place (records_bytes s b behind) old here new

pub filled_none : (s : List ℕ) (b : Block) (track place : ℕ) (old : List ℕ) {ahead : List ℕ} → ahead ≡ chain_at s b track → Fills s b track place old [] ahead 0 place old
filled_none s b track place old all = record { passed = record { part = all }; many = omega arith; wrote = rw (no-records s b) (wrote_none place old) }

module _ {s : List ℕ} {b : Block} {slots : List ℕ} {track : ℕ} (x : Ends s b slots track) {place : ℕ} {old : List ℕ} (room : Room place (records_bytes s b (chain_at s b track)) old) {ps qs : List ℕ} {n here : ℕ} {new : List ℕ} (f : Fills s b track place old ps qs n here new) where
  pub filled-few : n ≤ 65534
  filled-few =
      let long = ap (λ (l : List ℕ). length l) f.passed.part in
      let parts = length-append ps qs in
      let most = chain-most x in
      omega (arith, long, parts, most, f.many)

  module _ (p : ℕ) (rest : List ℕ) (first : qs ≡ p ∷ rest) where
    both : Room place (records_bytes s b ps ++ record_bytes s b p) old
    both =
        let within = records-within s b (ps ++ p ∷ []) rest in
        let all = ap (λ (l : List ℕ). length (records_bytes s b l)) (next-passed f.passed p rest first).part in
        let long = ap (λ (bs : List ℕ). length bs) (records-and s b ps p) in
        omega (arith, within, all, long, room)

    pub filled-room : Room here (record_bytes s b p) new
    filled-room = room_back place (records_bytes s b ps) (record_bytes s b p) old both here new f.wrote

    pub filled_more : {after : ℕ} {newer : List ℕ} → Wrote here (record_bytes s b p) new after newer → Fills s b track place old (ps ++ p ∷ []) rest (n + 1) after newer
    filled_more {after} {newer} w =
        record {
          passed = next-passed f.passed p rest first;
          many = omega (arith, f.many, length-append ps (p ∷ []));
          wrote = rw (records-and s b ps p) (wrote_then place (records_bytes s b ps) (record_bytes s b p) old both here new f.wrote after newer w);
        }

-- The first tracks are written.
pub record Filled (s : List ℕ) (b : Block) (place : ℕ) (old : List ℕ) (n here : ℕ) (new : List ℕ) : Type 0 where
  pub some : n ≤ b.initials.count
  pub wrote : Wrote place (first_tracks s b n) old here new

module _ {s : List ℕ} {b : Block} {place : ℕ} {old : List ℕ} (room : Room place (first_tracks s b b.initials.count) old) where
  pub tracks-none : Filled s b place old 0 place old
  tracks-none = record { some = omega arith; wrote = rw (no-tracks s b) (wrote_none place old) }

  module _ {n here : ℕ} {new : List ℕ} (f : Filled s b place old n here new) where
    module _ (lt : n < b.initials.count) where
      whole : Room place (first_tracks s b n ++ strip_track s b n) old
      whole =
          let within = first-within s b b.initials.count (n + 1) (omega arith) in
          let long = ap (λ (bs : List ℕ). length bs) (first_more s b n) in
          omega (arith, within, long, room)

      pub tracks-room : Room here (strip_track s b n) new
      tracks-room = room_back place (first_tracks s b n) (strip_track s b n) old whole here new f.wrote

      pub tracks-more : {after : ℕ} {newer : List ℕ} → Wrote here (strip_track s b n) new after newer → Filled s b place old (n + 1) after newer
      tracks-more {after} {newer} w =
          record {
            some = omega arith;
            wrote = rw (first_more s b n) (wrote_then place (first_tracks s b n) (strip_track s b n) old whole here new f.wrote after newer w);
          }
