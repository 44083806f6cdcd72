-- The records behind and those ahead are the chain (`Passed`), and the keys of those behind have so many bytes (`Measures`): a turn puts
-- one record behind. A chain has no more records than there are, so no sum overflows. Assumes nothing.
use Prim.Native.Nat.{ℕ, ◌+◌, ◌≤◌, ◌<◌}
use native.Mathlib.Omega.{arith}
use mathlib.Core.List.{List, [], ◌∷◌, ◌++◌, append_assoc}
use mathlib.Core.Path.{◌≡◌, refl, sym, ap, ◌∙◌}
use lib.ListN.{length, length-append}
use Rattle.std.proofs.lemmas.List.Elements.{All-same, All-contains, Contains-append_right}
use Rattle.clip.specs.Build.{record_key}
use Rattle.clip.proofs.Counting.{distinct-length}
use Rattle.clip.proofs.Chained.{all-below, no-repeats}
use Rattle.blocks.specs.Block.{links}
use Rattle.chains.specs.Chain.{chain_at, Ends}
use Rattle.chains.specs.Lookup.{Ordered}
use Rattle.chains.specs.Walk.{AllEnd}
use Rattle.blocks.specs.declared.block.Block.{Block}
use Rattle.chains.proofs.AlongChain.{chained, part-below}
use Rattle.track_keys.specs.Fine.{KeyFine, KeysFine}
use Rattle.writing.specs.Tracks.{record_bytes, records_bytes, strip_track, first_tracks}
use Rattle.writing.proofs.OfKind.{key-most}
use Rattle.writing.proofs.Sums.{no-records, records-and, records-most, first_more, first-most, track-most, no-tracks}

-- A chain has no more records than there are.
pub chain-most : {s : List ℕ} {b : Block} {slots : List ℕ} {track : ℕ} → Ends s b slots track → length (chain_at s b track) ≤ 65534
chain-most {s} {b} {slots} {track} x =
    let once = no-repeats (links s b) x.ordered.indexed track x.is-track ((links s b).initial track).next (chain_at s b track) (chained x) in
    let below = all-below (links s b) (chain_at s b track) track ((links s b).initial track).next (chained x) in
    let most = distinct-length b.records.count (chain_at s b track) once below in
    let few = x.ordered.fits.few_records in
    omega (arith, most, few)

-- The records behind were passed, and the others of the chain are ahead.
pub record Passed (s : List ℕ) (b : Block) (track : ℕ) (behind ahead : List ℕ) : Type 0 where
  pub part : behind ++ ahead ≡ chain_at s b track

module _ {s : List ℕ} {b : Block} {track : ℕ} {ps qs : List ℕ} (passed : Passed s b track ps qs) (p : ℕ) (rest : List ℕ) (first : qs ≡ p ∷ rest) where
  next-part : ps ++ p ∷ rest ≡ chain_at s b track
  next-part = ap (λ (l : List ℕ). ps ++ l) (sym first) ∙ passed.part

  pub next-passed : Passed s b track (ps ++ p ∷ []) rest
  next-passed = record { part = append_assoc ps (p ∷ []) rest ∙ next-part }

  pub next-below : {slots : List ℕ} → Ends s b slots track → p < b.records.count
  next-below x = part-below x ps rest next-part

  pub next-fine : KeysFine s b track → KeyFine s b.kind track (record_key ((links s b).at p))
  next-fine fine =
      let all = All-same (λ q. KeyFine s b.kind track (record_key ((links s b).at q))) (ps ++ p ∷ rest) (chain_at s b track) next-part fine.records in
      All-contains (λ q. KeyFine s b.kind track (record_key ((links s b).at q))) (ps ++ p ∷ rest) p all (Contains-append_right ps (p ∷ rest) p (0, omega arith, refl))

-- The keys of the records behind have so many bytes.
pub record Measures (s : List ℕ) (b : Block) (track : ℕ) (behind ahead : List ℕ) (bytes : ℕ) : Type 0 where
  pub passed : Passed s b track behind ahead
  pub sum : bytes ≡ length (records_bytes s b behind)

pub measured-none : (s : List ℕ) (b : Block) (track : ℕ) {ahead : List ℕ} → ahead ≡ chain_at s b track → Measures s b track [] ahead 0
measured-none s b track all = record { passed = record { part = all }; sum = sym (ap (λ (bs : List ℕ). length bs) (no-records s b)) }

module _ {s : List ℕ} {b : Block} {slots : List ℕ} {track : ℕ} (x : Ends s b slots track) {ps qs : List ℕ} {bytes : ℕ} (m : Measures s b track ps qs bytes) where
  module _ (p : ℕ) (rest : List ℕ) (first : qs ≡ p ∷ rest) {one : ℕ} (is : one ≡ length (record_bytes s b p)) where
    pub measured-fits : bytes + one ≤ 4000000
    measured-fits =
        let few = chain-most x in
        let long = ap (λ (l : List ℕ). length l) (next-part m.passed p rest first) in
        let parts = length-append ps (p ∷ rest) in
        let front = records-most s b ps in
        let most = key-most s b.kind (record_key ((links s b).at p)) in
        let sum = m.sum in
        omega (arith, few, long, parts, front, most, sum, is)

    pub measured-more : Measures s b track (ps ++ p ∷ []) rest (bytes + one)
    measured-more =
        let more = ap (λ (bs : List ℕ). length bs) (records-and s b ps p) in
        let both = length-append (records_bytes s b ps) (record_bytes s b p) in
        let so_far = m.sum in
        record { passed = next-passed m.passed p rest first; sum = omega (arith, more, both, so_far, is) }

module _ {s : List ℕ} {b : Block} {slots : List ℕ} (ordered : Ordered s b slots) (end : AllEnd s b) where
  ended : (t : ℕ) → t < b.initials.count → Ends s b slots t
  ended t lt = record { ordered = ordered; is-track = lt; ends = end t lt }

  pub tracks-fit : (n : ℕ) → n ≤ b.initials.count → length (first_tracks s b n) ≤ 262140000000
  tracks-fit n le =
      let most = first-most s b n (λ t lt. chain-most (ended t (omega (arith, lt, le)))) in
      let few = ordered.fits.few_tracks in
      omega (arith, most, few, le)

  pub track-fits : (t : ℕ) → t < b.initials.count → length (strip_track s b t) ≤ 4000000
  track-fits t lt = track-most s b t (chain-most (ended t lt))

-- The bytes of the first tracks and of one more.
pub counted-more : (s : List ℕ) (b : Block) (n : ℕ) {bytes one : ℕ} → bytes ≡ length (first_tracks s b n) → one ≡ length (strip_track s b n) → bytes + one ≡ length (first_tracks s b (n + 1))
counted-more s b n so_far is =
    let front = ap (λ (bs : List ℕ). length bs) (first_more s b n) in
    let both = length-append (first_tracks s b n) (strip_track s b n) in
    omega (arith, front, both, so_far, is)

pub ruleset measuring = (measured-none, counted-more, no-tracks)
