-- The chain of a track at the front of a list, which grows by one position in its place each time (`listed-more`). It has no repeats, so it
-- has no more records than there are (`chain-few`). Assumes nothing.
use Prim.Native.Nat.{ℕ, ◌+◌, ◌<◌, ◌≤◌}
use native.Mathlib.Omega.{arith}
use native.Mathlib.Numerals.{add-one}
use mathlib.Core.List.{List}
use mathlib.Core.Path.{◌≡◌, sym, ap, ◌∙◌}
use lib.ListN.{length, take, set, get_or}
use lib.Seq.{take-suc, take-suc-set, take-length}
use Rattle.layout.specs.Walk.{answered}
use Rattle.clip.specs.Build.{positions, chain_of}
use Rattle.clip.proofs.Counting.{Distinct, distinct-length}
use Rattle.clip.proofs.Chained.{all-below, no-repeats}
use Rattle.blocks.specs.Block.{links}
use Rattle.chains.specs.Lookup.{Ordered}
use Rattle.chains.specs.Chain.{chain_at, Ends}
use Rattle.blocks.specs.declared.block.Block.{Block}
use Rattle.chains.proofs.AlongChain.{chained}
use Rattle.track_keys.specs.Tracks.{Listed}

module _ (s : List ℕ) (b : Block) (track n : ℕ) (list : List ℕ) (listed : Listed s b track n list) where
  pub listed-is : take n list ≡ chain_at s b track
  unfolding chain_of
  listed-is = sym (ap positions listed)

  pub listed-ends : {slots : List ℕ} → Ordered s b slots → track < b.initials.count → Ends s b slots track
  listed-ends ordered is-track = record { ordered = ordered; is-track = is-track; ends = listed ∙ ap answered listed-is }

pub chain-distinct : {s : List ℕ} {b : Block} {slots : List ℕ} {track : ℕ} → Ends s b slots track → Distinct (chain_at s b track)
chain-distinct {s} {b} {slots} {track} x = no-repeats (links s b) x.ordered.indexed track x.is-track ((links s b).initial track).next (chain_at s b track) (chained x)

-- A chain has no more records than there are.
pub chain-few : {s : List ℕ} {b : Block} {slots : List ℕ} {track : ℕ} → Ends s b slots track → length (chain_at s b track) ≤ 65534
chain-few {s} {b} {slots} {track} x =
    let short = distinct-length b.records.count (chain_at s b track) (chain-distinct x) (all-below (links s b) (chain_at s b track) track ((links s b).initial track).next (chained x)) in
    omega (arith, short, x.ordered.fits.few_records)

-- One number more of a list put in its place in another one; and all of them.
pub listed-more : (list xs : List ℕ) {n p : ℕ} → take n list ≡ take n xs → n < length list → n < length xs → p ≡ get_or xs n 0 → take (n + 1) (set list n p) ≡ take (n + 1) xs
listed-more list xs {n} {p} same inside front is = rw (add-one, take-suc-set list n p inside, take-suc xs n 0 front, is, same)

pub listed-all : (list xs : List ℕ) {n : ℕ} → take n list ≡ take n xs → n ≡ length xs → length list ≡ length xs → list ≡ xs
listed-all list xs {n} same all long = sym (take-length list) ∙ ap (λ (k : ℕ). take k list) (long ∙ sym all) ∙ same ∙ ap (λ (k : ℕ). take k xs) all ∙ take-length xs
