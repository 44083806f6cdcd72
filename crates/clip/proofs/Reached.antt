-- "Reached plus loose is the number of additional bone and morph records": chains share no record, so they hold as many as links were
-- followed; any other record is loose or counted in 15, and of a kind that is sound none is counted there. Assumes nothing.
use Prim.Native.Nat.{ℕ, ◌+◌, ◌≤◌, ◌<◌}
use native.Mathlib.Omega.{arith}
use mathlib.Core.Bool.{true}
use mathlib.Core.Path.{◌≡◌}
use lib.ListN.{length}
use Rattle.layout.specs.Walk.{answered}
use Rattle.clip.specs.First.{member}
use Rattle.clip.specs.Fields.{Records, Kind}
use Rattle.clip.specs.Keys.{KeyTest}
use Rattle.clip.specs.Scan.{Indexed}
use Rattle.clip.specs.Chain.{chain}
use Rattle.clip.specs.Build.{chain_of, reached_before, reached, both_links_zero, disconnected, links_followed, loose}
use Rattle.clip.proofs.Counting.{Distinct, AllBelow, distinct-length, number-any, number-parts}
use Rattle.clip.proofs.Chained.{Chained, all-below, no-repeats, one-track}
use Rattle.clip.proofs.Follow.{chain-is, is-chain}
use Rattle.clip.proofs.Sound.{Sound, chain-of, idle-left}

module _ {B : Type 0} (kind : Kind) (r : Records B) (x : Indexed r) (ended : (t : ℕ) → t < r.tracks → chain kind r t ≡ answered (chain_of kind r t)) where
  chained : (t : ℕ) → t < r.tracks → Chained r t (r.initial t).next (chain_of kind r t)
  chained t lt = is-chain kind r t (chain_of kind r t) (ended t lt)

  distinct : (t : ℕ) → t < r.tracks → Distinct (chain_of kind r t)
  distinct t lt = no-repeats r x t lt (r.initial t).next (chain_of kind r t) (chained t lt)

  below : (t : ℕ) → t < r.tracks → AllBelow r.additional (chain_of kind r t)
  below t lt = all-below r (chain_of kind r t) t (r.initial t).next (chained t lt)

  in_one : (t u p : ℕ) → t < r.tracks → u < r.tracks → member p (chain_of kind r t) ≡ true → member p (chain_of kind r u) ≡ true → t ≡ u
  in_one t u p lt lu = one-track r x t u lt lu (chain_of kind r t) (chain_of kind r u) (r.initial t).next (r.initial u).next (chained t lt) (chained u lu) p

  -- The records that chains hold are as many as the links followed; the others are loose or disconnected.
  pub all-counted : links_followed kind r + (loose kind r + disconnected kind r) ≡ r.additional
  unfolding links_followed reached_before loose disconnected
  all-counted =
      let held = number-any r.additional r.tracks (chain_of kind r) distinct below in_one in
      let parts = number-parts r.additional (reached kind r) (both_links_zero kind r) in
      omega (arith, parts, held)

module _ {B : Type 0} (kind : Kind) (test : KeyTest B) (r : Records B) (s : Sound test r) where
  ended : (t : ℕ) → t < r.tracks → chain kind r t ≡ answered (chain_of kind r t)
  ended t lt = rw (chain-of kind test r s t lt) (chain-is kind r t s.indexed lt _ (s.chained t lt))

  pub chain-distinct : (t : ℕ) → t < r.tracks → Distinct (chain_of kind r t)
  chain-distinct = distinct kind r s.indexed ended

  pub chain-below : (t : ℕ) → t < r.tracks → AllBelow r.additional (chain_of kind r t)
  chain-below = below kind r s.indexed ended

  pub chain_length : (t : ℕ) → t < r.tracks → length (chain_of kind r t) ≤ r.additional
  chain_length t lt = distinct-length r.additional (chain_of kind r t) (chain-distinct t lt) (chain-below t lt)

  pub reached-and-loose : links_followed kind r + loose kind r ≡ r.additional
  reached-and-loose =
      let all = all-counted kind r s.indexed ended in
      let none_left = idle-left kind test r (λ p lt out. s.idle p lt (λ t is. rw (chain-of kind test r s t is) at (out t is))) in
      omega (arith, all, none_left)
