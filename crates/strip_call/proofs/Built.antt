-- The build of one kind from its parts, scan, tracks and 15, in this order: the first that meets something is what the kind meets. Where
-- the tracks meet nothing all chains end, so the counts are the definition's. Assumes nothing.
use Prim.Native.Nat.{ℕ, ◌≤◌, ◌<◌}
use native.Mathlib.Omega.{arith}
use mathlib.Core.Bool.{Bool, true, false, cond}
use mathlib.Core.List.{List}
use mathlib.Core.Option.{none, some}
use mathlib.Core.Path.{◌≡◌, refl, ap, subst}
use borrow.Author.Tests.{lt-ltb, le-ltb, ltb-true, ltb-false}
use lib.Dec.{ltb}
use Rattle.layout.specs.Walk.{Refusal, Answer, answered, declined}
use Rattle.clip.specs.Scan.{scan}
use Rattle.clip.specs.Chain.{chain}
use Rattle.clip.specs.Build.{positions, chain_refusal, chain_of, disconnected, track_refusal, build_refusal}
use Rattle.clip.proofs.First.{or-none, first-none}
use Rattle.strip.specs.Work.{each, track_mark}
use Rattle.blocks.specs.Kind.{kind_of}
use Rattle.blocks.specs.Block.{links}
use Rattle.blocks.specs.Fault.{fault_of}
use Rattle.chains.specs.Lookup.{Ordered}
use Rattle.chains.specs.Walk.{AllEnd}
use Rattle.track_keys.specs.Fine.{AllFine}
use Rattle.track_keys.specs.Tracks.{meets, tracks_meet}
use Rattle.track_keys.proofs.Accepted.{all-fine}
use Rattle.blocks.specs.declared.block.Block.{Block}
use Rattle.blocks.specs.declared.fault.Fault.{Fault}
use Rattle.marks.specs.Marks.{counts_of}
use Rattle.marks.specs.declared.counts.Counts.{Counts}
use Rattle.strip_call.specs.Building.{kind_meets, Passed, Builds, reported}
use Rattle.std.specs.Prelude.{Ok, Err}

module _ (s : List ℕ) (b : Block) where
  pub scan-meets : (why : Refusal) → scan (kind_of b.kind) (links s b) ≡ some why → kind_meets s b ≡ some why
  unfolding build_refusal
  scan-meets why is = rw is

  module _ (scans : scan (kind_of b.kind) (links s b) ≡ none) where
    pub tracks-meet : (why : Refusal) → tracks_meet s b b.initials.count ≡ some why → kind_meets s b ≡ some why
    unfolding build_refusal
    tracks-meet why is = rw (scans, is)

    module _ (passes : tracks_meet s b b.initials.count ≡ none) where
      pub left_meets : 0 < disconnected (kind_of b.kind) (links s b) → kind_meets s b ≡ some (fault_of (Fault.Disconnected b.kind (disconnected (kind_of b.kind) (links s b))))
      unfolding build_refusal
      left_meets some_left = rw (scans, passes, lt-ltb 0 (disconnected (kind_of b.kind) (links s b)) some_left)

      pub nothing-met : disconnected (kind_of b.kind) (links s b) ≤ 0 → kind_meets s b ≡ none
      unfolding build_refusal
      nothing-met none_left = rw (scans, passes, le-ltb 0 (disconnected (kind_of b.kind) (links s b)) none_left)

  chain-answers : (a : Answer (List ℕ)) → chain_refusal a ≡ none → a ≡ answered (positions a)
  chain-answers (answered ps) e = refl
  chain-answers (declined why) e = absurd (let z : ◌≡◌ {A = ℕ} 0 1 = cc in omega arith)

  pub all_end : tracks_meet s b b.initials.count ≡ none → AllEnd s b
  unfolding chain_of track_refusal
  all_end passes t lt = chain-answers (chain (kind_of b.kind) (links s b) t) (or-none (chain_refusal (chain (kind_of b.kind) (links s b) t)) _ (first-none b.initials.count (meets s b) passes t lt)).0

-- No key of a build that meets nothing meets anything.
pub build-fine : (s : List ℕ) (b : Block) → kind_meets s b ≡ none → AllFine s b
unfolding build_refusal
build-fine s b passes = all-fine s b (or-none (tracks_meet s b b.initials.count) _ (or-none (scan (kind_of b.kind) (links s b)) _ passes).1).0

module _ (s : List ℕ) (b : Block) (counts : Counts) (is : counts ≡ counts_of s b) (scans : scan (kind_of b.kind) (links s b) ≡ none) (passes : tracks_meet s b b.initials.count ≡ none) where
  counted-left : 0 < counts.disconnected → kind_meets s b ≡ some (fault_of (Fault.Disconnected b.kind counts.disconnected))
  counted-left more =
      let same : counts.disconnected ≡ disconnected (kind_of b.kind) (links s b) = ap (λ (c : Counts). c.disconnected) is in
      rw same (left_meets s b scans passes (subst (λ (n : ℕ). 0 < n) same more))

  counted : (slots marks : List ℕ) → Ordered s b slots → marks ≡ each b.records.count (track_mark (kind_of b.kind) (links s b)) → counts.disconnected ≤ 0 → Passed s b slots marks counts.reached counts.loose
  counted slots marks ordered marked few =
      let same : counts.disconnected ≡ disconnected (kind_of b.kind) (links s b) = ap (λ (c : Counts). c.disconnected) is in
      record {
        meets = nothing-met s b scans passes (subst (λ (n : ℕ). n ≤ 0) same few);
        ordered = ordered;
        ends = all_end s b passes;
        marked = marked;
        followed = ap (λ (c : Counts). c.reached) is;
        unreached = ap (λ (c : Counts). c.loose) is;
      }

  pub reports : (slots marks : List ℕ) → Ordered s b slots → marks ≡ each b.records.count (track_mark (kind_of b.kind) (links s b)) → Builds s b slots marks (reported b.kind counts)
  reports slots marks ordered marked = go (ltb 0 counts.disconnected) refl
    where
      go : (some : Bool) → ltb 0 counts.disconnected ≡ some → Builds s b slots marks (cond some (Err (Fault.Disconnected b.kind counts.disconnected)) (Ok (record { reached = counts.reached; loose = counts.loose })))
      go true e = counted-left (ltb-true 0 counts.disconnected e)
      go false e = counted slots marks ordered marked (ltb-false 0 counts.disconnected e)

pub ruleset kinds = (scan-meets, all_end, tracks-meet, reports)
