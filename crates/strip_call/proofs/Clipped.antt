-- Each record of a kind whose build is accepted is reached or loose, so of both kinds there are at most 131,068. Assumes nothing.
use Prim.Native.Nat.{ℕ, ◌+◌, ◌≤◌}
use native.Mathlib.Omega.{arith}
use mathlib.Core.List.{List}
use mathlib.Core.Path.{◌≡◌}
use Rattle.clip.proofs.Sound.{sound}
use Rattle.clip.proofs.Reached.{reached-and-loose}
use Rattle.blocks.specs.Kind.{kind_of}
use Rattle.blocks.specs.Block.{links}
use Rattle.track_keys.specs.Tracks.{test_at}
use Rattle.blocks.specs.declared.block.Block.{Block}
use Rattle.strip_call.specs.Building.{Passed}
use Rattle.strip_call.specs.Parts.{part, Outside}

pub passed-all : {s : List ℕ} {b : Block} {slots marks : List ℕ} {reached left : ℕ} → Passed s b slots marks reached left → reached + left ≡ b.records.count
passed-all {s} {b} p =
    let all = reached-and-loose (kind_of b.kind) (test_at s b) (links s b) (sound (kind_of b.kind) (test_at s b) (links s b) p.meets) in
    let f = p.followed in
    let u = p.unreached in
    omega arith

-- The bones passed, and their places are as the morphs' build left them.
pub front-passed : {s : List ℕ} {b : Block} {m : ℕ} (first₁ second₁ first₂ second₂ : List ℕ) {reached left : ℕ} → Passed s b (part 0 b.records.count first₁) (part 0 b.records.count second₁) reached left → Outside b.records.count m first₁ first₂ → Outside b.records.count m second₁ second₂ → Passed s b (part 0 b.records.count first₂) (part 0 b.records.count second₂) reached left
front-passed first₁ second₁ first₂ second₂ passed one two = rw (one.front, two.front) passed

-- The numbers of both kinds together.
module _ {s₁ s₂ : List ℕ} {bones morphs : Block} {slots₁ marks₁ slots₂ marks₂ : List ℕ} {reached left more loose : ℕ} (few₁ : bones.records.count ≤ 65534) (few₂ : morphs.records.count ≤ 65534) (passed₁ : Passed s₁ bones slots₁ marks₁ reached left) (passed₂ : Passed s₂ morphs slots₂ marks₂ more loose) where
  pub few-reached : reached + more ≤ 131068
  few-reached = omega (arith, passed-all passed₁, passed-all passed₂)

  pub few-loose : left + loose ≤ 131068
  few-loose = omega (arith, passed-all passed₁, passed-all passed₂)
