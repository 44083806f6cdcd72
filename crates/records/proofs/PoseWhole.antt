-- A pose is seven items of 4 bytes: where 28 bytes stand each of them is read, and a pose that was read has walked seven such items
-- (Table), so 28 bytes stand. Assumes nothing.
use Prim.Native.Nat.{ℕ, ◌+◌, ◌≤◌}
use native.Mathlib.Nat.{add_assoc}
use native.Mathlib.Omega.{arith}
use mathlib.Core.List.{List, [], ◌∷◌}
use mathlib.Core.Path.{◌≡◌, refl, sym, ap, ◌∙◌}
use lib.ListN.{length, replicate}
use Rattle.layout.specs.Walk.{Refusal, Walk, fine, refused, block, times, items, u32_at}
use Rattle.layout.specs.Records.{size}
use Rattle.layout.proofs.Inversion.{came, item-fits, item-was, same-value}
use Rattle.layout.proofs.Steps.{whole}
use Rattle.layout.proofs.Walks.{end, walks-read}
use Rattle.binary.specs.Groups.{u32s}
use Rattle.records.specs.Pose.{pose_bits}
use Rattle.records.specs.declared.pose.PoseBits.{PoseBits}
use Rattle.records.proofs.Table.{pose-walks}

abbrev pub seven : List ℕ → ℕ → PoseBits
seven s at =
    record {
      translation = u32_at s at ∷ u32_at s (at + 4) ∷ u32_at s (at + 8) ∷ [];
      orientation = u32_at s (at + 12) ∷ u32_at s (at + 16) ∷ u32_at s (at + 20) ∷ u32_at s (at + 24) ∷ [];
    }

-- Items that were read stand whole.
items-fit : (width : ℕ) (widths s : List ℕ) (at to : ℕ) → items (width ∷ widths) s at ≡ fine tt to → at + size (width ∷ widths) ≤ length s
unfolding items size
items-fit width [] s at to e =
    let c = came (block width s at) _ tt to e in
    omega (arith, item-fits width _ s at _ _ c.first)
items-fit width (w ∷ widths) s at to e =
    let c = came (block width s at) _ tt to e in
    omega (arith, items-fit w widths s c.at to c.rest, (item-was width _ s at _ _ c.first).to)

once : (w : Walk (Unit {0})) → end w ≡ w
once (fine tt to) = refl
once (refused why) = refl

module _ (s : List ℕ) (at : ℕ) where
  pub pose-whole : at + 28 ≤ length s → fine (seven s at) (at + 28) ≡ pose_bits s at
  unfolding pose_bits u32s
  pose-whole fits =
      let a = whole 4 u32_at s at (omega arith) in
      let b = whole 4 u32_at s (at + 4) (omega arith) in
      let c = whole 4 u32_at s (at + 8) (omega arith) in
      let d = whole 4 u32_at s (at + 12) (omega arith) in
      let e = whole 4 u32_at s (at + 16) (omega arith) in
      let f = whole 4 u32_at s (at + 20) (omega arith) in
      let g = whole 4 u32_at s (at + 24) (omega arith) in
      simp (add_assoc, a, b, c, d, e, f, g)

  pub pose-was : (p : PoseBits) (next : ℕ) → pose_bits s at ≡ fine p next → seven s at ≡ p
  unfolding size
  pose-was p next e = same-value (pose-whole (items-fit 4 (replicate 6 4) s at next (sym (pose-walks.same s at) ∙ ap end e)) ∙ e)

  -- As one record of seven items.
  one : times 1 (items (replicate 7 4)) s at ≡ items (replicate 7 4) s at
  unfolding times
  one = once (items (replicate 7 4) s at)

  pub pose-refused : (why : Refusal) → refused why ≡ times 1 (items (replicate 7 4)) s at → refused why ≡ pose_bits s at
  pose-refused why e = go (pose_bits s at) (e ∙ one ∙ sym (pose-walks.same s at))
    where
      go : (w : Walk PoseBits) → refused why ≡ end w → refused why ≡ w
      go (fine p n) e = absurd (let z : ◌≡◌ {A = ℕ} 0 1 = cc in omega arith)
      go (refused other) e = let same : why ≡ other = cc in ap refused same

  module _ (next : ℕ) (e : fine tt next ≡ times 1 (items (replicate 7 4)) s at) where
    pub pose-fits : at + 28 ≤ length s
    unfolding size
    pose-fits = items-fit 4 (replicate 6 4) s at next (sym (e ∙ one))

    pub pose-told : (p : PoseBits) → fine p (at + 28) ≡ pose_bits s at → fine p next ≡ pose_bits s at
    pose-told p told =
        let r = walks-read pose_bits (replicate 7 4) pose-walks s at next (sym (e ∙ one)) in
        let same = told ∙ r.is in
        let to : at + 28 ≡ next = cc in
        ap (fine p) (sym to) ∙ told

pub ruleset poses = (pose-whole, pose-refused, pose-fits, pose-told)
