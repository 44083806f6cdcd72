-- Demand 3's hypotheses (FORMAT, Two sections, one strip) about the records of one kind in two sections.
use Rattle.std.specs.Prelude.{ℕ, ◌≤◌, ◌<◌, false, ◌≡◌}
use Rattle.layout.specs.Numbers.{negative}
use Rattle.clip.specs.Fields.{Records}

module _ {B : Type 0} (r₁ r₂ : Records B) where
  -- "equal bone and morph counts"; "Let their initial bone and morph records have the same build fields, track by track"; "let each of
  -- its additional bone and morph records be paired with one of the second's of its kind that has the same build fields, no two with
  -- the same one, wherever they stand"
  pub record Matched : Type 0 where
    pub tracks : r₁.tracks ≡ r₂.tracks
    pub initial : (t : ℕ) → t < r₁.tracks → r₁.initial t ≡ r₂.initial t
    pub pair : ℕ → ℕ
    pub within : (p : ℕ) → p < r₁.additional → pair p < r₂.additional
    pub apart : (p q : ℕ) → p < r₁.additional → q < r₁.additional → pair p ≡ pair q → p ≡ q
    pub same : (p : ℕ) → p < r₁.additional → r₁.at p ≡ r₂.at (pair p)

-- "has both links zero and an index not below its kind's count and borne by no other of its kind": a negative index is below, and the
-- others are all additional records of the kind, paired ones included.
pub record Isolated {B : Type 0} (r : Records B) (q : ℕ) : Type 0 where
  pub previous : (r.at q).previous ≡ 0
  pub next : (r.at q).next ≡ 0
  pub positive : negative (r.at q).index ≡ false
  pub above : r.tracks ≤ (r.at q).index
  pub alone : (p : ℕ) → p < r.additional → (p ≡ q → ⊥) → (r.at p).index ≡ (r.at q).index → ⊥

module _ {B : Type 0} {r₁ r₂ : Records B} (m : Matched r₁ r₂) where
  -- "each of its unpaired additional bone and morph records"
  abbrev pub UnpairedIsolated : Type 0
  UnpairedIsolated = (q : ℕ) → q < r₂.additional → ((p : ℕ) → p < r₁.additional → m.pair p ≡ q → ⊥) → Isolated r₂ q
