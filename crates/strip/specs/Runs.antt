-- Demand 3 (FORMAT, Two sections, one strip): two runs of the strip call, and what is said of them.
use Rattle.std.specs.Prelude.{ℕ, ◌+◌, ◌≤◌, ◌<◌, List, ◌≡◌, length, take}
use Rattle.std.proofs.Math.Option.{none}
use Rattle.layout.specs.Walk.{fine, answered}
use Rattle.section.specs.declared.{limits.Limits.{Limits}, model.Model.{Model}}
use Rattle.section.specs.Model.{model_section}
use Rattle.clip.specs.{Fields.{bone, morph}, Build.{keys}, Section.{bones, morphs, clip_refusal}}
use Rattle.strip.specs.{Plain.{bone_groups, bone_fields, morph_groups, morph_fields}, Keys.{AlikeKeys}, Strip.{strip_of}}
use Rattle.strip.specs.Call.{Built, Outcome, strip_call}

-- What is lent: the section with its start, the two work slices and the output, "whatever those held before".
pub record Lent : Type 0 where
  pub section : List ℕ
  pub start : ℕ
  pub first : List ℕ
  pub second : List ℕ
  pub output : List ℕ

module _ (limits : Limits) (width : ℕ) where
  abbrev pub outcome : Lent → Outcome
  outcome x = strip_call limits width x.section x.start x.first x.second x.output

  -- "Within the limits: none of 1, 2, 16 and 20 is met."
  pub record Within (x : Lent) : Type 0 where
    pub model : Model
    pub end : ℕ
    pub reads : model_section limits x.section x.start ≡ fine model end

  -- "Accepted: the strip call gives no refusal; the strip is then the output up to the length answered."
  pub record Accepted (x : Lent) : Type 0 where
    pub answer : Built
    pub answers : (outcome x).answer ≡ answered answer

  abbrev pub strip_out : (x : Lent) → Accepted x → List ℕ
  strip_out x a = take a.answer.strip_length (outcome x).output

-- "Slices long enough: each work slice by the section's own A + B, the output by its strip, any output where the build refuses."
pub record LongEnough (width : ℕ) (x : Lent) (m : Model) : Type 0 where
  pub first : (bones x.section m).additional + (morphs x.section m).additional ≤ length x.first
  pub second : (bones x.section m).additional + (morphs x.section m).additional ≤ length x.second
  pub output : clip_refusal x.section m ≡ none → length (strip_of width x.section m) ≤ length x.output

-- "their bone and morph counts are equal and each track has as many keys in both, those in the same place alike by 01"
pub record SameTracks (s₁ : List ℕ) (m₁ : Model) (s₂ : List ℕ) (m₂ : Model) : Type 0 where
  pub bone_count : (bones s₁ m₁).tracks ≡ (bones s₂ m₂).tracks
  pub morph_count : (morphs s₁ m₁).tracks ≡ (morphs s₂ m₂).tracks
  pub bone_tracks : (t : ℕ) → t < (bones s₁ m₁).tracks → AlikeKeys bone_groups bone_fields (keys bone (bones s₁ m₁) t) (keys bone (bones s₂ m₂) t)
  pub morph_tracks : (t : ℕ) → t < (morphs s₁ m₁).tracks → AlikeKeys morph_groups morph_fields (keys morph (morphs s₁ m₁) t) (keys morph (morphs s₂ m₂) t)
