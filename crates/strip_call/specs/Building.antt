-- What the private functions answer of one kind and of both.
use Rattle.std.specs.Prelude.{ℕ, ◌+◌, cond, List, ◌≡◌, ltb, Result, Ok, Err}
use Rattle.std.proofs.Math.Option.{Option, none, some}
use Rattle.layout.specs.Walk.{Refusal}
use Rattle.clip.specs.{First.{◌or◌}, Build.{build_refusal, links_followed, loose}}
use Rattle.strip.specs.Work.{each, track_mark}
use Rattle.blocks.specs.{Kind.{kind_of}, Block.{links}, Fault.{fault_of}}
use Rattle.chains.specs.{Lookup.{Ordered}, Walk.{AllEnd}}
use Rattle.track_keys.specs.Tracks.{test_at}
use Rattle.blocks.specs.declared.{block.Block.{Block}, fault.Fault.{Fault}, kind.Kind.{Kind}}
use Rattle.marks.specs.declared.counts.Counts.{Counts}
use Rattle.strip_call.specs.Parts.{part}
use Rattle.strip_call.specs.declared.answer.Counted.{Counted}

-- What a build of one kind meets.
abbrev pub kind_meets : List ℕ → Block → Option Refusal
kind_meets s b = build_refusal (kind_of b.kind) (test_at s b) (links s b)

-- Nothing is met, and the work slices hold what 01 says.
pub record Passed (s : List ℕ) (b : Block) (slots marks : List ℕ) (reached loose_count : ℕ) : Type 0 where
  pub meets : kind_meets s b ≡ none
  pub ordered : Ordered s b slots
  pub ends : AllEnd s b
  pub marked : marks ≡ each b.records.count (track_mark (kind_of b.kind) (links s b))
  pub followed : reached ≡ links_followed (kind_of b.kind) (links s b)
  pub unreached : loose_count ≡ loose (kind_of b.kind) (links s b)

abbrev pub Builds : List ℕ → Block → List ℕ → List ℕ → Result Counted Fault → Type 0
Builds s b slots marks (Err fault) = kind_meets s b ≡ some (fault_of fault)
Builds s b slots marks (Ok counted) = Passed s b slots marks counted.reached counted.loose

-- 15, or what an accepted build reports.
abbrev pub reported : Kind → Counts → Result Counted Fault
reported kind counts = cond (ltb 0 counts.disconnected) (Err (Fault.Disconnected kind counts.disconnected)) (Ok (record { reached = counts.reached; loose = counts.loose }))

-- The counts of both kinds, and the parts of the work slices that belong to each.
pub record ClipPassed (s : List ℕ) (bones morphs : Block) (first second : List ℕ) (reached loose_count : ℕ) : Type 0 where
  pub bone_reached : ℕ
  pub bone_loose : ℕ
  pub morph_reached : ℕ
  pub morph_loose : ℕ
  pub of_bones : Passed s bones (part 0 bones.records.count first) (part 0 bones.records.count second) bone_reached bone_loose
  pub of_morphs : Passed s morphs (part bones.records.count morphs.records.count first) (part bones.records.count morphs.records.count second) morph_reached morph_loose
  pub all_reached : reached ≡ bone_reached + morph_reached
  pub all_loose : loose_count ≡ bone_loose + morph_loose

abbrev pub ClipBuilds : List ℕ → Block → Block → List ℕ → List ℕ → Result Counted Fault → Type 0
ClipBuilds s bones morphs first second (Err fault) = (kind_meets s bones or kind_meets s morphs) ≡ some (fault_of fault)
ClipBuilds s bones morphs first second (Ok counted) = ClipPassed s bones morphs first second counted.reached counted.loose
