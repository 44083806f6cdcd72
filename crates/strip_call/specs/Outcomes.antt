-- The strip call's outcome told over the blocks' offsets, for the private functions: proofs/Same has it equal to that of the strip's
-- definitions.
use Rattle.std.specs.Prelude.{ℕ, ◌+◌, cond, List, [], ◌∷◌, ◌++◌, ◌≡◌, ltb, pos, length, Result, Ok, Err}
use Rattle.std.proofs.Math.Option.{Option, none, some}
use Rattle.layout.specs.{Refusals.{output_too_short}, Walk.{Refusal, refusal, answered, fine}}
use Rattle.section.specs.{Limits.{edition1}, Model.{model_section}}
use Rattle.section.specs.declared.model.Model.{Model}
use Rattle.clip.specs.{First.{◌or◌}, Build.{links_followed, loose}}
use Rattle.strip.specs.{Work.{each, by_index, track_mark}, Call.{Outcome, over, zeroed}}
use Rattle.blocks.specs.{Kind.{kind_of}, Block.{links}}
use Rattle.blocks.specs.declared.block.Block.{Block}
use Rattle.strip_call.specs.{Answers.{strip_refusal, LeavesOutcome}, Building.{kind_meets}, Parts.{Outside}, Bytes.{strip_bytes}}
use Rattle.strip_call.specs.Need.{need_of}
use Rattle.strip_call.specs.declared.answer.{Built.{Built as BuiltAnswer}, StripRefusal.{StripRefusal}}
use Rattle.strip_call.specs.declared.model_records.ModelRecords.{ModelRecords}

-- What is met, the strip, reached and loose, and the contents of the work slices.
pub record Parts : Type 0 where
  pub met : Option Refusal
  pub strip : List ℕ
  pub reached : ℕ
  pub loose_count : ℕ
  pub first_work : List ℕ
  pub second_work : List ℕ

module _ (first second output : List ℕ) (need : ℕ) where
  abbrev pub finished : Parts → Outcome
  finished p =
      cond (ltb (length output) (length p.strip)) (zeroed first second output need (refusal output_too_short (pos (length p.strip) ∷ [])))
      (record {
        answer = answered (record { strip_length = length p.strip; reached = p.reached; loose = p.loose_count });
        first = over p.first_work first;
        second = over p.second_work second;
        output = over p.strip output;
      })

  abbrev pub outcome_by : Option Refusal → Parts → Outcome
  outcome_by (some why) p = zeroed first second output need why
  outcome_by none p = finished p

  abbrev pub outcome_of : Parts → Outcome
  outcome_of p = outcome_by p.met p

abbrev pub parts_of : List ℕ → Block → Block → Parts
parts_of s bones morphs =
    record {
      met = kind_meets s bones or kind_meets s morphs;
      strip = strip_bytes s bones morphs;
      reached = links_followed (kind_of bones.kind) (links s bones) + links_followed (kind_of morphs.kind) (links s morphs);
      loose_count = loose (kind_of bones.kind) (links s bones) + loose (kind_of morphs.kind) (links s morphs);
      first_work = by_index (links s bones) bones.records.count ++ by_index (links s morphs) morphs.records.count;
      second_work = each bones.records.count (track_mark (kind_of bones.kind) (links s bones)) ++ each morphs.records.count (track_mark (kind_of morphs.kind) (links s morphs));
    }

-- How a build and its strip end: a refusal leaves only those places of the work slices changed.
pub record BuildRefused (o : Outcome) (why : StripRefusal) (need : ℕ) (first second output first' second' output' : List ℕ) : Type 0 where
  pub zeroes : o ≡ zeroed first second output need (strip_refusal why)
  pub outside_first : Outside 0 need first first'
  pub outside_second : Outside 0 need second second'
  pub leaves_output : output' ≡ output

abbrev pub Ends : Outcome → ℕ → List ℕ → List ℕ → List ℕ → Result BuiltAnswer StripRefusal → List ℕ → List ℕ → List ℕ → Type 0
Ends o need first second output (Err why) first' second' output' = BuildRefused o why need first second output first' second' output'
Ends o need first second output (Ok built) first' second' output' = LeavesOutcome o (Ok built) first' second' output'

-- The outcome for the records of both kinds.
abbrev pub records_outcome : ModelRecords → List ℕ → List ℕ → List ℕ → Outcome
records_outcome r first second output = outcome_of first second output (need_of r) (parts_of r.bones.section.now r.bones.block r.morphs.block)

abbrev pub Leaves : ModelRecords → List ℕ → List ℕ → List ℕ → Result BuiltAnswer StripRefusal → List ℕ → List ℕ → List ℕ → Type 0
Leaves r first second output = Ends (records_outcome r first second output) (need_of r) first second output

-- The model that reading a section from some start gives.
pub record WasRead (s : List ℕ) (m : Model) : Type 0 where
  pub start : ℕ
  pub end : ℕ
  pub reads : model_section edition1 s start ≡ fine m end
