-- Document 01, "The strip" and "Turned down" (FORMAT, The strip call and Refusals): the strip call, for every section, start and slices.
use Rattle.std.specs.Prelude.{ℕ, ◌+◌, cond, ◌||◌, List, [], ◌∷◌, ◌++◌, ltb, pos, length, drop, replicate}
use Rattle.std.proofs.Math.Option.{Option, none, some}
use Rattle.layout.specs.Refusals.{work_too_short, output_too_short}
use Rattle.layout.specs.Walk.{Refusal, refusal, Walk, fine, refused, Answer, answered, declined}
use Rattle.section.specs.declared.{limits.Limits.{Limits}, model.Model.{Model}}
use Rattle.section.specs.Model.{model_section}
use Rattle.clip.specs.Section.{bones, morphs, clip_refusal, reached_records, loose_records}
use Rattle.strip.specs.{Strip.{strip_of}, Work.{first_work, second_work}}

-- "An accepted build reports reached (links followed) and loose (unreached additional records, both links 0)"; "it adds the strip's
-- length".
pub record Built : Type 0 where
  pub strip_length : ℕ
  pub reached : ℕ
  pub loose : ℕ

-- The answer, and each slice afterwards.
pub record Outcome : Type 0 where
  pub answer : Answer Built
  pub first : List ℕ
  pub second : List ℕ
  pub output : List ℕ

-- What is written from the beginning of a slice on; "Later places are unchanged."
abbrev pub over : List ℕ → List ℕ → List ℕ
over new old = new ++ drop (length new) old

module _ (first second output : List ℕ) where
  -- "other refusals leave them unchanged"
  abbrev pub untouched : Refusal → Outcome
  untouched why = record { answer = declined why; first = first; second = second; output = output }

  -- "3 to 15 and 18 leave the first A + B places of both u16 slices 0"; "Output is untouched by every refusal"
  abbrev pub zeroed : ℕ → Refusal → Outcome
  zeroed need why =
      record { answer = declined why; first = over (replicate need 0) first; second = over (replicate need 0) second; output = output }

  module _ (width : ℕ) (s : List ℕ) (m : Model) where
    -- "18 output shorter than the strip (the strip's length); tested last."
    abbrev pub written : ℕ → List ℕ → Outcome
    written need strip =
        cond (ltb (length output) (length strip)) (zeroed need (refusal output_too_short (pos (length strip) ∷ [])))
        (record {
          answer = answered (record { strip_length = length strip; reached = reached_records s m; loose = loose_records s m });
          first = over (first_work s m) first;
          second = over (second_work s m) second;
          output = over strip output;
        })

    abbrev pub built : ℕ → Option Refusal → Outcome
    built need (some why) = zeroed need why
    built need none = written need (strip_of width s m)

    -- "With A additional bones and B additional morphs each needs A + B places." "17 a u16 slice below A + B (the need); tested after
    -- reading."
    abbrev pub slices_tested : ℕ → Outcome
    slices_tested need =
        cond (ltb (length first) need || ltb (length second) need) (untouched (refusal work_too_short (pos need ∷ []))) (built need (clip_refusal s m))

  abbrev pub once_read : ℕ → List ℕ → Walk Model → Outcome
  once_read width s (refused why) = untouched why
  once_read width s (fine m end) = slices_tested width s m ((bones s m).additional + (morphs s m).additional)

-- The limits and the width of a count are the edition's.
unfoldable pub strip_call : Limits → ℕ → List ℕ → ℕ → List ℕ → List ℕ → List ℕ → Outcome
strip_call limits width s start first second output = once_read first second output width s (model_section limits s start)
