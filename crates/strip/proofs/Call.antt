-- What the strip call answers, test by test in the definition's order. An accepted run has passed them all, so the build meets nothing and
-- the output begins with the strip; with slices long enough only the build can refuse. Assumes nothing.
use Prim.Native.Nat.{ℕ, ◌+◌}
use mathlib.Core.Bool.{Bool, true, false, cond, ◌||◌}
use mathlib.Core.List.{List, [], ◌∷◌}
use mathlib.Core.Option.{Option, none, some}
use mathlib.Core.Path.{◌≡◌, refl, sym, ap, ◌∙◌}
use borrow.Author.Tests.{le-ltb}
use lib.Dec.{ltb}
use lib.IntN.{pos}
use lib.ListN.{length, drop}
use lib.Seq.{take-append_seam}
use Rattle.layout.specs.Refusals.{work_too_short, output_too_short}
use Rattle.layout.specs.Walk.{Refusal, refusal, Walk, fine, refused, after, answered, answer}
use Rattle.section.specs.declared.limits.Limits.{Limits}
use Rattle.section.specs.Model.{model_section}
use Rattle.section.specs.declared.model.Model.{Model}
use Rattle.section.specs.Summary.{summary_of, model_summary}
use Rattle.section.specs.declared.summary.PmmDocumentModelSummary.{PmmDocumentModelSummary}
use Rattle.clip.specs.Section.{records_at, bones, morphs, clip_refusal, reached_records, loose_records}
use Rattle.clip.proofs.Clip.{all-records}
use Rattle.clip.proofs.Follow.{answer-is, no_answer}
use Rattle.strip.specs.Strip.{strip_of}
use Rattle.strip.specs.Work.{first_work, second_work}
use Rattle.strip.specs.Call.{Built, Outcome, over, untouched, zeroed, built, slices_tested, once_read, strip_call}
use Rattle.strip.specs.Runs.{Lent, outcome, Within, Accepted, strip_out, LongEnough}

-- What an accepted run tells.
pub record Tells (width : ℕ) (x : Lent) (m : Model) (o : Outcome) (b : Built) : Type 0 where
  pub passes : clip_refusal x.section m ≡ none
  pub length : b.strip_length ≡ length (strip_of width x.section m)
  pub reached : b.reached ≡ reached_records x.section m
  pub loose : b.loose ≡ loose_records x.section m
  pub output : o.output ≡ over (strip_of width x.section m) x.output

module _ (limits : Limits) (width : ℕ) (x : Lent) where
  read_first : (w : Walk Model) (b : Built) → model_section limits x.section x.start ≡ w → (once_read x.first x.second x.output width x.section w).answer ≡ answered b → Within limits width x
  read_first (refused why) b is e = no_answer e
  read_first (fine m end) b is e = record { model = m; end = end; reads = is }

  pub accepted-within : Accepted limits width x → Within limits width x
  unfolding strip_call
  accepted-within a = read_first (model_section limits x.section x.start) a.answer refl a.answers

  module _ (r : Within limits width x) where
    s : List ℕ
    s = x.section

    m : Model
    m = r.model

    need : ℕ
    need = (bones x.section r.model).additional + (morphs x.section r.model).additional

    once : outcome limits width x ≡ slices_tested x.first x.second x.output width x.section r.model need
    unfolding strip_call need
    once = rw r.reads

    tells-written : (short : Bool) (n : ℕ) (strip : List ℕ) (b : Built) → clip_refusal x.section r.model ≡ none → strip ≡ strip_of width x.section r.model
        → (o : Outcome) → o ≡ cond short (zeroed x.first x.second x.output n (refusal output_too_short (pos (length strip) ∷ []))) (record { answer = answered (record { strip_length = length strip; reached = reached_records x.section r.model; loose = loose_records x.section r.model }); first = over (first_work x.section r.model) x.first; second = over (second_work x.section r.model) x.second; output = over strip x.output })
        → o.answer ≡ answered b → Tells width x r.model o b
    tells-written true n strip b passes is o eo e = no_answer (sym (ap (λ (o : Outcome). o.answer) eo) ∙ e)
    tells-written false n strip b passes is o eo e =
        let told = answer-is (sym (ap (λ (o : Outcome). o.answer) eo) ∙ e) in
        record {
          passes = passes;
          length = sym (ap (λ (b : Built). b.strip_length) told) ∙ ap length is;
          reached = sym (ap (λ (b : Built). b.reached) told);
          loose = sym (ap (λ (b : Built). b.loose) told);
          output = ap (λ (o : Outcome). o.output) eo ∙ ap (λ (bytes : List ℕ). over bytes x.output) is;
        }

    tells-built : (why : Option Refusal) (b : Built) → clip_refusal x.section r.model ≡ why → (o : Outcome) → o ≡ built x.first x.second x.output width x.section r.model need why → o.answer ≡ answered b → Tells width x r.model o b
    tells-built (some why) b is o eo e = no_answer (sym (ap (λ (o : Outcome). o.answer) eo) ∙ e)
    tells-built none b is o eo e = tells-written (ltb (length x.output) (length (strip_of width x.section r.model))) need (strip_of width x.section r.model) b is refl o eo e

    tells-slices : (short : Bool) (b : Built) (o : Outcome) → o ≡ cond short (untouched x.first x.second x.output (refusal work_too_short (pos need ∷ []))) (built x.first x.second x.output width x.section r.model need (clip_refusal x.section r.model)) → o.answer ≡ answered b → Tells width x r.model o b
    tells-slices true b o eo e = no_answer (sym (ap (λ (o : Outcome). o.answer) eo) ∙ e)
    tells-slices false b o eo e = tells-built (clip_refusal x.section r.model) b refl o eo e

    pub tells : (a : Accepted limits width x) → Tells width x r.model (outcome limits width x) a.answer
    tells a = tells-slices (ltb (length x.first) need || ltb (length x.second) need) a.answer (outcome limits width x) once a.answers

    -- The output up to the length answered is the strip.
    pub strip-out : (a : Accepted limits width x) → strip_out limits width x a ≡ strip_of width x.section r.model
    strip-out a =
        let t = tells a in
        rw (t.length, t.output) (take-append_seam (strip_of width x.section r.model) (drop (length (strip_of width x.section r.model)) x.output))

    -- "Reached plus loose is the number of additional bone and morph records."
    pub records-told : (a : Accepted limits width x) → a.answer.reached + a.answer.loose ≡ (bones x.section r.model).additional + (morphs x.section r.model).additional
    records-told a = let t = tells a in rw (t.reached, t.loose) (all-records x.section r.model t.passes)

    -- With slices long enough, a build that meets no refusal is accepted.
    pub accepts : LongEnough width x r.model → clip_refusal x.section r.model ≡ none → Accepted limits width x
    unfolding need
    accepts long passes =
        let strip = strip_of width x.section r.model in
        record {
          answer = record { strip_length = length strip; reached = reached_records x.section r.model; loose = loose_records x.section r.model };
          answers = rw (once, le-ltb _ _ long.first, le-ltb _ _ long.second, passes, le-ltb (length x.output) (length strip) (long.output passes));
        }

  -- The summary counts the same records.
  summary-is : (r : Within limits width x) (summary : PmmDocumentModelSummary) → model_summary limits x.section x.start ≡ answered summary → summary_of x.start r.model r.end ≡ summary
  unfolding model_summary
  summary-is r summary is = answer-is (sym (ap (λ (w : Walk Model). answer (after w (λ m end. fine (summary_of x.start m end) end))) r.reads) ∙ is)

  pub summary-told : (a : Accepted limits width x) (summary : PmmDocumentModelSummary) → model_summary limits x.section x.start ≡ answered summary → a.answer.reached + a.answer.loose ≡ summary.bone_keyframes + summary.morph_keyframes
  unfolding bones morphs records_at summary_of
  summary-told a summary is =
      let r = accepted-within a in
      records-told r a ∙ ap (λ (m : PmmDocumentModelSummary). m.bone_keyframes + m.morph_keyframes) (summary-is r summary is)
