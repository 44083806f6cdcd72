-- Demand 3 for any two runs of the strip call (specs, Demand3): by the contract a run is accepted exactly where the definition accepts it,
-- with the same strip (`down`, `up`, `same_out`), so the theorems about the definition hold of runs. Assumes nothing.
use mathlib.Core.Path.{◌≡◌, refl, sym, ap, ◌∙◌}
use lib.ListN.{take}
use Rattle.layout.specs.Walk.{answered}
use Rattle.section.specs.Limits.{edition1}
use Rattle.strip.specs.Strip.{count_width}
use Rattle.strip.specs.Runs as Strip1
use Rattle.strip.proofs.Demand3.{demand3}
use Rattle.clip.proofs.Follow.{no_answer}
use Rattle.strip_call.specs.Answers.{strip_read}
use Rattle.strip_call.specs.Run.{Run, Accepted, strip_out}
use Rattle.strip_call_laws.specs.Demand3.{MatchedRuns, AcceptedRuns}
use Rattle.strip_call.specs.declared.answer.Built.{Built}
use Rattle.strip_call.specs.declared.answer.StripRefusal.{StripRefusal}
use Rattle.std.specs.Prelude.{Result, Ok, Err}

module _ (x : Run) where
  -- A run that answers a strip is accepted by the definition, with the same strip; and the other way round.
  abbrev pub down : Accepted x → Strip1.Accepted edition1 count_width x.lent
  down a =
      record {
        answer = record { strip_length = a.built.strip_length; reached = a.built.reached; loose = a.built.loose };
        answers = sym x.call.answers ∙ ap strip_read a.answers;
      }

  same_out : (a : Accepted x) → strip_out x a ≡ Strip1.strip_out edition1 count_width x.lent (down a)
  same_out a = ap (take a.built.strip_length) x.call.leaves_output

  up : Strip1.Accepted edition1 count_width x.lent → Accepted x
  up a = go x.answer refl (x.call.answers ∙ a.answers)
    where
      go : (r : Result Built StripRefusal) → x.answer ≡ r → strip_read x.answer ≡ answered a.answer → Accepted x
      go (Ok built) is e = record { built = built; answers = is }
      go (Err why) is e = no_answer (sym (ap strip_read is) ∙ e)

pub matched-runs : MatchedRuns
matched-runs =
    record {
      accepted = λ x y rx ry lx ly of_bones of_morphs ax.
          let e = demand3.0.accepted x.lent y.lent rx ry lx ly of_bones of_morphs (down x ax) in
          (λ ay. e.0 (down y ay), λ idle. up y (e.1 idle));
      equal = λ x y rx ry of_bones of_morphs ax ay.
          same_out x ax ∙ demand3.0.equal x.lent y.lent rx ry of_bones of_morphs (down x ax) (down y ay) ∙ sym (same_out y ay);
    }

pub accepted-runs : AcceptedRuns
accepted-runs =
    record {
      within = λ x a. demand3.1.within x.lent (down x a);
      equal = λ x y rx ry ax ay.
          let e = demand3.1.equal x.lent y.lent rx ry (down x ax) (down y ay) in
          (λ same. e.0 (sym (same_out x ax) ∙ same ∙ same_out y ay), λ t. same_out x ax ∙ e.1 t ∙ sym (same_out y ay));
    }
