-- What the strip call answers is fixed by its contract (specs, Fixed): an answer can be told back from what document 01 says of it
-- (`back`), one case for each refusal's number, so two answers that read the same are the same. Assumes nothing.
use mathlib.Core.Bool.{cond}
use mathlib.Core.Path.{◌≡◌, refl, sym, ap, ◌∙◌}
use lib.Dec.{eqb}
use Rattle.layout.specs.Walk.{Answer, answered, declined}
use Rattle.layout.specs.Walk as Said
use Rattle.binary.specs.declared.refusal.Refusal.{Refusal}
use Rattle.section.specs.Limits.{edition1}
use Rattle.strip.specs.Strip.{count_width}
use Rattle.strip.specs.Call as Definition
use Rattle.strip.specs.Runs.{Lent, outcome}
use Rattle.blocks.specs.declared.fault.Fault.{Fault}
use Rattle.blocks.proofs.Back.{number, value, fault_back, fault-back}
use Rattle.strip_call.specs.Answers.{strip_refusal, strip_read}
use Rattle.strip_call.specs.Run.{Run}
use Rattle.strip_call_laws.specs.Fixed.{Fixed}
use Rattle.strip_call.specs.declared.answer.Built.{Built}
use Rattle.strip_call.specs.declared.answer.StripRefusal.{StripRefusal}
use Rattle.std.specs.Prelude.{Result, Ok, Err}

abbrev refusal_back : Said.Refusal → StripRefusal
refusal_back why =
    cond (eqb why.number 1) (StripRefusal.Reading (Refusal.TooShort (number (value why 0))))
    (cond (eqb why.number 2) (StripRefusal.Reading (Refusal.NegativeCount (number (value why 0))))
    (cond (eqb why.number 16) (StripRefusal.Reading Refusal.TooLong)
    (cond (eqb why.number 17) (StripRefusal.WorkTooShort (number (value why 0)))
    (cond (eqb why.number 18) (StripRefusal.OutputTooShort (number (value why 0)))
    (cond (eqb why.number 19) (StripRefusal.Reading Refusal.Absent)
    (cond (eqb why.number 20) (StripRefusal.Reading (Refusal.CountAboveLimit (number (value why 0)))) (StripRefusal.Build (fault_back why))))))))

fault-only : (f : Fault) → refusal_back (strip_refusal (StripRefusal.Build f)) ≡ StripRefusal.Build (fault_back (strip_refusal (StripRefusal.Build f)))
fault-only (Fault.NegativeIndex kind index) = refl
fault-only (Fault.IndexBelowCount kind index count) = refl
fault-only (Fault.RepeatedIndex kind index) = refl
fault-only (Fault.MissingLink track link) = refl
fault-only (Fault.Cycle track link) = refl
fault-only (Fault.WrongPrevious track link found expected) = refl
fault-only (Fault.NegativeFrame track frame) = refl
fault-only (Fault.RepeatedFrame track frame) = refl
fault-only (Fault.InvalidTranslation bone frame) = refl
fault-only (Fault.InvalidOrientation bone frame) = refl
fault-only (Fault.InvalidWeight morph frame) = refl
fault-only (Fault.Disconnected kind records) = refl

refusal-back : (why : StripRefusal) → refusal_back (strip_refusal why) ≡ why
refusal-back (StripRefusal.Reading (Refusal.TooShort at)) = refl
refusal-back (StripRefusal.Reading (Refusal.NegativeCount at)) = refl
refusal-back (StripRefusal.Reading (Refusal.CountAboveLimit at)) = refl
refusal-back (StripRefusal.Reading Refusal.TooLong) = refl
refusal-back (StripRefusal.Reading Refusal.Absent) = refl
refusal-back (StripRefusal.Build fault) = fault-only fault ∙ ap (λ (f : Fault). StripRefusal.Build f) (fault-back fault)
refusal-back (StripRefusal.WorkTooShort places) = refl
refusal-back (StripRefusal.OutputTooShort length) = refl

abbrev back : Answer Definition.Built → Result Built StripRefusal
back (answered b) = Ok (record { strip_length = b.strip_length; reached = b.reached; loose = b.loose })
back (declined why) = Err (refusal_back why)

back-read : (r : Result Built StripRefusal) → back (strip_read r) ≡ r
back-read (Ok built) = refl
back-read (Err why) = ap (λ (w : StripRefusal). Err w) (refusal-back why)

same-answer : (x y : Run) → strip_read x.answer ≡ strip_read y.answer → x.answer ≡ y.answer
same-answer x y same = sym (back-read x.answer) ∙ ap back same ∙ back-read y.answer

pub fixed : Fixed
fixed =
    record {
      answers = same-answer;
      runs = λ x y lent.
          let same = ap (λ (l : Lent). outcome edition1 count_width l) lent in (
            same-answer x y (x.call.answers ∙ ap (λ (o : Definition.Outcome). o.answer) same ∙ sym y.call.answers),
            x.call.leaves_first ∙ ap (λ (o : Definition.Outcome). o.first) same ∙ sym y.call.leaves_first,
            x.call.leaves_second ∙ ap (λ (o : Definition.Outcome). o.second) same ∙ sym y.call.leaves_second,
            x.call.leaves_output ∙ ap (λ (o : Definition.Outcome). o.output) same ∙ sym y.call.leaves_output,
          );
    }
