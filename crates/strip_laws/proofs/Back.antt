-- An answer is told back from what document 02 says of it, by the refusal's number; so a call's answer is what its contract says (`told`).
-- Assumes nothing.
use Rattle.std.proofs.Common.{◌≡◌, cond, eqb, Result, Ok, Err, refl, sym, ap, ◌∙◌}
use Rattle.layout.specs.{Refusals.{strip_not_whole, unknown_map, never_written, too_long}, Walk.{Refusal, Answer, answered, declined}}
use Rattle.binary.specs.Answers.{answer_by}
use Rattle.strip_reader.specs.Answers.{reader_refusal}
use Rattle.strip_reader.specs.declared.refusal.ReaderRefusal.{ReaderRefusal}

abbrev pub refusal_back : Refusal → ReaderRefusal
refusal_back why =
    cond (eqb why.number too_long) ReaderRefusal.TooLong
    (cond (eqb why.number strip_not_whole) ReaderRefusal.NotWhole
    (cond (eqb why.number unknown_map) ReaderRefusal.UnknownMap (cond (eqb why.number never_written) ReaderRefusal.NeverWritten ReaderRefusal.Absent)))

module _ {A : Type 0} where
  abbrev pub back : Answer A → Result A ReaderRefusal
  back (answered a) = Ok a
  back (declined why) = Err (refusal_back why)

  back-said : (answer : Result A ReaderRefusal) → back (answer_by reader_refusal answer) ≡ answer
  back-said (Ok a) = refl
  back-said (Err ReaderRefusal.TooLong) = refl
  back-said (Err ReaderRefusal.NotWhole) = refl
  back-said (Err ReaderRefusal.UnknownMap) = refl
  back-said (Err ReaderRefusal.NeverWritten) = refl
  back-said (Err ReaderRefusal.Absent) = refl

  pub told : (answer : Result A ReaderRefusal) (said : Answer A) → answer_by reader_refusal answer ≡ said → answer ≡ back said
  told answer said e = sym (back-said answer) ∙ ap back e

  -- Two answers of which the same is said.
  pub same-said : (x y : Result A ReaderRefusal) (said : Answer A) → answer_by reader_refusal x ≡ said → answer_by reader_refusal y ≡ said → x ≡ y
  same-said x y said e f = told x said e ∙ sym (told y said f)
