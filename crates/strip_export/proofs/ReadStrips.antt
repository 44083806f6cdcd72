-- The refusals of a strip that is read have no value, so nothing is written. Assumes nothing.
use Rattle.std.proofs.Common.{◌≡◌, ℕ, List, arith, sym}
use Rattle.answer_numbers.specs.Answers.{Refuses}
use Rattle.answer_numbers.proofs.Putting.{put-none}
use Rattle.strip_reader.specs.Answers.{reader_refusal}
use Rattle.strip_reader.specs.declared.refusal.ReaderRefusal.{ReaderRefusal}

pub refused : (why : ReaderRefusal) (values : List ℕ) (returned : ℕ) → returned ≡ (reader_refusal why).number → Refuses (reader_refusal why) values returned values
refused ReaderRefusal.TooLong values returned is = record { returns = is; some = omega arith; writes = sym (put-none 0 values) }
refused ReaderRefusal.NotWhole values returned is = record { returns = is; some = omega arith; writes = sym (put-none 0 values) }
refused ReaderRefusal.UnknownMap values returned is = record { returns = is; some = omega arith; writes = sym (put-none 0 values) }
refused ReaderRefusal.NeverWritten values returned is = record { returns = is; some = omega arith; writes = sym (put-none 0 values) }
refused ReaderRefusal.Absent values returned is = record { returns = is; some = omega arith; writes = sym (put-none 0 values) }

pub ruleset refusals = (refused)
