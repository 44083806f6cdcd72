-- The strip that a section is answered with stands in the slice that was lent for it. Assumes nothing.
use Rattle.std.proofs.Common.{ℕ, ◌≤◌, List, length, drop, sym, ap, ◌∙◌, arith, length-append, Ok}
use Rattle.section.specs.Limits.{edition1}
use Rattle.strip.specs.{Strip.{count_width, strip_of}, Runs.{Lent, Accepted}}
use Rattle.strip.proofs.Call.{accepted-within, tells}
use Rattle.strip_call.specs.Run.{StripCall}
use Rattle.strip_call.specs.declared.answer.Built.{Built}

module _ (x : Lent) {built : Built} {first second output : List ℕ} (call : StripCall x (Ok built) first second output) where
  accepted : Accepted edition1 count_width x
  accepted = record { answer = record { strip_length = built.strip_length; reached = built.reached; loose = built.loose }; answers = sym call.answers }

  pub strip-fits : built.strip_length ≤ length output
  unfolding accepted
  strip-fits =
      let r = accepted-within edition1 count_width x accepted in
      let t = tells edition1 count_width x r accepted in
      let strip : List ℕ = strip_of count_width x.section r.model in
      let whole = ap length (call.leaves_output ∙ t.output) ∙ length-append strip (drop (length strip) x.output) in
      let many = t.length in
      omega (arith, whole)
