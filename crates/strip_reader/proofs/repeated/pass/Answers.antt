-- Each turn by its law in Turns. Assumes nothing.
use Rattle.std.proofs.Common.{ℕ, ◌+◌, ◌-◌, length, drop, sym, ap, ◌∙◌, arith}
use Rattle.blocks.specs.Kind.{kind_of}
use Rattle.strip_reader.specs.{Key.{form_of}, Skip.{frames}, Repeated.{pass, nothing, kept_in}}
use Rattle.strip_reader.proofs.Turns.{pass-done, pass-end, pass-found, pass-more, keep-ascending}
use Rattle.strip_reader.proofs.repeated.pass.Goals as goal

pub keys-init : goal.keys-init
keys-init c = record { within = omega arith; ascending = tt; same = ap (λ (n : ℕ). pass (length c.args.space.now) c.args.least (frames (form_of (kind_of c.args.kind)) n (drop c.args.at c.args.strip.now)) nothing) {x = c.args.count - 0} {y = c.args.count} (omega arith) }

pub returns-in_default : goal.returns-in_default
returns-in_default c =
    c.tell.ensures
    ∙ sym (pass-end (length c.keys.space) c.args.least (form_of (kind_of c.args.kind)) (drop c.keys.at c.args.strip.now) (kept_in c.keys.space c.keys.collected) (c.args.count - c.keys.counter) c.in_default.ensures)
    ∙ c.keys.invariant.same

pub with-requires-clause-within : goal.with-requires-clause-within
with-requires-clause-within c = c.keys.invariant.within

pub with-requires-clause-ascending : goal.with-requires-clause-ascending
with-requires-clause-ascending c = c.keys.invariant.ascending

pub returns-in_default-with : goal.returns-in_default-with
returns-in_default-with c =
    sym (pass-found (length c.keys.space) c.args.least (form_of (kind_of c.args.kind)) (drop c.keys.at c.args.strip.now) (kept_in c.keys.space c.keys.collected) (c.args.count - c.keys.counter) (c.args.count - (c.keys.counter + 1)) c.in-Some.frame (drop c.in-Some.next c.args.strip.now) (omega arith) c.in-Some.ensures c.in_default-with.ensures.is)
    ∙ c.keys.invariant.same

pub keys-preserved : goal.keys-preserved
keys-preserved c =
    record {
      within = c.in-Some-with.ensures.within;
      ascending = keep-ascending (length c.keys.space) c.args.least c.in-Some.frame (kept_in c.keys.space c.keys.collected) (kept_in c.with.new.space c.in-Some-with.more) c.keys.invariant.ascending c.in-Some-with.ensures.is;
      same =
          ap (λ (room : ℕ). pass room c.args.least (frames (form_of (kind_of c.args.kind)) (c.args.count - (c.keys.counter + 1)) (drop c.in-Some.next c.args.strip.now)) (kept_in c.with.new.space c.in-Some-with.more)) c.with.auto.space
          ∙ sym (pass-more (length c.keys.space) c.args.least (form_of (kind_of c.args.kind)) (drop c.keys.at c.args.strip.now) (kept_in c.keys.space c.keys.collected) (c.args.count - c.keys.counter) (c.args.count - (c.keys.counter + 1)) c.in-Some.frame (drop c.in-Some.next c.args.strip.now) (kept_in c.with.new.space c.in-Some-with.more) (omega arith) c.in-Some.ensures c.in-Some-with.ensures.is)
          ∙ c.keys.invariant.same;
    }

pub returns : goal.returns
returns c =
    c.tell-2.ensures
    ∙ sym (pass-done (length c.keys.space) c.args.least (form_of (kind_of c.args.kind)) (drop c.keys.at c.args.strip.now) (kept_in c.keys.space c.keys.collected) (c.args.count - c.keys.counter) (omega arith))
    ∙ c.keys.invariant.same
