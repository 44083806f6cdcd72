-- The strings that are left, skipped from `next` on, give what all of them give, skipped from `at` on.
use Rattle.std.proofs.Common.{◌≡◌, ◌-◌}
use Rattle.layout.specs.Walk.{string, times}
use Rattle.binary.proofs.strings.skip_strings.Given as goal

abbrev pub invariant-loop : goal.invariant-loop
invariant-loop l = times l.count string l.s l.at ≡ times (l.count - l.counter) string l.s l.next
