-- The first zero byte of a field, as a search from the front finds it. Assumes nothing.
use Rattle.std.proofs.Common.{◌≡◌, ℕ, List, length, refl, arith, rules}
use Rattle.std.specs.List.{position, position_or_len}
use Rattle.std.specs.Option.{unwrap_or}
use Rattle.std.specs.Prelude.{◌==◌}
use Rattle.std.proofs.lemmas.Grind.{common_steps}
use Rattle.std.proofs.lemmas.List.Recursion.{is_position_or_len}
use Rattle.std.proofs.lemmas.List.Sums.{prefix_len-le-length}
use Rattle.layout.specs.Walk.{before_zero}

before_zero-position_or_len : (bytes : List ℕ) → before_zero bytes ≡ position_or_len (λ b. b == 0) bytes
unfolding before_zero
before_zero-position_or_len = is_position_or_len before_zero (λ b. b == 0) refl (λ b bytes. search rules)

pub before_zero_or : (bytes : List ℕ) (width : ℕ) → length bytes ≡ width → unwrap_or (position (λ b. b == 0) bytes) width ≡ before_zero bytes
before_zero_or bytes width e = grind (arith, common_steps, before_zero-position_or_len, prefix_len-le-length)
