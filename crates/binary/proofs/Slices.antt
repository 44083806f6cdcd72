-- A part between two offsets is so many bytes from the first one on. Assumes nothing.
use Rattle.std.proofs.Common.{◌≡◌, ℕ, ◌+◌, ◌-◌, ◌≤◌, List, length, take, drop, sym, ap, ◌∙◌, arith}
use Rattle.layout.specs.Walk.{bytes_at}
use Rattle.layout.proofs.Slices.{bytes_part}

pub sliced : (s : List ℕ) (at n : ℕ) → at + n ≤ length s → take (at + n - at) (drop at s) ≡ bytes_at s at n
sliced s at n fits =
    let many : at + n - at ≡ n = omega arith in ap (λ (m : ℕ). take m (drop at s)) many ∙ sym (bytes_part s at n fits)
