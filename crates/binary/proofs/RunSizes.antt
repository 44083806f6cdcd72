-- A run's size is small enough that five can be added up. Assumes nothing.
use Rattle.std.proofs.Common.{ℕ, ◌*◌, ◌<◌, arith}
use native.Mathlib.Nat.{mul-le-mul_left}

pub run_small : (n width : ℕ) → n < 8589934592 → width < 256 → n * width < 2199023255552
run_small n width few narrow = omega (arith, mul-le-mul_left {m = width} {n = 255} n (omega arith))
