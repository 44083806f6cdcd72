-- Text written at a place of a slice, as far as it reaches: where it ends there, and what the slice is then.
use Rattle.std.specs.Prelude.{ℕ, ◌+◌, min, List, ◌≡◌, length}
use Rattle.answer_numbers.specs.Put.{put}

pub record Written (at : ℕ) (text old : List ℕ) (end : ℕ) (new : List ℕ) : Type 0 where
  pub ends : end ≡ min (at + length text) (length old)
  pub leaves : new ≡ put at text old
