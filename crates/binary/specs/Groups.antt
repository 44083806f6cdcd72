-- Some i32 or f32 (FORMAT, Numbers), one behind the other, as their 32 bits each.
use Rattle.std.specs.Prelude.{ℕ, zero, suc, List, [], ◌∷◌}
use Rattle.layout.specs.Walk.{Reader, ◌>>=◌, give, u32}

unfoldable pub u32s : ℕ → Reader (List ℕ)
u32s zero = give []
u32s (suc n) = do
  first ← u32
  others ← u32s n
  give (first ∷ others)
