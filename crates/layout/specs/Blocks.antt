-- Where the first item stands that is not whole (document 01, "Turned down": 1; FORMAT, Numbers), among items of fixed widths.
use Rattle.std.specs.Prelude.{ℕ, ◌+◌, ◌-◌, ◌*◌, ◌/◌, cond, List, [], ◌∷◌, leb}

-- Of items that do not all fit in `room` bytes: where the first stands that does not.
unfoldable pub place : List ℕ → ℕ → ℕ
place [] room = 0
place (width ∷ widths) room = cond (leb width room) (width + place widths (room - width)) 0

-- The same for n items of one width with others behind them, whose place in what n items leave is `rest`.
unfoldable pub run_place : ℕ → ℕ → ℕ → ℕ → ℕ
run_place n width room rest = cond (leb (n * width) room) (n * width + rest) (room / width * width)
