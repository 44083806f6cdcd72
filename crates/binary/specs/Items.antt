-- The items that `Items` of src/blocks.rt stands for, by their widths.
use Rattle.std.specs.Prelude.{ℕ, List, [], ◌∷◌, ◌++◌, replicate}
use Rattle.binary.specs.declared.{runs.Run.{Run}, blocks.Items.{Items}}

-- The items of runs, one behind the other.
abbrev pub runs_widths : List Run → List ℕ
runs_widths [] = []
runs_widths (run ∷ runs) = replicate run.times run.width ++ runs_widths runs

abbrev pub widths : Items → List ℕ
widths i = i.first ∷ runs_widths i.runs
