-- "For any other link check missing, then cycle, then previous": a record that is met again has another previous link than the one expected,
-- so a cycle is told from a wrong previous link only where that link is wrong. Assumes nothing.
use Prim.Native.Nat.{ℕ, ◌<◌}
use mathlib.Core.Bool.{true}
use mathlib.Core.List.{List}
use mathlib.Core.Path.{◌≡◌}
use Rattle.clip.specs.First.{member}
use Rattle.clip.specs.Fields.{Records}
use Rattle.clip.specs.Scan.{Indexed}
use Rattle.clip.proofs.First.{contrary}
use Rattle.clip.proofs.Chained.{Linked}
use Rattle.clip.proofs.Walked.{new-record}

pub cycle-is-wrong : {B : Type 0} (r : Records B) → Indexed r → (t : ℕ) → t < r.tracks → (l : ℕ) (ps : List ℕ) (e' l' p : ℕ) → Linked r t l ps e' l' → (l' ≡ 0 → ⊥) → p < r.additional → (r.at p).index ≡ l' → member p ps ≡ true → (r.at p).previous ≡ e' → ⊥
cycle-is-wrong r x t is-track l ps e' l' p c on below is seen back =
    contrary (member p ps) seen (new-record r x t is-track l ps e' l' p c on below is back)
