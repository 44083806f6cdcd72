-- What a caller in C sees of a run is what demand 3 speaks of (specs, Demand3): 0 is returned of just those that are accepted, and the
-- strip's length is the first of the values, which no later one writes over; nor does one write over the others where there are places for
-- three (specs, ReachedAndLoose). Assumes nothing.
use Prim.Native.Nat.{ℕ, zero, suc, ◌+◌, ◌≤◌, ◌<◌}
use native.Mathlib.Omega.{arith}
use mathlib.Core.List.{List, [], ◌∷◌}
use mathlib.Core.Path.{◌≡◌, refl, ap, ◌∙◌}
use lib.ListN.{length, take, get_or, set, length-set}
use lib.Seq.{get_or-set_same, get_or-set_other}
use Rattle.layout.specs.Walk.{Answer}
use Rattle.section.specs.Limits.{edition1}
use Rattle.strip.specs.Strip.{count_width}
use Rattle.strip.specs.Call.{Built}
use Rattle.strip.specs.Runs.{Accepted}
use Rattle.strip.proofs.Call.{records-told, summary-told}
use Rattle.answer_numbers.specs.Answers.{status}
use Rattle.answer_numbers.specs.Put.{put}
use Rattle.strip_export.specs.Answers.{numbers, written}
use Rattle.strip_export.specs.Run.{Run}
use Rattle.strip_export.specs.Demand3.{Seen}
use Rattle.strip_export.specs.ReachedAndLoose.{ReachedAndLoose}

-- A place in front of those that are written.
put-behind : (xs : List ℕ) (at k : ℕ) (slice : List ℕ) → k < at → get_or (put at xs slice) k 0 ≡ get_or slice k 0
unfolding put
put-behind [] at k slice lt = refl
put-behind (x ∷ xs) at k slice lt =
    put-behind xs (suc at) k (set slice at x) (omega arith) ∙ get_or-set_other slice at k x 0 (λ e. omega (arith, e))

-- A place that is written.
put-there : (xs : List ℕ) (at k place : ℕ) (slice : List ℕ) → at + k ≡ place → k < length xs → place < length slice → get_or (put at xs slice) place 0 ≡ get_or xs k 0
unfolding put
put-there [] at k place slice is lt room = absurd (omega (arith, lt))
put-there (x ∷ xs) at zero place slice is lt room =
    let here : place ≡ at = omega (arith, is) in
    rw here (put-behind xs (suc at) at (set slice at x) (omega arith) ∙ get_or-set_same slice at x 0 (omega (arith, room, here)))
put-there (x ∷ xs) at (suc k) place slice is lt room =
    put-there xs (suc at) k place (set slice at x) (omega (arith, is)) (omega (arith, lt)) (omega (arith, room, length-set slice at x))

module _ (x : Run) where
  -- A number of the answer, where there is a place for it.
  told : (k : ℕ) → k < 3 → k < length x.before → (a : Accepted edition1 count_width x.lent) → get_or x.values k 0 ≡ get_or (numbers a.answer) k 0
  told k few room a =
      ap (λ (v : List ℕ). get_or v k 0) (x.call.writes ∙ ap (λ (o : Answer Built). put 0 (written o) x.before) a.answers)
      ∙ put-there (numbers a.answer) 0 k k x.before (omega arith) few room

  accepted : x.returned ≡ 0 → Accepted edition1 count_width x.lent
  accepted is = let a = x.call.zero is in record { answer = a.value; answers = a.is }

  pub seen : Seen x
  seen = record {
    accepted = (accepted, λ a. x.call.returns ∙ ap status a.answers);
    strip = λ some a. ap (λ (n : ℕ). take n x.output) (told 0 (omega arith) some a) ∙ ap (take a.answer.strip_length) x.call.leaves_output;
  }

  reached-seen : 3 ≤ length x.before → (a : Accepted edition1 count_width x.lent) → get_or x.values 1 0 + get_or x.values 2 0 ≡ a.answer.reached + a.answer.loose
  reached-seen room a = rw (told 1 (omega arith) (omega (arith, room)) a, told 2 (omega arith) (omega (arith, room)) a)

  pub reached-and-loose : ReachedAndLoose x
  reached-and-loose = record {
    of_section = λ room is read. reached-seen room (accepted is) ∙ records-told edition1 count_width x.lent read (accepted is);
    of_summary = λ room is summary told. reached-seen room (accepted is) ∙ summary-told edition1 count_width x.lent (accepted is) summary told;
  }
