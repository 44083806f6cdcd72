-- The first item and i runs come to n: n and the size of the other runs are the record's size (`Sized`), n and the place in the other runs
-- are the place in the record (`Whole`). A run has less than 2^41 bytes, so five can be added up. Assumes nothing.
use Rattle.std.proofs.Common.{◌≡◌, ℕ, suc, ◌+◌, ◌-◌, ◌*◌, ◌/◌, ◌≤◌, ◌<◌, [], ◌++◌, replicate, length, get_or, drop, drop-cons, add-one, refl, sym, ap, ◌∙◌, arith}
use Rattle.std.proofs.lemmas.List.{drop_all}
use Rattle.layout.specs.Records.{size}
use Rattle.layout.proofs.Sizes.{size-run}
use Rattle.layout.specs.Blocks.{place}
use Rattle.layout.proofs.Blocks.{place-run, run-whole, run_short}
use Rattle.binary.specs.Items.{runs_widths, widths}
use Rattle.binary.specs.declared.runs.Run.{Run}
use Rattle.binary.specs.declared.blocks.Items.{Items}

-- What the first item and i runs come to.
pub record Sized (items : Items) (i n : ℕ) : Type 0 where
  pub len : length items.runs ≡ 5
  pub is : n + size (runs_widths (drop i items.runs)) ≡ size (widths items)
  pub small : n ≤ 255 + i * 2199023255552

-- The first item and i runs are whole in `room` bytes, and end at n.
pub record Whole (items : Items) (room i n : ℕ) : Type 0 where
  pub len : length items.runs ≡ 5
  pub is : n + place (runs_widths (drop i items.runs)) (room - n) ≡ place (widths items) room
  pub inside : n ≤ room

pub sized-first : (items : Items) → length items.runs ≡ 5 → items.first < 256 → Sized items 0 items.first
unfolding size
sized-first items len narrow = record { len = len; is = refl; small = omega arith }

pub whole-first : (items : Items) (room : ℕ) → length items.runs ≡ 5 → items.first ≤ room → Whole items room 0 items.first
unfolding place
whole-first items room len fits = record { len = len; is = grind arith; inside = fits }

pub place-lacks : (items : Items) (room : ℕ) → room < items.first → 0 ≡ place (widths items) room
unfolding place
place-lacks items room lacks = grind arith

module _ (items : Items) (i : ℕ) (run : Run) (more : i < 5) (is : run ≡ get_or items.runs i run) where
  front : length items.runs ≡ 5 → runs_widths (drop i items.runs) ≡ replicate run.times run.width ++ runs_widths (drop (i + 1) items.runs)
  front len =
      ap runs_widths (drop-cons items.runs i run (omega arith))
      ∙ ap (λ (r : Run). replicate r.times r.width ++ runs_widths (drop (suc i) items.runs)) (sym is)
      ∙ rw add-one refl

  pub sized-more : (n m : ℕ) → m ≡ run.times * run.width → m < 2199023255552 → Sized items i n → Sized items (i + 1) (n + m)
  sized-more n m e small sized =
      let next = size-run run.times run.width (runs_widths (drop (i + 1) items.runs)) in
      let at = rw (front sized.len) at sized.is in
      record { len = sized.len; is = omega arith; small = omega (arith, sized.small) }

  module _ (room n m : ℕ) (e : m ≡ run.times * run.width) (whole : Whole items room i n) where
    from : n + place (replicate run.times run.width ++ runs_widths (drop (i + 1) items.runs)) (room - n) ≡ place (widths items) room
    from = rw (front whole.len) at whole.is

    pub whole-more : m ≤ room - n → Whole items room (i + 1) (n + m)
    whole-more fits =
        let others = runs_widths (drop (i + 1) items.runs) in
        let at = place-run run.times run.width others (room - n) ∙ run-whole run.times run.width (room - n) _ (omega arith) in
        let left : room - n - run.times * run.width ≡ room - (n + m) = omega arith in
        let behind = ap (place others) left in
        record { len = whole.len; is = omega (arith, from, at, behind); inside = omega arith }

    pub place-in_run : room - n < m → n + (room - n) / run.width * run.width ≡ place (widths items) room
    place-in_run lacks =
        let at = place-run run.times run.width (runs_widths (drop (i + 1) items.runs)) (room - n) ∙ run_short run.times run.width (room - n) _ (omega arith) in
        ap (λ (k : ℕ). n + k) (sym at) ∙ from

pub sized-all : (items : Items) (i n : ℕ) → 5 ≤ i → Sized items i n → n ≡ size (widths items)
unfolding size
sized-all items i n past sized =
    let none : drop i items.runs ≡ [] = drop_all i items.runs (omega (arith, sized.len)) in
    let at = rw none at sized.is in
    omega (arith, at)

pub whole-all : (items : Items) (room i n : ℕ) → 5 ≤ i → Whole items room i n → n ≡ place (widths items) room
unfolding place
whole-all items room i n past whole =
    let none : drop i items.runs ≡ [] = drop_all i items.runs (omega (arith, whole.len)) in
    let at = rw none at whole.is in
    omega (arith, at)

pub ruleset passing = (sized-first, whole-first, place-lacks, whole-more, place-in_run, whole-all)
