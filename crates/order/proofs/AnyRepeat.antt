-- Whether the given number is a slot's, or two slots have equal numbers, told by the slots in order: these are the slots as they were, and
-- of two with equal numbers one now stands right behind an equal number (Equals). Assumes nothing.
use Prim.Native.Nat.{ℕ, zero, suc, ◌+◌, ◌-◌, ◌≤◌, ◌<◌}
use native.Mathlib.Omega.{arith}
use mathlib.Core.Bool.{Bool, true, false}
use mathlib.Core.List.{List}
use mathlib.Core.Path.{◌≡◌, refl, sym, ap, subst, ◌∙◌}
use borrow.Author.Tests.{ltb-true, ltb-false}
use lib.Dec.{ltb}
use lib.ListN.{length, get_or}
use Rattle.std.specs.Prelude.{Option, Some, None, is_some}
use Rattle.order.specs.Field.{number_of, Within, AllBelow}
use Rattle.order.specs.Sorted.{times, Sorted}
use Rattle.order.specs.Find.{Finds}
use Rattle.order.specs.Repeat.{Repeats, number_at, with_first, Behind, LeastBehind}
use Rattle.order.specs.declared.field.Field.{Field}
use Rattle.order.proofs.Equals.{there, back, later-behind, behind-later}
use Rattle.order.proofs.Times.{times-some, times-two, less-or-more}

module _ (s : List ℕ) (f : Field) (within : Within s f) (before after : List ℕ) (sorted : Sorted s f before after) (below : AllBelow f.count before) (once : (x : ℕ) → times x before ≤ 1) where
  -- The given number is that of a slot.
  pub repeats-first : (number : ℕ) (r : Option ℕ) → Finds s f after number r → (i : ℕ) → r ≡ Some i → Repeats (with_first number s f before) (length before + 1) true
  repeats-first number r finds i is =
      let found : Finds s f after number (Some i) = subst (Finds s f after number) is finds in
      let at = back s f within before after sorted below once i found.0 in
      (0, suc at.place, omega arith, omega (arith, at.inside), sym (ap (number_of s f) at.is ∙ found.1))

  pub repeats-found : (number : ℕ) (r : Option ℕ) → Finds s f after number r → is_some r ≡ true → Repeats (with_first number s f before) (length before + 1) true
  repeats-found number (Some i) finds is = repeats-first number (Some i) finds i refl
  repeats-found number None finds is = absurd (let no : false ≡ true = is in cc)

  module _ (number m : ℕ) (pass : LeastBehind s f after f.count m) where
    repeats-later : m < f.count → Repeats (with_first number s f before) (length before + 1) true
    repeats-later lt =
        let behind = pass.some lt in
        let i = behind.0 in
        let a = back s f within before after sorted below once (i - 1) (omega (arith, behind.1.inside)) in
        let b = back s f within before after sorted below once i behind.1.inside in
        let up = behind-later s f within before after sorted below once i behind.1 in
        let same : number_at s f before a.place ≡ number_at s f before b.place = ap (number_of s f) a.is ∙ behind.1.equal ∙ sym (ap (number_of s f) b.is) in
        let apart : a.place ≡ b.place → ⊥ = λ e.
        let both : get_or after (i - 1) 0 ≡ get_or after i 0 = sym a.is ∙ ap (λ k. get_or before k 0) e ∙ b.is in omega (arith, up, both) in
        less-or-more a.place b.place apart
        (λ less. (suc a.place, suc b.place, omega arith, omega (arith, b.inside), same))
        (λ more. (suc b.place, suc a.place, omega arith, omega (arith, a.inside), sym same))

    -- No slot has the given number, and none stands right behind one with an equal number.
    repeats-never : Finds s f after number None → f.count ≤ m → Repeats (with_first number s f before) (length before + 1) false
    repeats-never absent none i zero lt inside same = absurd (omega arith)
    repeats-never absent none zero (suc j) lt inside same =
        let at = there s f within before after sorted below once (get_or before j 0) (times-some before j (omega arith)) in
        absent at.place at.inside (ap (number_of s f) at.is ∙ sym same)
    repeats-never absent none (suc i) (suc j) lt inside same =
        let p = get_or before i 0 in
        let q = get_or before j 0 in
        let apart : p ≡ q → ⊥ = λ e. let two = times-two before i j (omega arith) (omega arith) e in omega (arith, two, once q) in
        let some-p = times-some before i (omega arith) in
        let some-q = times-some before j (omega arith) in
        less-or-more p q apart
        (λ less. never q (later-behind s f within before after sorted below once p q less some-p some-q same) (below j (omega arith)))
        (λ more. never p (later-behind s f within before after sorted below once q p more some-q some-p (sym same)) (below i (omega arith)))
      where
        never : (x : ℕ) → ((k : ℕ) × Behind s f after k × (get_or after k 0 ≡ x)) → x < f.count → ⊥
        never x at small = let least = pass.least at.0 at.1 in omega (arith, least, at.2)

    pub repeats-told : (r : Option ℕ) → Finds s f after number r → r ≡ None → Repeats (with_first number s f before) (length before + 1) (ltb m f.count)
    repeats-told r finds is = go (ltb m f.count) refl
      where
        absent : Finds s f after number None
        absent = subst (Finds s f after number) is finds

        go : (b : Bool) → ltb m f.count ≡ b → Repeats (with_first number s f before) (length before + 1) b
        go true e = repeats-later (ltb-true m f.count e)
        go false e = repeats-never absent (ltb-false m f.count e)

    pub repeats-absent : (r : Option ℕ) → Finds s f after number r → is_some r ≡ false → Repeats (with_first number s f before) (length before + 1) (ltb m f.count)
    repeats-absent None finds is = repeats-told None finds refl
    repeats-absent (Some i) finds is = absurd (let no : true ≡ false = is in cc)

pub ruleset repeats = (repeats-found, repeats-absent)
