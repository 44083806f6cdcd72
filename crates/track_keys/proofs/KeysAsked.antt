-- As far as the first repeat, key m, a frame is among those before it exactly if its key is m (`repeated-not`, `repeated-is`): so a
-- comparison of key numbers stands for the set of frames met. Assumes nothing.
use Prim.Native.Nat.{ℕ, zero, suc, ◌<◌}
use native.Mathlib.Omega.{arith}
use mathlib.Core.Bool.{true, false}
use mathlib.Core.List.{List}
use mathlib.Core.Option.{Option}
use mathlib.Core.Path.{◌≡◌, refl, sym, ap, ◌∙◌}
use borrow.Author.Tests.{eq-eqb, ne_eqb}
use lib.Dec.{eqb}
use lib.ListN.{length, get_or, drop}
use lib.Seq.{drop-cons}
use Rattle.layout.specs.Walk.{Refusal}
use Rattle.clip.specs.First.{◌or◌, member}
use Rattle.clip.specs.Fields.{Records, Kind}
use Rattle.clip.specs.Keys.{key_test}
use Rattle.clip.specs.Build.{record_key, reached_before, records_refusal}
use Rattle.order.specs.Repeat.{FirstRepeat}
use Rattle.track_keys.specs.Tracks.{frames_of, earlier}
use Rattle.clip.proofs.First.{below_suc, true-or}

module _ (f : ℕ → ℕ) where
  earlier-member : (n j i : ℕ) → i < j → f i ≡ n → member n (earlier f j) ≡ true
  unfolding member
  earlier-member n zero i lt e = absurd (omega arith)
  earlier-member n (suc j) i lt e =
      below_suc i j lt
      (λ last. rw (eq-eqb n (f j) (sym (ap f (sym last) ∙ e))))
      (λ less. true-or (eqb n (f j)) (member n (earlier f j)) (earlier-member n j i less e))

  earlier-new : (n j : ℕ) → ((i : ℕ) → i < j → f i ≡ n → ⊥) → member n (earlier f j) ≡ false
  unfolding member
  earlier-new n zero h = refl
  earlier-new n (suc j) h = rw (ne_eqb n (f j) (λ e. h j (omega arith) (sym e))) (earlier-new n j (λ i lt. h i (omega arith)))

  pub repeated-not : (n m j : ℕ) → FirstRepeat f n m → j < m → member (f j) (earlier f j) ≡ false
  repeated-not n m j x lt = earlier-new (f j) j (λ i less. x.apart i j less lt)

  pub repeated-is : (n m j : ℕ) → FirstRepeat f n m → j ≡ m → j < n → member (f j) (earlier f j) ≡ true
  repeated-is n m j x e lt =
      let lm : m < n = omega arith in
      let a = x.again lm in
      let less = a.1 in
      earlier-member (f j) j a.0 (omega (arith, less, e)) (a.2 ∙ ap f (sym e))

module _ {B : Type 0} (kind : Kind) (asked : B → Option ℕ) (r : Records B) (t : ℕ) (ps : List ℕ) where
  -- What is left of the records of a chain.
  abbrev pub rest : ℕ → Option Refusal
  rest i = records_refusal kind (key_test kind asked) r t (earlier (frames_of r t ps) (suc i)) (drop i ps)

  module _ (i : ℕ) (inside : i < length ps) (new : reached_before kind r t (get_or ps i 0) ≡ false) where
    pub one : rest i ≡ (key_test kind asked t (earlier (frames_of r t ps) (suc i)) (record_key (r.at (get_or ps i 0))) or rest (suc i))
    unfolding records_refusal
    one = rw (drop-cons ps i 0 inside, new)
