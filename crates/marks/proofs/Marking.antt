-- A record of a chain is in no chain before (clip, Shared): so marking one chain more gives its records the mark that the first chain to
-- hold them has, and leaves all other marks; a mark of 0 is that of a record that no chain holds. Assumes nothing.
use Prim.Native.Nat.{ℕ, suc, ◌+◌, ◌<◌}
use native.Mathlib.Numerals.{add-one}
use native.Mathlib.Omega.{arith}
use mathlib.Core.Bool.{Bool, true, false}
use mathlib.Core.List.{List, [], ◌∷◌}
use mathlib.Core.Option.{Option, none, some}
use mathlib.Core.Path.{◌≡◌, refl, sym, ap, ◌∙◌, subst}
use borrow.Author.Tests.{eqb-true, eqb-false}
use lib.Dec.{eqb}
use lib.ListN.{length, get_or, set, length-set, replicate, length-replicate, get_or-replicate}
use lib.Seq.{get_or-set_same, get_or-set_other}
use Rattle.clip.specs.First.{given, ◌or◌, first_met, member}
use Rattle.clip.specs.Fields.{Records, Kind}
use Rattle.clip.specs.Build.{chain_of, reached_before, reached}
use Rattle.clip.proofs.First.{or-true, or-false, contrary, none_first, none-given, given-none, given-some, first-none, first_some, any_false, false-any, true-any}
use Rattle.clip.specs.Scan.{Indexed}
use Rattle.clip.proofs.Shared.{never-shared}
use Rattle.strip.specs.Work.{each, plus_one, track_mark}
use Rattle.marks.specs.Marks.{marked}
use Rattle.marks.proofs.Each.{length-each, each_at, is-each}

module _ (mark : ℕ) where
  length_marked : (ps xs : List ℕ) → length (marked mark ps xs) ≡ length xs
  length_marked [] xs = refl
  length_marked (p ∷ ps) xs = length_marked ps (set xs p mark) ∙ length-set xs p mark

  other-mark : (ps xs : List ℕ) (i : ℕ) → member i ps ≡ false → get_or (marked mark ps xs) i 0 ≡ get_or xs i 0
  unfolding member
  other-mark [] xs i out = refl
  other-mark (p ∷ ps) xs i out =
      let both = or-false (eqb i p) (member i ps) out in
      other-mark ps (set xs p mark) i both.1 ∙ get_or-set_other xs p i mark 0 (eqb-false i p both.0)

  its-mark : (ps xs : List ℕ) (i : ℕ) → i < length xs → member i ps ≡ true → get_or (marked mark ps xs) i 0 ≡ mark
  unfolding member
  its-mark [] xs i lt is = contrary false is refl
  its-mark (p ∷ ps) xs i lt is = go (member i ps) refl (its-mark ps (set xs p mark) i (subst (λ (n : ℕ). i < n) (sym (length-set xs p mark)) lt))
    where
      go : (b : Bool) → member i ps ≡ b → (member i ps ≡ true → get_or (marked mark ps (set xs p mark)) i 0 ≡ mark) → get_or (marked mark ps (set xs p mark)) i 0 ≡ mark
      go true e later = later e
      go false e later =
          or-true (eqb i p) (member i ps) is
          (λ here. other-mark ps (set xs p mark) i e ∙ rw (eqb-true i p here) (get_or-set_same xs p mark 0 (subst (λ (k : ℕ). k < length xs) (eqb-true i p here) lt)))
          (λ inside. contrary (member i ps) inside e)

module _ {B : Type 0} (kind : Kind) (r : Records B) where
  -- The mark of a record once the tracks before one are followed.
  abbrev pub mark_before : ℕ → ℕ → ℕ
  mark_before track p = plus_one (first_met track (λ t. given (member p (chain_of kind r t)) t))

  pub none-marked : replicate r.additional 0 ≡ each r.additional (mark_before 0)
  unfolding first_met
  none-marked = is-each (mark_before 0) r.additional (replicate r.additional 0) (length-replicate r.additional 0) (λ i lt. get_or-replicate r.additional i 0 0 lt)

  pub all-marked : each r.additional (mark_before r.tracks) ≡ each r.additional (track_mark kind r)
  unfolding track_mark
  all-marked = refl

  module _ (x : Indexed r) (track : ℕ) (is-track : track < r.tracks) where
    mark-in : (p : ℕ) → member p (chain_of kind r track) ≡ true → mark_before (suc track) p ≡ track + 1
    unfolding first_met reached_before
    mark-in p is =
        let new = never-shared kind r x track is-track p is in
        let before = none_first track (λ t. given (member p (chain_of kind r t)) t) (λ t lt. none-given (member p (chain_of kind r t)) t (any_false (λ u. member p (chain_of kind r u)) track new t lt)) in
        rw (before, is)

    mark-out : (p : ℕ) → member p (chain_of kind r track) ≡ false → mark_before (suc track) p ≡ mark_before track p
    unfolding first_met
    mark-out p is = rw is (go (first_met track (λ t. given (member p (chain_of kind r t)) t)))
      where
        go : (o : Option ℕ) → plus_one (o or none) ≡ plus_one o
        go none = refl
        go (some t) = refl

    pub track-marked : (xs : List ℕ) → xs ≡ each r.additional (mark_before track) → marked (track + 1) (chain_of kind r track) xs ≡ each r.additional (mark_before (track + 1))
    track-marked xs is =
        rw add-one
        (is-each (mark_before (suc track)) r.additional (marked (suc track) (chain_of kind r track) xs) (length_marked (suc track) (chain_of kind r track) xs ∙ long) (λ p lt. go p lt (member p (chain_of kind r track)) refl))
      where
        long : length xs ≡ r.additional
        long = ap length is ∙ length-each (mark_before track) r.additional

        go : (p : ℕ) → p < r.additional → (b : Bool) → member p (chain_of kind r track) ≡ b → get_or (marked (suc track) (chain_of kind r track) xs) p 0 ≡ mark_before (suc track) p
        go p lt true e = its-mark (suc track) (chain_of kind r track) xs p (omega (arith, lt, long)) e ∙ sym (mark-in p e ∙ add-one track)
        go p lt false e = other-mark (suc track) (chain_of kind r track) xs p e ∙ rw is (each_at (mark_before track) r.additional p lt) ∙ sym (mark-out p e)

  -- A mark of 0 is that of a record that no chain holds.
  pub zero-mark : (p : ℕ) → track_mark kind r p ≡ 0 → reached kind r p ≡ false
  unfolding track_mark reached_before
  zero-mark p is = false-any (λ t. member p (chain_of kind r t)) r.tracks (λ t lt. given-none (member p (chain_of kind r t)) t (first-none r.tracks (λ u. given (member p (chain_of kind r u)) u) (nothing (first_met r.tracks (λ u. given (member p (chain_of kind r u)) u)) is) t lt))
    where
      nothing : (o : Option ℕ) → plus_one o ≡ 0 → o ≡ none
      nothing none e = refl
      nothing (some t) e = absurd (omega arith)

  pub some-mark : (p : ℕ) → (track_mark kind r p ≡ 0 → ⊥) → reached kind r p ≡ true
  unfolding track_mark reached_before
  some-mark p on = go (first_met r.tracks (λ u. given (member p (chain_of kind r u)) u)) refl on
    where
      go : (o : Option ℕ) → first_met r.tracks (λ u. given (member p (chain_of kind r u)) u) ≡ o → (plus_one o ≡ 0 → ⊥) → reached kind r p ≡ true
      go none e on = absurd (on refl)
      go (some t) e on =
          let at = first_some r.tracks (λ u. given (member p (chain_of kind r u)) u) t e in
          true-any (λ u. member p (chain_of kind r u)) r.tracks at.place at.below (given-some (member p (chain_of kind r at.place)) at.place t at.is).0
