-- What the reader asks of tracks (25) holds of those that were read: each has a key, no frame stands twice in it, and the keys behind the
-- first ones are no more than the limit, since none of these tests was met. Assumes nothing.
use Rattle.std.proofs.Common.{◌≡◌, ℕ, zero, suc, ◌+◌, ◌-◌, ◌<◌, ◌≤◌, false, ◌||◌, List, [], ◌∷◌, length, eqb, ltb, Some, sym, ap, ◌∙◌, subst, arith, All}
use borrow.Author.Tests.{eqb-false, ltb-false}
use Rattle.std.specs.List.{AllByRecursion, slice_get}
use Rattle.std.proofs.lemmas.{Option.{same_Some}, List.Elements.{recursion_from_All}}
use Rattle.layout.specs.{Refusals.{never_written}, Walk.{answered}}
use Rattle.section.specs.declared.limits.Limits.{Limits}
use Rattle.clip.specs.{First.{member}, Fields.{bone, morph}}
use Rattle.clip.proofs.First.{or-false}
use Rattle.strip.specs.Strip.{FieldsKey, Contents}
use Rattle.strip_reader.specs.{Front.{refuse_if, number}, Key.{Form, form_of, key}, Read.{keys, track, tracks, contents, read_strip}}
use Rattle.strip_reader.proofs.{FrontLaws.{AreBytes}, Inversion.{gave, came, not-met, numbered}, ReadWritten.{additional_of}, WrittenAgain.{keys-again, track-again, tracks-again, within}}

-- No frame is one of those before, the last one first.
abbrev pub Apart : List ℕ → List FieldsKey → Type 0
Apart before [] = Unit {0}
Apart before (k ∷ ks) = (member k.frame before ≡ false) × Apart (k.frame ∷ before) ks

-- A frame that is none of these.
no-member : (n m : ℕ) (ms : List ℕ) → member n (m ∷ ms) ≡ false → (n ≡ m → ⊥) × (member n ms ≡ false)
unfolding member
no-member n m ms e = let both = or-false (eqb n m) (member n ms) e in (eqb-false n m both.0, both.1)

not-before : (before : List ℕ) (ks : List FieldsKey) → Apart before ks → (q : ℕ) (l : FieldsKey) → slice_get ks q ≡ Some l → member l.frame before ≡ false
not-before before [] apart q l e = absurd (let z : ◌≡◌ {A = ℕ} 0 1 = cc in omega arith)
not-before before (k ∷ ks) apart zero l e = subst (λ (h : FieldsKey). member h.frame before ≡ false) (same_Some k l e) apart.0
not-before before (k ∷ ks) apart (suc q) l e = (no-member l.frame k.frame before (not-before (k.frame ∷ before) ks apart.1 q l e)).1

pub apart-frames : (before : List ℕ) (ks : List FieldsKey) → Apart before ks → (p q : ℕ) → p < q → (k l : FieldsKey) → slice_get ks p ≡ Some k → slice_get ks q ≡ Some l → k.frame ≡ l.frame → ⊥
apart-frames before [] apart p q less k l at_p at_q same = let z : ◌≡◌ {A = ℕ} 0 1 = cc in omega arith
apart-frames before (h ∷ ks) apart zero zero less k l at_p at_q same = omega (arith, less)
apart-frames before (h ∷ ks) apart zero (suc q) less k l at_p at_q same =
    let other = (no-member l.frame h.frame before (not-before (h.frame ∷ before) ks apart.1 q l at_q)).0 in
    other (sym same ∙ ap (λ (f : FieldsKey). f.frame) (sym (same_Some h k at_p)))
apart-frames before (h ∷ ks) apart (suc p) zero less k l at_p at_q same = omega (arith, less)
apart-frames before (h ∷ ks) apart (suc p) (suc q) less k l at_p at_q same = apart-frames (h.frame ∷ before) ks apart.1 p q (omega (arith, less)) k l at_p at_q same

pub record TrackKept (ks : List FieldsKey) : Type 0 where
  pub some : 0 < length ks
  pub apart : Apart [] ks

pub record TracksKept (limits : Limits) (ts : List (List FieldsKey)) : Type 0 where
  pub each : AllByRecursion TrackKept ts
  pub sum : additional_of ts ≤ limits.additional

module _ (form : Form) where
  keys-apart : (n : ℕ) (before s left : List ℕ) (ks : List FieldsKey) → keys form n before s ≡ answered (ks, left) → Apart before ks
  unfolding keys
  keys-apart zero before s left ks e = subst (Apart before) (gave [] ks s left e).0 tt
  keys-apart (suc n) before s left ks e =
      let one = came (key form s) _ ks left e in
      let two = came (refuse_if (member one.value.frame before) never_written one.behind) _ ks left one.rest in
      let three = came (keys form n (one.value.frame ∷ before) two.behind) _ ks left two.rest in
      let new = not-met (member one.value.frame before) never_written one.behind two.behind two.value two.first in
      let others = keys-apart n (one.value.frame ∷ before) two.behind three.behind three.value three.first in
      subst (Apart before) (gave (one.value ∷ three.value) ks three.behind left three.rest).0 (new.0, others)

  module _ (limits : Limits) (width : ℕ) where
    -- A track, behind so many additional keys.
    record Kept (additional : ℕ) (ks : List FieldsKey) : Type 0 where
      track : TrackKept ks
      sum : additional + (length ks - 1) ≤ limits.additional

    track-kept : (additional : ℕ) (s left : List ℕ) (ks : List FieldsKey) → AreBytes s → track form limits width additional s ≡ answered (ks, left) → Kept additional ks
    unfolding track
    track-kept additional s left ks small e =
        let one = came (number width s) _ ks left e in
        let two = came (keys form one.value [] one.behind) _ ks left one.rest in
        let three = came (refuse_if (eqb one.value 0 || ltb limits.additional (additional + (one.value - 1))) never_written two.behind) _ ks left two.rest in
        let count = numbered width one.value s one.behind small one.first in
        let many = (keys-again form one.value [] one.behind two.behind two.value count.bytes two.first).1 in
        let tests = or-false (eqb one.value 0) (ltb limits.additional (additional + (one.value - 1))) (not-met _ never_written two.behind three.behind three.value three.first).0 in
        let none : one.value ≡ 0 → ⊥ = eqb-false one.value 0 tests.0 in
        let few = ltb-false limits.additional (additional + (one.value - 1)) tests.1 in
        subst (Kept additional) (gave two.value ks three.behind left three.rest).0
        (record {
          track = record { some = omega (arith, none, many); apart = keys-apart one.value [] one.behind two.behind two.value two.first };
          sum = omega (arith, few, many);
        })

    -- Tracks behind so many additional keys.
    record AllKept (additional : ℕ) (ts : List (List FieldsKey)) : Type 0 where
      each : AllByRecursion TrackKept ts
      sum : additional + additional_of ts ≤ limits.additional

    tracks-kept : (n additional : ℕ) (s left : List ℕ) (ts : List (List FieldsKey)) → AreBytes s → additional ≤ limits.additional → tracks form limits width n additional s ≡ answered (ts, left) → AllKept additional ts
    unfolding tracks
    tracks-kept zero additional s left ts small few e = subst (AllKept additional) (gave [] ts s left e).0 (record { each = tt; sum = omega (arith, few) })
    tracks-kept (suc n) additional s left ts small few e =
        let one = came (track form limits width additional s) _ ts left e in
        let two = came (tracks form limits width n (additional + (length one.value - 1)) one.behind) _ ts left one.rest in
        let behind = (track-again form limits width additional s one.behind one.value small one.first).bytes in
        let first = track-kept additional s one.behind one.value small one.first in
        let others = tracks-kept n (additional + (length one.value - 1)) one.behind two.behind two.value behind first.sum two.first in
        subst (AllKept additional) (gave (one.value ∷ two.value) ts two.behind left two.rest).0
        (record { each = (first.track, others.each); sum = omega (arith, others.sum) })

pub record ContentsKept (limits : Limits) (c : Contents) : Type 0 where
  pub bones : TracksKept limits c.bones
  pub morphs : TracksKept limits c.morphs

module _ (limits : Limits) (width : ℕ) where
  contents-kept : (s left : List ℕ) (c : Contents) → AreBytes s → contents limits width s ≡ answered (c, left) → ContentsKept limits c
  unfolding contents
  contents-kept s left c small e =
      let one = came (number width s) _ c left e in
      let two = came (number width one.behind) _ c left one.rest in
      let three = came (tracks (form_of bone) limits width one.value 0 two.behind) _ c left two.rest in
      let four = came (tracks (form_of morph) limits width two.value 0 three.behind) _ c left three.rest in
      let bone_count = numbered width one.value s one.behind small one.first in
      let morph_count = numbered width two.value one.behind two.behind bone_count.bytes two.first in
      let behind = (tracks-again (form_of bone) limits width one.value 0 two.behind three.behind three.value morph_count.bytes three.first).0.bytes in
      let bones = tracks-kept (form_of bone) limits width one.value 0 two.behind three.behind three.value morph_count.bytes (omega arith) three.first in
      let morphs = tracks-kept (form_of morph) limits width two.value 0 three.behind four.behind four.value behind (omega arith) four.first in
      subst (ContentsKept limits) (gave (record { bones = three.value; morphs = four.value }) c four.behind left four.rest).0
      (record { bones = record { each = bones.each; sum = omega (arith, bones.sum) }; morphs = record { each = morphs.each; sum = omega (arith, morphs.sum) } })

  pub read-kept : (s : List ℕ) (c : Contents) → All (λ b. b < 256) s → read_strip limits width s ≡ answered c → ContentsKept limits c
  unfolding read_strip
  read-kept s c small e = contents-kept s [] c (recursion_from_All (λ b. b < 256) s small) (within limits width (ltb limits.bytes (length s)) (contents limits width s) c e)
