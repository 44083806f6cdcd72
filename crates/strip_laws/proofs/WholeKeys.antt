-- Keys that were read of bytes are whole: each field is as wide as its group and made of bytes, since it was read of the strip, or is the
-- plain value; and 25 was not met for the key. Assumes nothing.
use Rattle.std.proofs.Common.{◌≡◌, ℕ, zero, suc, ◌+◌, ◌-◌, ◌^◌, ◌/◌, ◌%◌, ◌<◌, Bool, true, false, cond, ◌||◌, not, List, [], ◌∷◌, length, eqb, leb, ltb, refl, subst, All}
use borrow.Author.Tests.{ltb-true}
use Rattle.std.specs.List.{AllByRecursion, list_all}
use Rattle.std.proofs.lemmas.List.Elements.{recursion_from_All}
use Rattle.layout.specs.{Refusals.{unknown_map, never_written}, Numbers.{negative}, Walk.{answered}}
use Rattle.section.specs.declared.limits.Limits.{Limits}
use Rattle.clip.specs.{First.{member}, Fields.{bone, morph}}
use Rattle.clip.proofs.First.{or-false}
use Rattle.strip.specs.{Numbers.{little_endian}, Plain.{Group, bone_groups, morph_groups, floats, one, plain_curve, plain_curves}, Keys.{map_byte}, Strip.{FieldsKey, Contents}}
use Rattle.strip.proofs.Keys.{Shaped}
use Rattle.strip_reader.specs.{Front.{Front, ◌>>=◌, give, refuse_if, bytes, number}, Key.{Form, form_of, fields, not_of_builder, key}, Read.{keys, track, tracks, contents, read_strip}}
use Rattle.strip_reader.proofs.{FrontLaws.{AreBytes}, Inversion.{both-bytes, gave, came, not-met, taken, numbered}, KeyAgain.{key-again}, WrittenAgain.{tracks-again, track-again, within}, Filled.{Sensible, bones-sensible, morphs-sensible, fields-shaped}}
use Rattle.strip_laws.proofs.Floats.{both-true}

-- The plain values are bytes.
abbrev pub ByteGroups : List Group → Type 0
ByteGroups = AllByRecursion (λ (g : Group). AreBytes g.value)

small-bytes : (bs : List ℕ) → list_all (λ b. ltb b 256) bs ≡ true → AreBytes bs
small-bytes [] e = tt
small-bytes (b ∷ bs) e = let both = both-true (ltb b 256) (list_all (λ b. ltb b 256) bs) e in (ltb-true b 256 both.0, small-bytes bs both.1)

bone-bytes : ByteGroups bone_groups
unfolding floats little_endian
bone-bytes = (
  small-bytes (floats (0 ∷ 0 ∷ 0 ∷ [])) refl,
  (small-bytes (floats (0 ∷ 0 ∷ 0 ∷ one ∷ [])) refl, (small-bytes plain_curves refl, (small-bytes plain_curve refl, tt))),
)

morph-bytes : ByteGroups morph_groups
unfolding floats little_endian
morph-bytes = (small-bytes (floats (0 ∷ [])) refl, tt)

pub record WholeKey (form : Form) (k : FieldsKey) : Type 0 where
  pub shaped : Shaped form.groups k.body
  pub bytes : AllByRecursion AreBytes k.body
  pub frame : negative k.frame ≡ false
  pub passes : form.refused k.body ≡ false

-- One value after another.
field-bytes : (g : Group) (bit : Bool) (s field behind : List ℕ) → AreBytes g.value → AreBytes s → cond {A = Front (List ℕ)} bit (bytes g.width) (give g.value) s ≡ answered (field, behind) → AreBytes field × AreBytes behind
field-bytes g true s field behind ok small e = both-bytes field behind (subst AreBytes (taken g.width s field behind e).is small)
field-bytes g false s field behind ok small e = let same = gave g.value field s behind e in (subst AreBytes same.0 ok, subst AreBytes same.1 small)

fields-bytes : (gs : List Group) (map : ℕ) (s left : List ℕ) (fs : List (List ℕ)) → ByteGroups gs → AreBytes s → fields gs map s ≡ answered (fs, left) → AllByRecursion AreBytes fs
unfolding fields
fields-bytes [] map s left fs ok small e = subst (AllByRecursion AreBytes) (gave [] fs s left e).0 tt
fields-bytes (g ∷ gs) map s left fs ok small e =
    let one = came (cond (eqb (map % 2) 1) (bytes g.width) (give g.value) s) (λ field. ◌>>=◌ (fields gs (map / 2)) (λ others. give (field ∷ others))) fs left e in
    let more = came (fields gs (map / 2) one.behind) (λ others. give (one.value ∷ others)) fs left one.rest in
    let first = field-bytes g (eqb (map % 2) 1) s one.value one.behind ok.0 small one.first in
    let others = fields-bytes gs (map / 2) one.behind more.behind more.value ok.1 first.1 more.first in
    subst (AllByRecursion AreBytes) (gave (one.value ∷ more.value) fs more.behind left more.rest).0 (first.0, others)

module _ (form : Form) (sensible : Sensible form.groups) (ok : ByteGroups form.groups) where
  abbrev Whole : FieldsKey → Type 0
  Whole = WholeKey form

  key-whole : (s left : List ℕ) (k : FieldsKey) → AreBytes s → key form s ≡ answered (k, left) → Whole k
  unfolding key not_of_builder
  key-whole s left k small e =
      let one = came (number 4 s) _ k left e in
      let two = came (number 1 one.behind) _ k left one.rest in
      let three = came (refuse_if (leb (2 ^ length form.groups) two.value) unknown_map two.behind) _ k left two.rest in
      let four = came (fields form.groups two.value three.behind) _ k left three.rest in
      let made : FieldsKey = record { frame = one.value; body = four.value } in
      let five = came (refuse_if (not_of_builder form two.value made) never_written four.behind) _ k left four.rest in
      let frame = numbered 4 one.value s one.behind small one.first in
      let map = numbered 1 two.value one.behind two.behind frame.bytes two.first in
      let known = not-met (leb (2 ^ length form.groups) two.value) unknown_map two.behind three.behind three.value three.first in
      let written = not-met (not_of_builder form two.value made) never_written four.behind five.behind five.value five.first in
      let tests = or-false (not (eqb two.value (map_byte form.groups four.value)) || form.refused four.value) (negative one.value) written.0 in
      let asked = or-false (not (eqb two.value (map_byte form.groups four.value))) (form.refused four.value) tests.0 in
      let shaped = fields-shaped form.groups two.value three.behind four.behind four.value sensible four.first in
      let whole = fields-bytes form.groups two.value three.behind four.behind four.value ok (subst AreBytes known.1 map.bytes) four.first in
      subst Whole (gave made k five.behind left five.rest).0 (record { shaped = shaped; bytes = whole; frame = tests.1; passes = asked.1 })

  keys-whole : (n : ℕ) (before s left : List ℕ) (ks : List FieldsKey) → AreBytes s → keys form n before s ≡ answered (ks, left) → AllByRecursion Whole ks
  unfolding keys
  keys-whole zero before s left ks small e = subst (AllByRecursion Whole) (gave [] ks s left e).0 tt
  keys-whole (suc n) before s left ks small e =
      let one = came (key form s) _ ks left e in
      let two = came (refuse_if (member one.value.frame before) never_written one.behind) _ ks left one.rest in
      let three = came (keys form n (one.value.frame ∷ before) two.behind) _ ks left two.rest in
      let behind = (key-again form s one.behind one.value small one.first).bytes in
      let new = not-met _ never_written one.behind two.behind two.value two.first in
      let first = key-whole s one.behind one.value small one.first in
      let others = keys-whole n (one.value.frame ∷ before) two.behind three.behind three.value (subst AreBytes new.1 behind) three.first in
      subst (AllByRecursion Whole) (gave (one.value ∷ three.value) ks three.behind left three.rest).0 (first, others)

  module _ (limits : Limits) (width : ℕ) where
    track-whole : (additional : ℕ) (s left : List ℕ) (ks : List FieldsKey) → AreBytes s → track form limits width additional s ≡ answered (ks, left) → AllByRecursion Whole ks
    unfolding track
    track-whole additional s left ks small e =
        let one = came (number width s) _ ks left e in
        let two = came (keys form one.value [] one.behind) _ ks left one.rest in
        let three = came (refuse_if (eqb one.value 0 || ltb limits.additional (additional + (one.value - 1))) never_written two.behind) _ ks left two.rest in
        let count = numbered width one.value s one.behind small one.first in
        let of_track = keys-whole one.value [] one.behind two.behind two.value count.bytes two.first in
        subst (AllByRecursion Whole) (gave two.value ks three.behind left three.rest).0 of_track

    tracks-whole : (n additional : ℕ) (s left : List ℕ) (ts : List (List FieldsKey)) → AreBytes s → tracks form limits width n additional s ≡ answered (ts, left) → AllByRecursion (AllByRecursion Whole) ts
    unfolding tracks
    tracks-whole zero additional s left ts small e = subst (AllByRecursion (AllByRecursion Whole)) (gave [] ts s left e).0 tt
    tracks-whole (suc n) additional s left ts small e =
        let one = came (track form limits width additional s) _ ts left e in
        let two = came (tracks form limits width n (additional + (length one.value - 1)) one.behind) _ ts left one.rest in
        let behind = (track-again form limits width additional s one.behind one.value small one.first).bytes in
        let first = track-whole additional s one.behind one.value small one.first in
        let others = tracks-whole n (additional + (length one.value - 1)) one.behind two.behind two.value behind two.first in
        subst (AllByRecursion (AllByRecursion Whole)) (gave (one.value ∷ two.value) ts two.behind left two.rest).0 (first, others)

pub record WholeContents (c : Contents) : Type 0 where
  pub bones : AllByRecursion (AllByRecursion (WholeKey (form_of bone))) c.bones
  pub morphs : AllByRecursion (AllByRecursion (WholeKey (form_of morph))) c.morphs

module _ (limits : Limits) (width : ℕ) where
  contents-whole : (s left : List ℕ) (c : Contents) → AreBytes s → contents limits width s ≡ answered (c, left) → WholeContents c
  unfolding contents
  contents-whole s left c small e =
      let one = came (number width s) _ c left e in
      let two = came (number width one.behind) _ c left one.rest in
      let three = came (tracks (form_of bone) limits width one.value 0 two.behind) _ c left two.rest in
      let four = came (tracks (form_of morph) limits width two.value 0 three.behind) _ c left three.rest in
      let bone_count = numbered width one.value s one.behind small one.first in
      let morph_count = numbered width two.value one.behind two.behind bone_count.bytes two.first in
      let behind = (tracks-again (form_of bone) limits width one.value 0 two.behind three.behind three.value morph_count.bytes three.first).0.bytes in
      let bones = tracks-whole (form_of bone) bones-sensible bone-bytes limits width one.value 0 two.behind three.behind three.value morph_count.bytes three.first in
      let morphs = tracks-whole (form_of morph) morphs-sensible morph-bytes limits width two.value 0 three.behind four.behind four.value behind four.first in
      subst WholeContents (gave (record { bones = three.value; morphs = four.value }) c four.behind left four.rest).0 (record { bones = bones; morphs = morphs })

  pub read-whole : (s : List ℕ) (c : Contents) → All (λ b. b < 256) s → read_strip limits width s ≡ answered c → WholeContents c
  unfolding read_strip
  read-whole s c small e = contents-whole s [] c (recursion_from_All (λ b. b < 256) s small) (within limits width (ltb limits.bytes (length s)) (contents limits width s) c e)
