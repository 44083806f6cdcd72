-- A strip that is accepted has its tracks standing one behind the other from its fifth byte on, as many as the counts tell: each reader's
-- answer is taken back to its steps. Assumes nothing.
use Rattle.std.proofs.Common.{◌≡◌, ℕ, zero, suc, ◌+◌, ◌-◌, Bool, true, false, cond, ◌||◌, List, [], ◌∷◌, length, take, drop, eqb, ltb, leb, refl, sym, ap, ◌∙◌, subst, drop-drop}
use Rattle.layout.specs.{Refusals.{strip_not_whole, never_written}, Walk.{refusal, Answer, answered, declined}}
use Rattle.section.specs.{Limits.{edition1}, declared.limits.Limits.{Limits}}
use Rattle.clip.specs.{First.{member}, Fields.{bone, morph}}
use Rattle.clip.proofs.Follow.{answer-is, no_answer}
use Rattle.strip.specs.{Numbers.{number_of}, Strip.{count_width, FieldsKey, Contents}}
use Rattle.strip_reader.specs.{Front.{refuse_if, give, bytes, number}, Key.{Form, form_of, key}, Read.{keys, track, tracks, contents, read_strip}, Stands.{KeysAt, TracksAt}, Answers.{of_contents, counts}}
use Rattle.strip_reader.specs.declared.counts.StripCounts.{StripCounts}
use Rattle.strip_reader.proofs.Inversion.{left-is, gave, came, not-met}
use Rattle.strip_reader.proofs.WrittenAgain.{within}

bytes_behind : (n : ℕ) (s front left : List ℕ) → bytes n s ≡ answered (front, left) → left ≡ drop n s
unfolding bytes
bytes_behind n s front left e = go (leb n (length s)) e
  where
    go : (b : Bool) → cond {A = Answer (List ℕ × List ℕ)} b (answered (take n s, drop n s)) (declined (refusal strip_not_whole [])) ≡ answered (front, left) → left ≡ drop n s
    go true e = sym (left-is e)
    go false e = no_answer e

-- A number that was read stands in so many bytes.
pub behind-number : (width n : ℕ) (s left : List ℕ) → number width s ≡ answered (n, left) → left ≡ drop width s
unfolding number
behind-number width n s left e =
    let digits = came (bytes width s) (λ digits. give (number_of digits)) n left e in
    sym (left-is digits.rest) ∙ bytes_behind width s digits.value digits.behind digits.first

module _ (form : Form) where
  -- A track's keys behind its count.
  pub record TrackStands (ks : List FieldsKey) (left rest : List ℕ) : Type 0 where
    pub first : List ℕ
    pub count : number count_width left ≡ answered (length ks, first)
    pub keys : KeysAt form ks first rest

  pub keys-stand : (n : ℕ) (before left : List ℕ) (ks : List FieldsKey) (rest : List ℕ) → keys form n before left ≡ answered (ks, rest) → KeysAt form ks left rest × (length ks ≡ n)
  unfolding keys
  keys-stand zero before left ks rest e =
      let end = gave [] ks left rest e in
      subst (λ (hs : List FieldsKey). KeysAt form hs left rest × (length hs ≡ 0)) end.0 (end.1, refl)
  keys-stand (suc n) before left ks rest e =
      let one = came (key form left) _ ks rest e in
      let two = came (refuse_if (member one.value.frame before) never_written one.behind) _ ks rest one.rest in
      let three = came (keys form n (one.value.frame ∷ before) two.behind) _ ks rest two.rest in
      let new = not-met _ never_written one.behind two.behind two.value two.first in
      let others = keys-stand n (one.value.frame ∷ before) two.behind three.value three.behind three.first in
      let end = gave (one.value ∷ three.value) ks three.behind rest three.rest in
      let stand : KeysAt form three.value one.behind rest =
      subst (λ (l : List ℕ). KeysAt form three.value l rest) (sym new.1) (subst (λ (r : List ℕ). KeysAt form three.value two.behind r) end.1 others.0) in
      subst (λ (hs : List FieldsKey). KeysAt form hs left rest × (length hs ≡ suc n)) end.0 ((one.behind, one.first, stand), ap suc others.1)

  module _ (limits : Limits) where
    pub track-stands : (additional : ℕ) (left : List ℕ) (ks : List FieldsKey) (rest : List ℕ) → track form limits count_width additional left ≡ answered (ks, rest) → TrackStands ks left rest
    unfolding track
    track-stands additional left ks rest e =
        let one = came (number count_width left) _ ks rest e in
        let two = came (keys form one.value [] one.behind) _ ks rest one.rest in
        let three = came (refuse_if (eqb one.value 0 || ltb limits.additional (additional + (one.value - 1))) never_written two.behind) _ ks rest two.rest in
        let of_track = keys-stand one.value [] one.behind two.value two.behind two.first in
        let some = not-met _ never_written two.behind three.behind three.value three.first in
        let end = gave two.value ks three.behind rest three.rest in
        let counted : number count_width left ≡ answered (length two.value, one.behind) = one.first ∙ ap (λ (n : ℕ). answered (n, one.behind)) (sym of_track.1) in
        let stand : KeysAt form two.value one.behind rest = subst (λ (r : List ℕ). KeysAt form two.value one.behind r) (some.1 ∙ end.1) of_track.0 in
        subst (λ (hs : List FieldsKey). TrackStands hs left rest) end.0 (record { first = one.behind; count = counted; keys = stand })

    pub tracks-stand : (n additional : ℕ) (left : List ℕ) (ts : List (List FieldsKey)) (rest : List ℕ) → tracks form limits count_width n additional left ≡ answered (ts, rest) → TracksAt form ts left rest × (length ts ≡ n)
    unfolding tracks
    tracks-stand zero additional left ts rest e =
        let end = gave [] ts left rest e in
        subst (λ (us : List (List FieldsKey)). TracksAt form us left rest × (length us ≡ 0)) end.0 (end.1, refl)
    tracks-stand (suc n) additional left ts rest e =
        let one = came (track form limits count_width additional left) _ ts rest e in
        let two = came (tracks form limits count_width n (additional + (length one.value - 1)) one.behind) _ ts rest one.rest in
        let first = track-stands additional left one.value one.behind one.first in
        let others = tracks-stand n (additional + (length one.value - 1)) one.behind two.value two.behind two.first in
        let end = gave (one.value ∷ two.value) ts two.behind rest two.rest in
        let stand : TracksAt form two.value one.behind rest = subst (λ (r : List ℕ). TracksAt form two.value one.behind r) end.1 others.0 in
        subst (λ (us : List (List FieldsKey)). TracksAt form us left rest × (length us ≡ suc n)) end.0 ((first.first, one.behind, first.count, first.keys, stand), ap suc others.1)

-- Both kinds of tracks, one behind the other, up to what is left.
abbrev pub TracksOf : Contents → List ℕ → List ℕ → Type 0
TracksOf c left rest = (middle : List ℕ) × TracksAt (form_of bone) c.bones left middle × TracksAt (form_of morph) c.morphs middle rest

pub contents-stand : (limits : Limits) (s : List ℕ) (c : Contents) (rest : List ℕ) → contents limits count_width s ≡ answered (c, rest) → TracksOf c (drop 4 s) rest
unfolding contents
contents-stand limits s c rest e =
    let one = came (number count_width s) _ c rest e in
    let two = came (number count_width one.behind) _ c rest one.rest in
    let three = came (tracks (form_of bone) limits count_width one.value 0 two.behind) _ c rest two.rest in
    let four = came (tracks (form_of morph) limits count_width two.value 0 three.behind) _ c rest three.rest in
    let bones = tracks-stand (form_of bone) limits one.value 0 two.behind three.value three.behind three.first in
    let morphs = tracks-stand (form_of morph) limits two.value 0 three.behind four.value four.behind four.first in
    let made : Contents = record { bones = three.value; morphs = four.value } in
    let end = gave made c four.behind rest four.rest in
    let fourth : two.behind ≡ drop 4 s = behind-number count_width two.value one.behind two.behind two.first ∙ ap (drop count_width) (behind-number count_width one.value s one.behind one.first) ∙ drop-drop 2 2 s in
    let bones_stand : TracksAt (form_of bone) three.value (drop 4 s) three.behind = subst (λ (l : List ℕ). TracksAt (form_of bone) three.value l three.behind) fourth bones.0 in
    let morphs_stand : TracksAt (form_of morph) four.value three.behind rest = subst (λ (r : List ℕ). TracksAt (form_of morph) four.value three.behind r) end.1 morphs.0 in
    subst (λ (d : Contents). TracksOf d (drop 4 s) rest) end.0 (three.behind, bones_stand, morphs_stand)

pub strip-stands : (limits : Limits) (s : List ℕ) (c : Contents) → read_strip limits count_width s ≡ answered c → TracksOf c (drop 4 s) []
unfolding read_strip
strip-stands limits s c e = contents-stand limits s c [] (within limits count_width (ltb limits.bytes (length s)) (contents limits count_width s) c e)

-- What a strip holds whose counts were told.
pub record Accepted (s : List ℕ) (told : StripCounts) : Type 0 where
  pub holds : Contents
  pub read : read_strip edition1 count_width s ≡ answered holds
  pub bones : length holds.bones ≡ told.bones
  pub morphs : length holds.morphs ≡ told.morphs

pub accepted : (s : List ℕ) (told : StripCounts) → answered told ≡ counts edition1 count_width s → Accepted s told
unfolding counts
accepted s told e = go (read_strip edition1 count_width s) refl e
  where
    go : (a : Answer Contents) → read_strip edition1 count_width s ≡ a → answered told ≡ of_contents a (λ c. answered (record { bones = length c.bones; morphs = length c.morphs })) → Accepted s told
    go (answered c) is e =
        let same : ◌≡◌ {A = StripCounts} (record { bones = length c.bones; morphs = length c.morphs }) told = answer-is (sym e) in
        record { holds = c; read = is; bones = ap (λ (n : StripCounts). n.bones) same; morphs = ap (λ (n : StripCounts). n.morphs) same }
    go (declined why) is e = no_answer (sym e)
