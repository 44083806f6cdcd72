-- Writing again what was read gives the bytes that were read: each reader's answer, written, stands in front of what it left, and the
-- counts are those of the tracks and keys read. Assumes nothing.
use Rattle.std.proofs.Common.{◌≡◌, ℕ, zero, suc, ◌+◌, ◌-◌, ◌<◌, Bool, true, false, cond, ◌||◌, List, [], ◌∷◌, ◌++◌, length, eqb, ltb, refl, sym, ap, ◌∙◌, subst, arith, append_assoc, append-nil, All}
use Rattle.layout.specs.{Refusals.{never_written, too_long}, Walk.{refusal, Answer, answered, declined}}
use Rattle.std.proofs.lemmas.List.Elements.{recursion_from_All}
use Rattle.section.specs.declared.limits.Limits.{Limits}
use Rattle.clip.specs.{First.{member}, Fields.{bone, morph}}
use Rattle.strip.specs.{Numbers.{little_endian}, Plain.{bone_groups, morph_groups}, Keys.{key_bytes}, Strip.{FieldsKey, Contents, keys_bytes, track_bytes, tracks_bytes, strip_bytes}}
use Rattle.strip_reader.specs.{Front.{refuse_if, number}, Key.{Form, form_of, key}, Read.{keys, track, tracks, contents, all_read, read_strip}}
use Rattle.strip_reader.proofs.FrontLaws.{AreBytes}
use Rattle.strip_reader.proofs.Inversion.{same-answer, gave, came, not-met, numbered}
use Rattle.strip_reader.proofs.KeyAgain.{Again, again, behind_other, key-again}

module _ (form : Form) where
  pub keys-again : (n : ℕ) (before s left : List ℕ) (ks : List FieldsKey) → AreBytes s → keys form n before s ≡ answered (ks, left) → Again (keys_bytes form.groups (λ fields. fields) ks) s left × (length ks ≡ n)
  unfolding keys keys_bytes
  keys-again zero before s left ks small e =
      let end = gave [] ks s left e in
      let whole = subst (λ (hs : List FieldsKey). (s ≡ keys_bytes form.groups (λ fields. fields) hs ++ left) × (length hs ≡ 0)) end.0 (end.1, refl) in
      (again _ s left small whole.0, whole.1)
  keys-again (suc n) before s left ks small e =
      let one = came (key form s) _ ks left e in
      let two = came (refuse_if (member one.value.frame before) never_written one.behind) _ ks left one.rest in
      let three = came (keys form n (one.value.frame ∷ before) two.behind) _ ks left two.rest in
      let first = key-again form s one.behind one.value small one.first in
      let new = not-met _ never_written one.behind two.behind two.value two.first in
      let others = keys-again n (one.value.frame ∷ before) two.behind three.behind three.value (subst AreBytes new.1 first.bytes) three.first in
      let end = gave (one.value ∷ three.value) ks three.behind left three.rest in
      let front = key_bytes form.groups (λ fields. fields) one.value in
      let behind = keys_bytes form.groups (λ fields. fields) three.value in
      let is = behind_other front behind s one.behind two.behind three.behind left first.is new.1 others.0.is end.1 in
      let whole = subst (λ (hs : List FieldsKey). (s ≡ keys_bytes form.groups (λ fields. fields) hs ++ left) × (length hs ≡ suc n)) end.0 (is, ap suc others.1) in
      (again _ s left small whole.0, whole.1)

  module _ (limits : Limits) (width : ℕ) where
    pub track-again : (additional : ℕ) (s left : List ℕ) (ks : List FieldsKey) → AreBytes s → track form limits width additional s ≡ answered (ks, left) → Again (track_bytes width form.groups (λ fields. fields) ks) s left
    unfolding track track_bytes
    track-again additional s left ks small e =
        let one = came (number width s) _ ks left e in
        let two = came (keys form one.value [] one.behind) _ ks left one.rest in
        let three = came (refuse_if (eqb one.value 0 || ltb limits.additional (additional + (one.value - 1))) never_written two.behind) _ ks left two.rest in
        let count = numbered width one.value s one.behind small one.first in
        let of_track = keys-again one.value [] one.behind two.behind two.value count.bytes two.first in
        let some = not-met _ never_written two.behind three.behind three.value three.first in
        let end = gave two.value ks three.behind left three.rest in
        let front = little_endian width one.value in
        let behind = keys_bytes form.groups (λ fields. fields) two.value in
        let is = behind_other front behind s one.behind one.behind two.behind left count.is refl of_track.0.is (some.1 ∙ end.1) in
        let counted : s ≡ track_bytes width form.groups (λ fields. fields) two.value ++ left = is ∙ ap (λ (n : ℕ). (little_endian width n ++ behind) ++ left) (sym of_track.1) in
        again _ s left small (subst (λ (hs : List FieldsKey). s ≡ track_bytes width form.groups (λ fields. fields) hs ++ left) end.0 counted)

    pub tracks-again : (n additional : ℕ) (s left : List ℕ) (ts : List (List FieldsKey)) → AreBytes s → tracks form limits width n additional s ≡ answered (ts, left) → Again (tracks_bytes width form.groups ts) s left × (length ts ≡ n)
    unfolding tracks tracks_bytes
    tracks-again zero additional s left ts small e =
        let end = gave [] ts s left e in
        let whole = subst (λ (us : List (List FieldsKey)). (s ≡ tracks_bytes width form.groups us ++ left) × (length us ≡ 0)) end.0 (end.1, refl) in
        (again _ s left small whole.0, whole.1)
    tracks-again (suc n) additional s left ts small e =
        let one = came (track form limits width additional s) _ ts left e in
        let two = came (tracks form limits width n (additional + (length one.value - 1)) one.behind) _ ts left one.rest in
        let first = track-again additional s one.behind one.value small one.first in
        let others = tracks-again n (additional + (length one.value - 1)) one.behind two.behind two.value first.bytes two.first in
        let end = gave (one.value ∷ two.value) ts two.behind left two.rest in
        let front = track_bytes width form.groups (λ fields. fields) one.value in
        let behind = tracks_bytes width form.groups two.value in
        let is = behind_other front behind s one.behind one.behind two.behind left first.is refl others.0.is end.1 in
        let whole = subst (λ (us : List (List FieldsKey)). (s ≡ tracks_bytes width form.groups us ++ left) × (length us ≡ suc n)) end.0 (is, ap suc others.1) in
        (again _ s left small whole.0, whole.1)

module _ (limits : Limits) (width : ℕ) where
  pub contents-again : (s left : List ℕ) (c : Contents) → AreBytes s → contents limits width s ≡ answered (c, left) → Again (strip_bytes width c) s left
  unfolding contents strip_bytes
  contents-again s left c small e =
      let one = came (number width s) _ c left e in
      let two = came (number width one.behind) _ c left one.rest in
      let three = came (tracks (form_of bone) limits width one.value 0 two.behind) _ c left two.rest in
      let four = came (tracks (form_of morph) limits width two.value 0 three.behind) _ c left three.rest in
      let bone_count = numbered width one.value s one.behind small one.first in
      let morph_count = numbered width two.value one.behind two.behind bone_count.bytes two.first in
      let bones = tracks-again (form_of bone) limits width one.value 0 two.behind three.behind three.value morph_count.bytes three.first in
      let morphs = tracks-again (form_of morph) limits width two.value 0 three.behind four.behind four.value bones.0.bytes four.first in
      let made : Contents = record { bones = three.value; morphs = four.value } in
      let end = gave made c four.behind left four.rest in
      let is : s ≡ little_endian width one.value ++ (little_endian width two.value ++ (tracks_bytes width bone_groups three.value ++ (tracks_bytes width morph_groups four.value ++ left))) =
      bone_count.is ∙ ap (λ bytes. little_endian width one.value ++ bytes) (morph_count.is ∙ ap (λ bytes. little_endian width two.value ++ bytes) (bones.0.is ∙ ap (λ bytes. tracks_bytes width bone_groups three.value ++ bytes) (morphs.0.is ∙ ap (λ bytes. tracks_bytes width morph_groups four.value ++ bytes) end.1))) in
      let counted : s ≡ strip_bytes width made ++ left = simp append_assoc (simp (bones.1, morphs.1) is) in
      again _ s left small (subst (λ (d : Contents). s ≡ strip_bytes width d ++ left) end.0 counted)

  all-left : (a : Answer (Contents × List ℕ)) (c : Contents) → all_read a ≡ answered c → a ≡ answered (c, [])
  all-left (answered (d, [])) c e = ap (λ x. answered (x, [])) (same-answer e)
  all-left (answered (d, byte ∷ left)) c e = absurd (let z : ◌≡◌ {A = ℕ} 0 1 = cc in omega arith)
  all-left (declined why) c e = absurd (let z : ◌≡◌ {A = ℕ} 0 1 = cc in omega arith)

  pub within : (too_many : Bool) (a : Answer (Contents × List ℕ)) (c : Contents) → cond too_many (declined (refusal too_long [])) (all_read a) ≡ answered c → a ≡ answered (c, [])
  within true a c e = absurd (let z : ◌≡◌ {A = ℕ} 0 1 = cc in omega arith)
  within false a c e = all-left a c e

  -- "writing the keys of any accepted strip again gives the same strip"
  pub written-again : (s : List ℕ) (c : Contents) → All (λ b. b < 256) s → read_strip limits width s ≡ answered c → strip_bytes width c ≡ s
  unfolding read_strip
  written-again s c small e =
      let read = within (ltb limits.bytes (length s)) (contents limits width s) c e in
      let whole = contents-again s [] c (recursion_from_All (λ b. b < 256) s small) read in
      sym (whole.is ∙ append-nil (strip_bytes width c))
