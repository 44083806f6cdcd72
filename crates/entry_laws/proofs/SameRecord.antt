-- The record of a number that a call answers is the record of that position that a build takes (specs/SameRecord): both stand so many
-- record sizes behind the list's offset, there what is shown is what is taken (keys, AsShown), and a payload begins where a build's body
-- does. Assumes nothing.
use Prim.Native.Nat.{ℕ, ◌+◌, ◌≤◌, ◌<◌}
use native.Mathlib.Omega.{arith}
use mathlib.Core.Bool.{Bool, true, false}
use mathlib.Core.List.{List, ◌++◌}
use mathlib.Core.Path.{◌≡◌, refl, sym, ap, ◌∙◌}
use lib.ListN.{length, take, drop}
use lib.Seq.{take-take}
use Rattle.std.specs.List.{concat}
use Rattle.std.specs.Option.{option_map}
use Rattle.layout.specs.Numbers.{signed, float}
use Rattle.layout.specs.Walk.{fine, Answer, answered, bytes_at}
use Rattle.layout.specs.Records.{bone, morph, size}
use Rattle.layout.proofs.Slices.{bytes_part, bytes_behind}
use Rattle.records.specs.Base.{base_of, span_of}
use Rattle.records.specs.Keyframes.{bone_bits, bone_of, morph_bits, morph_of}
use Rattle.records.specs.Pose.{pose_of}
use Rattle.records.specs.declared.base.BaseBits.{BaseBits}
use Rattle.records.specs.declared.base.Span.{Span}
use Rattle.records.specs.declared.base.PmmDocumentBaseKeyframeSummary.{PmmDocumentBaseKeyframeSummary}
use Rattle.records.specs.declared.bone.BoneBits.{BoneBits}
use Rattle.records.specs.declared.bone.PmmDocumentBoneKeyframeSummary.{PmmDocumentBoneKeyframeSummary}
use Rattle.records.specs.declared.morph.MorphBits.{MorphBits}
use Rattle.records.specs.declared.morph.PmmDocumentMorphKeyframeSummary.{PmmDocumentMorphKeyframeSummary}
use Rattle.records.proofs.CurvesWhole.{curves_bytes}
use Rattle.section.specs.declared.limits.Limits.{Limits}
use Rattle.section.specs.Model.{model_section}
use Rattle.section.specs.declared.model.Model.{Model}
use Rattle.entries.specs.Lists.{entries_of, locate}
use Rattle.entries.specs.Keyframes.{bone_keyframe, morph_keyframe}
use Rattle.entries.specs.Interpolation.{curves_or}
use Rattle.entries.specs.Parts.{payload_or}
use Rattle.entries.specs.declared.lists.SectionList.{SectionList}
use Rattle.clip.specs.Fields.{Initial, Additional}
use Rattle.clip.specs.Keys.{posed, float_at}
use Rattle.clip.specs.Section.{bone_body, morph_body, initial_at, additional_at, records_at, bones, morphs}
use Rattle.clip.proofs.Facts.{blocks, items-end}
use Rattle.keys.proofs.AsShown.{AdditionalShown, InitialShown, PoseShown, WeightShown, bone-shown, initial-bone-shown, morph-shown, initial-morph-shown}
use Rattle.entry_laws.specs.SameRecord.{SameBase, SameInitialBase, SameBone, SameMorph, SameRecords}
use Rattle.entry_laws.proofs.Entries.{Stands, place_of, entry_whole, answered-as, found-there}
use Rattle.entry_laws.proofs.Whole.{list-stands}
use Rattle.entry_laws.proofs.Payloads.{front, record-items, ends_as, sized, some-items}
use Rattle.entry_laws.proofs.Handed.{bone-walk, morph-walk, bone-at, morph-at}

same-base : {B : Type 0} (r : Additional B) (v : BaseBits) → AdditionalShown r v → SameBase r (base_of v)
unfolding base_of
same-base r v shown =
    record {
      index = ap (option_map signed) (sym shown.index);
      frame = ap signed (sym shown.frame);
      previous = ap signed (sym shown.previous);
      next = ap signed (sym shown.next);
    }

same-initial-base : {B : Type 0} (r : Initial B) (v : BaseBits) → InitialShown r v → SameInitialBase r (base_of v)
unfolding base_of
same-initial-base r v shown =
    record { index = ap (option_map signed) shown.index; frame = ap signed (sym shown.frame); next = ap signed (sym shown.next) }

-- The first bytes of the payload of a record that is answered, where the payload begins at `from`.
payload-front : {A : Type 0} (Span-of : A → Span) (call : Answer A) (x : A) (s : List ℕ) (from n : ℕ) → call ≡ answered x → (Span-of x).payload_offset ≡ from → n ≤ (Span-of x).payload_byte_length → from + n ≤ length s → take n (payload_or Span-of call s) ≡ bytes_at s from n
payload-front {A} Span-of call x s from n is begins long within =
    ap (λ (call : Answer A). take n (payload_or Span-of call s)) is
    ∙ take-take n (Span-of x).payload_byte_length (drop (Span-of x).payload_offset s) long
    ∙ ap (λ (k : ℕ). take n (drop k s)) begins
    ∙ sym (bytes_part s from n within)

module _ (s : List ℕ) where
  -- A bone's body, one part behind the other.
  body-bytes : (from : ℕ) → bytes_at s from 44 ≡ (bone_body s from).interpolation ++ (bone_body s from).translation ++ (bone_body s from).orientation
  unfolding bone_body
  body-bytes from = bytes_behind s from 28 16 ∙ ap (λ (bs : List ℕ). bs ++ bytes_at s (from + 28) 16) (bytes_behind s from 16 12)

  -- A call that answers of the bits that are read at an offset.
  module _ (i : Bool) (at to : ℕ) where
    module _ (call : Answer PmmDocumentBoneKeyframeSummary) (v : BoneBits) (reads : bone_bits i s at ≡ fine v to) (is : call ≡ answered (bone_of v at to)) where
      bone-front : (n : ℕ) → n ≤ size bone → take n (payload_or (λ b. b.span) call s) ≡ bytes_at s (at + front i) n
      unfolding bone_of span_of
      bone-front n few =
          let begins = bone-at s i at v to reads in
          let all = ends_as _ _ (bone-walk i) s at v to reads in
          let end = items-end _ s at to all in
          let within = some-items i bone s at to all in
          let long = sized i bone in
          payload-front (λ b. b.span) call (bone_of v at to) s (at + front i) n is begins (omega (arith, begins, end, long, few)) (omega (arith, end, within, long, few))

      bone-curves : concat (curves_or call s) ≡ bytes_at s (at + front i) 16
      unfolding bone_of span_of
      bone-curves =
          ap (λ (call : Answer PmmDocumentBoneKeyframeSummary). concat (curves_or call s)) is
          ∙ curves_bytes s v.base.payload_offset
          ∙ ap (λ (k : ℕ). bytes_at s k 16) (bone-at s i at v to reads)

      same-bone : (Base : PmmDocumentBaseKeyframeSummary → Type 0) → Base (base_of v.base) → PoseShown s (bone_body s (at + front i)) v → SameBone s call Base (bone_body s (at + front i))
      unfolding bone_of bone_body size
      same-bone Base base bits =
          record {
            summary = bone_of v at to;
            answers = is;
            base = base;
            pose_bits = sym bits;
            pose = ap pose_of (sym bits);
            curves = bone-curves;
            part = bone-front 16 (omega arith);
            payload = bone-front 44 (omega arith) ∙ body-bytes (at + front i);
          }

    module _ (call : Answer PmmDocumentMorphKeyframeSummary) (v : MorphBits) (reads : morph_bits i s at ≡ fine v to) (is : call ≡ answered (morph_of v at to)) where
      morph-front : take 4 (payload_or (λ b. b.span) call s) ≡ bytes_at s (at + front i) 4
      unfolding morph_of span_of size
      morph-front =
          let begins = morph-at s i at v to reads in
          let all = ends_as _ _ (morph-walk i) s at v to reads in
          let end = items-end _ s at to all in
          let within = some-items i morph s at to all in
          let long = sized i morph in
          payload-front (λ b. b.span) call (morph_of v at to) s (at + front i) 4 is begins (omega (arith, begins, end, long)) (omega (arith, end, within, long))

      same-morph : (Base : PmmDocumentBaseKeyframeSummary → Type 0) → Base (base_of v.base) → WeightShown s (morph_body s (at + front i)) v → SameMorph s call Base (morph_body s (at + front i))
      unfolding morph_of morph_body
      same-morph Base base bits =
          record { summary = morph_of v at to; answers = is; base = base; weight_bits = sym bits; weight = ap float (sym bits); payload = morph-front }

module _ (limits : Limits) (s : List ℕ) (start : ℕ) (m : Model) (end : ℕ) (reads : model_section limits s start ≡ fine m end) where
  stands : (list : SectionList) → Stands s (entries_of list m)
  stands = list-stands limits s m (blocks limits s start m end reads)

  found : (list : SectionList) (k : ℕ) → k < (entries_of list m).count → locate limits list k s start ≡ fine m (place_of (entries_of list m) k)
  unfolding locate
  found list = found-there s (entries_of list m) m (λ k. locate limits list k s start) (λ k. rw reads refl) (stands list)

  additional-bone : (k : ℕ) → k < (bones s m).additional → SameBone s (bone_keyframe limits true k s start) (SameBase ((bones s m).at k)) ((bones s m).at k).body
  unfolding bones records_at additional_at entries_of
  additional-bone k there =
      let r = entry_whole s (entries_of SectionList.Bones m) (stands SectionList.Bones) k there (bone_bits true) (bone-walk true) in
      let is = answered-as (locate limits SectionList.Bones k s start) (λ m. bone_bits true) (λ m at b end. bone_of b at end) s m _ (found SectionList.Bones k there) r.value _ r.is in
      let x = bone-shown s _ r.value _ r.is in
      same-bone s true _ _ _ r.value r.is is (SameBase ((bones s m).at k)) (same-base _ _ x.0) x.1

  initial-bone : (k : ℕ) → k < (bones s m).tracks → SameBone s (bone_keyframe limits false k s start) (SameInitialBase ((bones s m).initial k)) ((bones s m).initial k).body
  unfolding bones records_at initial_at entries_of
  initial-bone k there =
      let r = entry_whole s (entries_of SectionList.InitialBones m) (stands SectionList.InitialBones) k there (bone_bits false) (bone-walk false) in
      let is = answered-as (locate limits SectionList.InitialBones k s start) (λ m. bone_bits false) (λ m at b end. bone_of b at end) s m _ (found SectionList.InitialBones k there) r.value _ r.is in
      let x = initial-bone-shown s _ r.value _ r.is in
      same-bone s false _ _ _ r.value r.is is (SameInitialBase ((bones s m).initial k)) (same-initial-base _ _ x.0) x.1

  additional-morph : (k : ℕ) → k < (morphs s m).additional → SameMorph s (morph_keyframe limits true k s start) (SameBase ((morphs s m).at k)) ((morphs s m).at k).body
  unfolding morphs records_at additional_at entries_of
  additional-morph k there =
      let r = entry_whole s (entries_of SectionList.Morphs m) (stands SectionList.Morphs) k there (morph_bits true) (morph-walk true) in
      let is = answered-as (locate limits SectionList.Morphs k s start) (λ m. morph_bits true) (λ m at b end. morph_of b at end) s m _ (found SectionList.Morphs k there) r.value _ r.is in
      let x = morph-shown s _ r.value _ r.is in
      same-morph s true _ _ _ r.value r.is is (SameBase ((morphs s m).at k)) (same-base _ _ x.0) x.1

  initial-morph : (k : ℕ) → k < (morphs s m).tracks → SameMorph s (morph_keyframe limits false k s start) (SameInitialBase ((morphs s m).initial k)) ((morphs s m).initial k).body
  unfolding morphs records_at initial_at entries_of
  initial-morph k there =
      let r = entry_whole s (entries_of SectionList.InitialMorphs m) (stands SectionList.InitialMorphs) k there (morph_bits false) (morph-walk false) in
      let is = answered-as (locate limits SectionList.InitialMorphs k s start) (λ m. morph_bits false) (λ m at b end. morph_of b at end) s m _ (found SectionList.InitialMorphs k there) r.value _ r.is in
      let x = initial-morph-shown s _ r.value _ r.is in
      same-morph s false _ _ _ r.value r.is is (SameInitialBase ((morphs s m).initial k)) (same-initial-base _ _ x.0) x.1

  pub same-records : SameRecords limits s start m
  same-records =
      record {
        additional_bones = additional-bone;
        initial_bones = initial-bone;
        additional_morphs = additional-morph;
        initial_morphs = initial-morph;
      }
