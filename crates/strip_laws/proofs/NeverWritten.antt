-- Nothing is told of an accepted strip that 25 is for (specs, NeverWritten): a key that is told was read (ToldKeys) and no test of 25 was
-- met for it (WholeKeys) or for its track (Apart). Assumes nothing.
use Rattle.std.proofs.Common.{◌≡◌, ℕ, ◌+◌, ◌<◌, ◌≤◌, false, List, [], ◌∷◌, length, get_or, ltb, refl, sym, ap, ◌∙◌, subst, arith, All}
use borrow.Author.Tests.{ltb-false, leb-false}
use Rattle.std.specs.List.{AllByRecursion, concat}
use Rattle.std.proofs.Math.Option.{Option, none, some}
use Rattle.std.proofs.lemmas.{List.Elements.{All-from_recursion}}
use Rattle.layout.specs.{Numbers.{least_negative}, Walk.{answered}}
use Rattle.section.specs.Limits.{edition1}
use Rattle.records.specs.Curves.{curves_at}
use Rattle.clip.specs.{First.{total}, Fields.{Kind, bone, morph}, Keys.{pose_asked, posed, weight_asked, float_at}}
use Rattle.clip.proofs.{Counting.{total-front}, First.{or-false}}
use Rattle.strip.specs.Strip.{count_width, FieldsKey, Contents}
use Rattle.blocks.specs.Track.{number_of_track}
use Rattle.blocks.specs.declared.track.TrackIndex.{TrackIndex}
use Rattle.strip_reader.specs.{Key.{some_byte_above, is_refused, bone_body_of, bone_refused, morph_refused}, Answers.{strip_key}}
use Rattle.strip_reader.specs.declared.{counts.StripCounts.{StripCounts}}
use Rattle.strip_reader.proofs.ReadWritten.{additional_of}
use Rattle.strip_laws.specs.{Judged.{IsTrack}, Told.{Told}, NeverWritten.{frame_of, FineKey, FineTrack, FineStrip, AcceptedFine}}
use Rattle.strip_laws.proofs.{Backward.{read, kind, among, counted}, WholeKeys.{WholeContents, read-whole}, Apart.{TrackKept, ContentsKept, apart-frames, read-kept}, ToldKeys.{Whole, keys_read, at, many, told-of}, Lists.{all-get, all-get_or}, Numbering.{keys_of, keys_below}, Rows.{all-bones, all-morphs}}

frame-is : (kind : Kind) (k : FieldsKey) → frame_of (strip_key kind k) ≡ k.frame
frame-is bone k = refl
frame-is morph k = refl

none-refused : (o : Option ℕ) → is_refused o ≡ false → o ≡ none
none-refused none e = refl
none-refused (some number) e = absurd (let z : ◌≡◌ {A = ℕ} 0 1 = cc in omega arith)

none-above : (bs : List ℕ) → some_byte_above 127 bs ≡ false → AllByRecursion (λ b. b ≤ 127) bs
none-above [] e = tt
none-above (b ∷ bs) e = let both = or-false (ltb 127 b) (some_byte_above 127 bs) e in (ltb-false 127 b both.0, none-above bs both.1)

curves-low : (s : List ℕ) → some_byte_above 127 s ≡ false → All (λ b. b ≤ 127) (concat (curves_at s 0))
curves-low s e =
    let b = all-get_or (λ b. b ≤ 127) 0 (omega arith) s (none-above s e) in
    All-from_recursion (λ b. b ≤ 127) (concat (curves_at s 0))
    (b 0, (b 1, (b 2, (b 3, (b 4, (b 5, (b 6, (b 7, (b 8, (b 9, (b 10, (b 11, (b 12, (b 13, (b 14, (b 15, tt))))))))))))))))

fine-key : (kind : Kind) (k : FieldsKey) → Whole kind k → FineKey (strip_key kind k)
unfolding bone_refused morph_refused
fine-key bone k whole =
    let body = bone_body_of k.body in
    let tests = or-false (some_byte_above 127 body.interpolation) (is_refused (pose_asked (posed body))) whole.passes in
    record { pose = none-refused (pose_asked (posed body)) tests.1; curves = curves-low body.interpolation tests.0 }
fine-key morph k whole = record { weight = none-refused (weight_asked (float_at (get_or k.body 0 []) 0)) whole.passes }

-- With a key in each track, all keys are the first ones and the additional ones.
keys-summed : (ts : List (List FieldsKey)) → AllByRecursion TrackKept ts → keys_below ts (length ts) ≡ length ts + additional_of ts
unfolding total
keys-summed [] all = refl
keys-summed (ks ∷ ts) all =
    let front = total-front (length ts) (λ t. length (keys_of (ks ∷ ts) t)) in
    let some = all.0.some in
    omega (arith, front, some, keys-summed ts all.1)

all-kept : (c : Contents) → ContentsKept edition1 c → (track : TrackIndex) → AllByRecursion TrackKept (among track c)
all-kept c kept (TrackIndex.Bone index) = kept.bones.each
all-kept c kept (TrackIndex.Morph index) = kept.morphs.each

module _ (strip : List ℕ) (told : Told strip) (c : Contents) (is : read strip ≡ answered c) (counts : told.counts ≡ record { bones = length c.bones; morphs = length c.morphs }) (whole : WholeContents c) (kept : ContentsKept edition1 c) where
  fine-track : (track : TrackIndex) → IsTrack told.counts track → FineTrack told track
  fine-track track is_track =
      let ks = keys_read strip told c is counts track in
      let number = many strip told c is counts track is_track in
      let of_track = all-get TrackKept (among track c) (all-kept c kept track) (number_of_track track) ks (at strip told c is counts track is_track) in
      let key = told-of strip told c is counts whole track is_track in
      let frame = λ (place : ℕ) (is_place : place < told.number track). ap frame_of (key place is_place).is ∙ frame-is (kind track) (key place is_place).key in
      record {
        some = omega (arith, number, of_track.some);
        fine = λ place is_place. let k = key place is_place in subst FineKey (sym k.is) (fine-key (kind track) k.key k.whole);
        frames = λ place is_place.
            let low = leb-false least_negative (key place is_place).key.frame (key place is_place).whole.frame in
            omega (arith, low, frame place is_place);
        once = λ p q less is_place same.
            let is_earlier : p < told.number track = omega (arith, less, is_place) in
            let k = key p is_earlier in
            let l = key q is_place in
            apart-frames [] ks of_track.apart p q less k.key l.key k.there l.there (sym (frame p is_earlier) ∙ same ∙ frame q is_place);
      }

  fine-strip : FineStrip told
  fine-strip =
      let bones = ap (λ (m : StripCounts). m.bones) counts in
      let morphs = ap (λ (m : StripCounts). m.morphs) counts in
      record {
        tracks = fine-track;
        bones = omega (arith, bones, all-bones strip told c is counts, keys-summed c.bones kept.bones.each, kept.bones.sum);
        morphs = omega (arith, morphs, all-morphs strip told c is counts, keys-summed c.morphs kept.morphs.each, kept.morphs.sum);
      }

pub accepted-fine : AcceptedFine
accepted-fine strip small told =
    let r = counted strip told.counts told.are_counts in
    fine-strip strip told r.contents r.is r.counts (read-whole edition1 count_width strip r.contents small r.is) (read-kept edition1 count_width strip r.contents small r.is)
