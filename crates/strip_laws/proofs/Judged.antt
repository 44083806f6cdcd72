-- Every call reads the strip whole before it looks for a track or a key (specs, Judged): its answer is the reading's refusal, or is made of
-- what was read, where only a track or a key can be absent. Assumes nothing.
use Rattle.std.proofs.Common.{◌≡◌, ℕ, ◌≤◌, List, length, Option, Some, None, Result, Ok, Err, refl, sym, ap, ◌∙◌, subst, arith}
use Rattle.std.specs.{List.{slice_get}, Result.{IfErr}}
use Rattle.std.proofs.lemmas.Option.{slice_get_past}
use Rattle.layout.specs.Walk.{Answer, answered, declined}
use Rattle.strip.specs.Strip.{Contents}
use Rattle.blocks.specs.Track.{number_of_track}
use Rattle.blocks.specs.declared.track.TrackIndex.{TrackIndex}
use Rattle.binary.specs.Answers.{answer_by}
use Rattle.strip_reader.specs.{Answers.{reader_refusal, there, counts, key_count, key, keys}, Run.{CountsCall, KeyCountCall, KeyCall}}
use Rattle.strip_reader.specs.declared.{refusal.ReaderRefusal.{ReaderRefusal}, counts.StripCounts.{StripCounts}, key.StripKey.{StripKey}}
use Rattle.strip_laws.specs.Judged.{IsTrack, Refused, NotForBytes, NeverRefused, NoTrack, JudgedWhole}
use Rattle.strip_laws.proofs.{Back.{back, told}, Backward.{read, among, of-refused, counted, keys-counted}}

abbrev pub Fine : {A : Type 0} → Answer A → Type 0
Fine said = IfErr (back said) (λ why. why ≡ ReaderRefusal.Absent)

pub there-fine : {A B : Type 0} (o : Option B) (f : B → Answer A) → ((b : B) → Fine (f b)) → Fine (there o f)
there-fine (Some b) f fine = fine b
there-fine None f fine = refl

module _ (strip : List ℕ) where
  refused : (why : ReaderRefusal) → CountsCall strip (Err why) → Refused strip why
  unfolding counts key_count key keys
  refused why call =
      let is = of-refused (read strip) (λ c. record { bones = length c.bones; morphs = length c.morphs }) (reader_refusal why) call in
      record {
        counts = λ answer e. told answer _ e ∙ rw is (same why);
        key_count = λ track answer e. told answer _ e ∙ rw is (same why);
        key = λ track place answer e. told answer _ e ∙ rw is (same why);
        keys = λ first before answer after e. (told answer _ e.answers ∙ rw is (same why), e.leaves ∙ rw is refl);
      }
    where
      same : {A : Type 0} (why : ReaderRefusal) → back {A = A} (declined (reader_refusal why)) ≡ Err why
      same why = sym (told (Err why) (declined (reader_refusal why)) refl)

  pub never-refused : (c : Contents) → read strip ≡ answered c → NeverRefused strip
  unfolding counts key_count key keys
  never-refused c is =
      record {
        counts = λ answer e. fine answer _ e (rw is tt);
        key_count = λ track answer e. fine answer _ e (rw is (there-fine (slice_get (among track c) (number_of_track track)) _ (λ ks. tt)));
        key = λ track place answer e. fine answer _ e (rw is (there-fine (slice_get (among track c) (number_of_track track)) _ (λ ks. there-fine (slice_get ks place) _ (λ k. tt))));
        keys = λ first before answer after e. fine answer _ e.answers (rw is tt);
      }
    where
      fine : {A : Type 0} (answer : Result A ReaderRefusal) (said : Answer A) → answer_by reader_refusal answer ≡ said → Fine said → NotForBytes strip answer
      fine {A} answer said e f = subst (λ (r : Result A ReaderRefusal). NotForBytes strip r) (sym (told answer said e)) f

  past : (n : StripCounts) (c : Contents) → n ≡ record { bones = length c.bones; morphs = length c.morphs } → (track : TrackIndex) → (IsTrack n track → ⊥) → length (among track c) ≤ number_of_track track
  past n c e (TrackIndex.Bone bone) none = let many = ap (λ (m : StripCounts). m.bones) e in omega (arith, many, none)
  past n c e (TrackIndex.Morph morph) none = let many = ap (λ (m : StripCounts). m.morphs) e in omega (arith, many, none)

  no-track : (n : StripCounts) → CountsCall strip (Ok n) → (track : TrackIndex) → (IsTrack n track → ⊥) → NoTrack strip track
  unfolding key_count key
  no-track n call track absent =
      let r = counted strip n call in
      let none = slice_get_past (among track r.contents) (number_of_track track) (past n r.contents r.counts track absent) in
      record { key_count = λ answer e. told answer _ e ∙ rw (r.is, none); key = λ place answer e. told answer _ e ∙ rw (r.is, none) }

  no-key : (track : TrackIndex) (number : ℕ) → KeyCountCall strip track (Ok number) → (place : ℕ) → number ≤ place → (answer : Result StripKey ReaderRefusal) → KeyCall strip track place answer → answer ≡ Err ReaderRefusal.Absent
  unfolding key
  no-key track number call place past answer e =
      let r = keys-counted strip track number call in
      let none = slice_get_past r.keys place (omega (arith, r.number)) in
      told answer _ e ∙ rw (r.is, r.at, none)

pub judged-whole : JudgedWhole
judged-whole =
    record {
      refused = refused;
      accepted = λ strip n call. let r = counted strip n call in never-refused strip r.contents r.is;
      no_track = no-track;
      no_key = no-key;
    }
