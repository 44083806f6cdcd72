-- What the calls answer of a strip that the builder made (specs, Built): it is read back with equal values (HeldBack), so its counts are
-- the section's, and each key is what was read in its place. Assumes nothing.
use Rattle.std.proofs.Common.{◌≡◌, ℕ, ◌<◌, List, take, sym, ap, ◌∙◌, subst, arith}
use Rattle.section.specs.Limits.{edition1}
use Rattle.section.specs.declared.model.Model.{Model}
use Rattle.clip.specs.{Fields.{bone, morph}, Build.{keys}, Section.{bones, morphs}}
use Rattle.strip.specs.Strip.{count_width, strip_of}
use Rattle.strip.proofs.{Call.{tells, strip-out}, Written.{Wide}}
use Rattle.blocks.specs.declared.track.{TrackIndex.{TrackIndex}, BoneIndex.{BoneIndex}, MorphIndex.{MorphIndex}}
use Rattle.strip_reader.specs.Answers.{strip_key, counts, key_count, key}
use Rattle.strip_call.specs.Run.{Run, ReadWithin, Accepted, strip_out}
use Rattle.strip_call_laws.proofs.TwoRuns.{down}
use Rattle.strip_laws.specs.{Same.{SameBoneKey, SameMorphKey}, Built.{TrackRead, ReadBack, BuiltRead}}
use Rattle.strip_laws.proofs.{Back.{told}, Judged.{never-refused}, HeldBack.{HeldBack, held-back}}

module _ (s : List ℕ) (m : Model) (strip : List ℕ) (b : HeldBack edition1 count_width s m strip) where
  bone-track : (t : BoneIndex) → t.0 < (bones s m).tracks → TrackRead SameBoneKey (keys bone (bones s m) t.0) strip (TrackIndex.Bone t)
  unfolding key_count key
  bone-track t is_track =
      let track = b.bones.tracks t.0 is_track in
      record {
        number = λ answer e. told answer _ e ∙ rw (b.answers, track.is_read, track.as_many);
        keys = λ place is_key answer e.
            let k = track.keys place is_key in
            record {
              built = k.built;
              is_built = k.is_built;
              read = strip_key bone k.read;
              answers = told answer _ e ∙ rw (b.answers, track.is_read, k.is_read);
              same = k.same;
            };
      }

  morph-track : (t : MorphIndex) → t.0 < (morphs s m).tracks → TrackRead SameMorphKey (keys morph (morphs s m) t.0) strip (TrackIndex.Morph t)
  unfolding key_count key
  morph-track t is_track =
      let track = b.morphs.tracks t.0 is_track in
      record {
        number = λ answer e. told answer _ e ∙ rw (b.answers, track.is_read, track.as_many);
        keys = λ place is_key answer e.
            let k = track.keys place is_key in
            record {
              built = k.built;
              is_built = k.is_built;
              read = strip_key morph k.read;
              answers = told answer _ e ∙ rw (b.answers, track.is_read, k.is_read);
              same = k.same;
            };
      }

  read-back : ReadBack s m strip
  unfolding counts
  read-back =
      record {
        never_refused = never-refused strip b.contents b.answers;
        counts = λ answer e. told answer _ e ∙ rw (b.answers, b.bones.as_many, b.morphs.as_many);
        bones = bone-track;
        morphs = morph-track;
      }

same_out : (x : Run) (within : ReadWithin x) (a : Accepted x) → strip_out x a ≡ strip_of count_width x.lent.section within.model
same_out x within a = ap (take a.built.strip_length) x.call.leaves_output ∙ strip-out edition1 count_width x.lent within (down x a)

pub built-read : BuiltRead
built-read x within a =
    let passes = (tells edition1 count_width x.lent within (down x a)).passes in
    let wide : Wide edition1 count_width = record { tracks = omega arith; additional = omega arith } in
    let held = held-back edition1 count_width (omega arith) wide x.lent.section x.lent.start within.model within.end within.reads passes in
    read-back x.lent.section within.model (strip_out x a)
    (subst (λ (strip : List ℕ). HeldBack edition1 count_width x.lent.section within.model strip) (sym (same_out x within a)) held)
