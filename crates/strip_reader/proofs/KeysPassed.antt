-- A pass over keys, key by key: what is left with what was met gives what the whole gives. Assumes nothing.
use Rattle.std.proofs.Common.{◌≡◌, ℕ, suc, ◌+◌, ◌-◌, ◌≤◌, ◌<◌, Bool, true, ◌&&◌, List, length, drop, leb, refl, sym, ap, ◌∙◌, arith, Ok, Err}
use mathlib.Core.Bool.{and_assoc, and-true}
use Rattle.layout.specs.Walk.{Refusal, Answer, answered, declined}
use Rattle.clip.proofs.Follow.{answer-is, no_answer}
use Rattle.strip.specs.Strip.{FieldsKey}
use Rattle.strip_reader.specs.Answers.{reader_refusal}
use Rattle.strip_reader.specs.Key.{Form, key}
use Rattle.strip_reader.specs.Pass.{for_frame, keys_frames, passed_keys, rising, PassesKeys}
use Rattle.strip_reader.specs.declared.refusal.ReaderRefusal.{ReaderRefusal}

-- The key of a frame that was read.
pub record Came (a : Answer (FieldsKey × List ℕ)) (frame : ℕ) (left : List ℕ) : Type 0 where
  pub key : FieldsKey
  pub is : a ≡ answered (key, left)
  pub frames : key.frame ≡ frame

pub came : (a : Answer (FieldsKey × List ℕ)) (frame : ℕ) (left : List ℕ) → answered (frame, left) ≡ for_frame a → Came a frame left
came (answered (k, behind)) frame left e =
    let told : ◌≡◌ {A = ℕ × List ℕ} (frame, left) (k.frame, behind) = answer-is e in
    let same : left ≡ behind = ap (λ (p : ℕ × List ℕ). p.1) told in
    record { key = k; is = rw same refl; frames = sym (ap (λ (p : ℕ × List ℕ). p.0) told) }
came (declined why) frame left e = no_answer (sym e)

pub stopped : (a : Answer (FieldsKey × List ℕ)) (why : Refusal) → declined why ≡ for_frame a → a ≡ declined why
stopped (answered (k, behind)) why e = no_answer e
stopped (declined why') why e = sym (ap other e)
  where
    other : Answer (ℕ × List ℕ) → Answer (FieldsKey × List ℕ)
    other (declined w) = declined w
    other (answered x) = declined why

module _ (form : Form) (count : ℕ) (strip : List ℕ) (at : ℕ) where
  pub record Passing (next read least : ℕ) (rise : Bool) : Type 0 where
    pub ends : passed_keys form count (drop at strip) ≡ passed_keys form (count - read) (drop next strip)
    pub reads : length (keys_frames form count (drop at strip)) ≡ read + length (keys_frames form (count - read) (drop next strip))
    pub rises : rising 0 (keys_frames form count (drop at strip)) ≡ rise && rising least (keys_frames form (count - read) (drop next strip))

  pub begins : Passing at 0 0 true
  begins =
      let all : count - 0 ≡ count = omega arith in
      record { ends = rw all refl; reads = rw all (omega arith); rises = rw all refl }

  module _ (next read least : ℕ) (rise : Bool) (p : Passing next read least rise) where
    module _ (within : read < count) where
      one-less : count - read ≡ suc (count - (read + 1))
      one-less = omega arith

      pub more : (frame behind : ℕ) → answered (frame, drop behind strip) ≡ for_frame (key form (drop next strip)) → Passing behind (read + 1) (frame + 1) (rise && leb least frame)
      unfolding passed_keys keys_frames
      more frame behind e =
          let k = came (key form (drop next strip)) frame (drop behind strip) e in
          record {
            ends = p.ends ∙ rw (one-less, k.is) refl;
            reads = p.reads ∙ rw (one-less, k.is) (omega arith);
            rises = p.rises ∙ rw (one-less, k.is, k.frames) (sym (and_assoc rise (leb least frame) (rising (frame + 1) (keys_frames form (count - (read + 1)) (drop behind strip)))));
          }

      pub stops : (why : ReaderRefusal) → declined (reader_refusal why) ≡ for_frame (key form (drop next strip)) → PassesKeys form count strip at (record { end = Err why; read = read; rise = rise })
      unfolding passed_keys keys_frames
      stops why e =
          let is = stopped (key form (drop next strip)) (reader_refusal why) e in
          record {
            ends = sym (p.ends ∙ rw (one-less, is) refl);
            reads = sym (p.reads ∙ rw (one-less, is) (omega arith));
            rises = sym (p.rises ∙ rw (one-less, is) (and-true rise));
          }

    pub finishes : count ≤ read → read ≤ count → PassesKeys form count strip at (record { end = Ok next; read = count; rise = rise })
    unfolding passed_keys keys_frames
    finishes all within =
        let none : count - read ≡ 0 = omega arith in
        record {
          ends = sym (p.ends ∙ rw none refl);
          reads = sym (p.reads ∙ rw none (omega (arith, all, within)));
          rises = sym (p.rises ∙ rw none (and-true rise));
        }
