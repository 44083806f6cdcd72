-- A section whose build meets no refusal: neither kind's does, so both are sound (Sound), and "Reached plus loose is the number of
-- additional bone and morph records" holds of both together (Reached). Assumes nothing.
use Prim.Native.Nat.{ℕ, ◌+◌}
use native.Mathlib.Omega.{arith}
use mathlib.Core.List.{List}
use mathlib.Core.Option.{none}
use mathlib.Core.Path.{◌≡◌}
use Rattle.section.specs.declared.model.Model.{Model}
use Rattle.clip.specs.Fields.{bone, morph}
use Rattle.clip.specs.Keys.{bone_test, morph_test}
use Rattle.clip.specs.Build.{build_refusal}
use Rattle.clip.specs.Section.{bones, morphs, clip_refusal, reached_records, loose_records}
use Rattle.clip.proofs.First.{or-none}
use Rattle.clip.proofs.Sound.{Sound, sound}
use Rattle.clip.proofs.Reached.{reached-and-loose}

pub record SoundClip (s : List ℕ) (m : Model) : Type 0 where
  pub bones : Sound bone_test (bones s m)
  pub morphs : Sound morph_test (morphs s m)

pub sound-clip : (s : List ℕ) (m : Model) → clip_refusal s m ≡ none → SoundClip s m
unfolding clip_refusal
sound-clip s m e =
    let parts = or-none (build_refusal bone bone_test (bones s m)) (build_refusal morph morph_test (morphs s m)) e in
    record { bones = sound bone bone_test (bones s m) parts.0; morphs = sound morph morph_test (morphs s m) parts.1 }

pub all-records : (s : List ℕ) (m : Model) → clip_refusal s m ≡ none → reached_records s m + loose_records s m ≡ (bones s m).additional + (morphs s m).additional
unfolding reached_records loose_records
all-records s m e =
    let c = sound-clip s m e in
    let of_bones = reached-and-loose bone bone_test (bones s m) c.bones in
    let of_morphs = reached-and-loose morph morph_test (morphs s m) c.morphs in
    omega (arith, of_bones, of_morphs)
