-- Demand 3 (specs, Demand3) of the definition. Matched sections: each kind by itself (clip, Matched), then both. Accepted ones: a strip
-- read from its front tells both counts, and then one track after the other (Tracks). Assumes nothing.
use Prim.Native.Nat.{ℕ, suc, ◌^◌, ◌<◌}
use native.Mathlib.Omega.{arith}
use mathlib.Core.List.{List, [], ◌++◌, append_assoc, append-nil}
use mathlib.Core.Logic.{◌↔◌}
use mathlib.Core.Option.{none}
use mathlib.Core.Path.{◌≡◌, sym, ◌∙◌, subst}
use Rattle.section.specs.declared.limits.Limits.{Limits}
use Rattle.section.specs.Limits.{edition1}
use Rattle.section.specs.declared.model.Model.{Model}
use Rattle.clip.specs.Fields.{bone, morph}
use Rattle.clip.specs.Keys.{pose_asked, posed, weight_asked, float_at, bone_test, morph_test}
use Rattle.clip.specs.Build.{keys, build_refusal}
use Rattle.clip.specs.Section.{records_at, bones, morphs, clip_refusal}
use Rattle.clip.specs.Matched.{Matched, UnpairedIsolated}
use Rattle.clip.proofs.First.{or-none, none_or}
use Rattle.clip.proofs.Clip.{SoundClip, sound-clip}
use Rattle.clip.proofs.Matched.{accepted-exactly, same-tracks}
use Rattle.clip.proofs.Facts.{Blocks, blocks}
use Rattle.strip.specs.Plain.{bone_groups, bone_fields, morph_groups, morph_fields}
use Rattle.strip.specs.Numbers.{little_endian}
use Rattle.strip.specs.Strip.{count_width, strip_of}
use Rattle.strip.proofs.ByTrack.{tracks_from, strip-of-tracks}
use Rattle.strip.specs.Runs.{SameTracks}
use Rattle.strip.specs.Demand3.{MatchedSections, AcceptedSections}
use Rattle.strip.proofs.Bytes.{counts-are}
use Rattle.strip.proofs.Tracks.{WritableTrack, tracks-are, equal-tracks}
use Rattle.strip.proofs.Tracks as Tracks
use Rattle.strip.proofs.Call.{accepted-within, tells, strip-out, accepts}
use Rattle.strip.proofs.Written.{Wide, track-writable, bones-shaped, morphs-shaped}

module _ (s₁ : List ℕ) (m₁ : Model) (s₂ : List ℕ) (m₂ : Model) (of_bones : Matched (bones s₁ m₁) (bones s₂ m₂)) (of_morphs : Matched (morphs s₁ m₁) (morphs s₂ m₂)) (c₁ : SoundClip s₁ m₁) where
  exactly : (clip_refusal s₂ m₂ ≡ none) ↔ (UnpairedIsolated of_bones × UnpairedIsolated of_morphs)
  unfolding clip_refusal
  exactly =
      let b = accepted-exactly (bones s₁ m₁) (bones s₂ m₂) of_bones bone bone_test c₁.bones in
      let m = accepted-exactly (morphs s₁ m₁) (morphs s₂ m₂) of_morphs morph morph_test c₁.morphs in (
        λ e. let parts = or-none (build_refusal bone bone_test (bones s₂ m₂)) (build_refusal morph morph_test (morphs s₂ m₂)) e in (b.0 parts.0, m.0 parts.1),
        λ idle. none_or _ _ (b.1 idle.0) (m.1 idle.1),
      )

  same-strips : (width : ℕ) → SoundClip s₂ m₂ → strip_of width s₁ m₁ ≡ strip_of width s₂ m₂
  same-strips width c₂ =
      let b = equal-tracks width bone_groups bone_fields (keys bone (bones s₁ m₁)) (keys bone (bones s₂ m₂)) (bones s₁ m₁).tracks 0 (λ t low high. same-tracks (bones s₁ m₁) (bones s₂ m₂) of_bones bone bone_test c₁.bones c₂.bones t (omega arith)) in
      let m = equal-tracks width morph_groups morph_fields (keys morph (morphs s₁ m₁)) (keys morph (morphs s₂ m₂)) (morphs s₁ m₁).tracks 0 (λ t low high. same-tracks (morphs s₁ m₁) (morphs s₂ m₂) of_morphs morph morph_test c₁.morphs c₂.morphs t (omega arith)) in
      rw (strip-of-tracks width s₁ m₁, strip-of-tracks width s₂ m₂, b, m, of_bones.tracks, of_morphs.tracks)

pub matched-sections : (limits : Limits) (width : ℕ) → MatchedSections limits width
matched-sections limits width =
    record {
      accepted = λ x y rx ry lx ly of_bones of_morphs ax.
          let c = sound-clip x.section rx.model (tells limits width x rx ax).passes in
          let e = exactly x.section rx.model y.section ry.model of_bones of_morphs c in
          (λ ay. e.0 (tells limits width y ry ay).passes, λ idle. accepts limits width y ry ly (e.1 idle));
      equal = λ x y rx ry of_bones of_morphs ax ay.
          let cx = sound-clip x.section rx.model (tells limits width x rx ax).passes in
          let cy = sound-clip y.section ry.model (tells limits width y ry ay).passes in
          strip-out limits width x rx ax ∙ same-strips x.section rx.model y.section ry.model of_bones of_morphs cx width cy ∙ sym (strip-out limits width y ry ay);
    }

-- The tracks of an accepted clip can be written.
module _ (limits : Limits) (width : ℕ) (wide : Wide limits width) (s : List ℕ) (m : Model) (b : Blocks limits s m) (c : SoundClip s m) where
  bone-count : (bones s m).tracks < 256 ^ width
  unfolding bones records_at
  bone-count = let few = b.bone_names.within in let w = wide.tracks in omega (arith, few, w)

  morph-count : (morphs s m).tracks < 256 ^ width
  unfolding morphs records_at
  morph-count = let few = b.morph_names.within in let w = wide.tracks in omega (arith, few, w)

  bone-records : suc (bones s m).additional < 256 ^ width
  unfolding bones records_at
  bone-records = let few = b.bones.within in let w = wide.additional in omega (arith, few, w)

  morph-records : suc (morphs s m).additional < 256 ^ width
  unfolding morphs records_at
  morph-records = let few = b.morphs.within in let w = wide.additional in omega (arith, few, w)

  bone-writable : (t : ℕ) → t < (bones s m).tracks → WritableTrack width bone_groups bone_fields (keys bone (bones s m) t)
  bone-writable t lt = track-writable bone (λ b. pose_asked (posed b)) bone_groups bone_fields (bones s m) (bones-shaped s m) width bone-records c.bones t lt

  morph-writable : (t : ℕ) → t < (morphs s m).tracks → WritableTrack width morph_groups morph_fields (keys morph (morphs s m) t)
  morph-writable t lt = track-writable morph (λ w. weight_asked (float_at w 0)) morph_groups morph_fields (morphs s m) (morphs-shaped s m) width morph-records c.morphs t lt

module _ (limits : Limits) (width : ℕ) (wide : Wide limits width) (s₁ : List ℕ) (m₁ : Model) (b₁ : Blocks limits s₁ m₁) (c₁ : SoundClip s₁ m₁) (s₂ : List ℕ) (m₂ : Model) (b₂ : Blocks limits s₂ m₂) (c₂ : SoundClip s₂ m₂) where
  bone_bytes : (s : List ℕ) (m : Model) → ℕ → List ℕ
  bone_bytes s m n = tracks_from width bone_groups bone_fields (keys bone (bones s m)) 0 n

  morph_bytes : (s : List ℕ) (m : Model) → ℕ → List ℕ
  morph_bytes s m n = tracks_from width morph_groups morph_fields (keys morph (morphs s m)) 0 n

  -- The strip from its front.
  flat : (s : List ℕ) (m : Model) → strip_of width s m ≡ little_endian width (bones s m).tracks ++ (little_endian width (morphs s m).tracks ++ (bone_bytes s m (bones s m).tracks ++ (morph_bytes s m (morphs s m).tracks ++ [])))
  unfolding bone_bytes morph_bytes
  flat s m = strip-of-tracks width s m ∙ simp (append_assoc, append-nil)

  same : strip_of width s₁ m₁ ≡ strip_of width s₂ m₂ → SameTracks s₁ m₁ s₂ m₂
  unfolding bone_bytes morph_bytes
  same e =
      let whole = sym (flat s₁ m₁) ∙ e ∙ flat s₂ m₂ in
      let first = counts-are width (bones s₁ m₁).tracks (bones s₂ m₂).tracks _ _ (bone-count limits width wide s₁ m₁ b₁ c₁) (bone-count limits width wide s₂ m₂ b₂ c₂) whole in
      let second = counts-are width (morphs s₁ m₁).tracks (morphs s₂ m₂).tracks _ _ (morph-count limits width wide s₁ m₁ b₁ c₁) (morph-count limits width wide s₂ m₂ b₂ c₂) first.1 in
      let nb : (bones s₁ m₁).tracks ≡ (bones s₂ m₂).tracks = first.0 in
      let nm : (morphs s₁ m₁).tracks ≡ (morphs s₂ m₂).tracks = second.0 in
      let third = tracks-are width bone_groups bone_fields (keys bone (bones s₁ m₁)) (keys bone (bones s₂ m₂)) (bones s₁ m₁).tracks 0 (morph_bytes s₁ m₁ (morphs s₁ m₁).tracks ++ []) (morph_bytes s₂ m₂ (morphs s₂ m₂).tracks ++ [])
      (λ t low high. bone-writable limits width wide s₁ m₁ b₁ c₁ t (omega arith)) (λ t low high. bone-writable limits width wide s₂ m₂ b₂ c₂ t (omega (arith, nb)))
      (subst (λ n. bone_bytes s₁ m₁ (bones s₁ m₁).tracks ++ (morph_bytes s₁ m₁ (morphs s₁ m₁).tracks ++ []) ≡ bone_bytes s₂ m₂ n ++ (morph_bytes s₂ m₂ (morphs s₂ m₂).tracks ++ [])) (sym nb) second.1) in
      let fourth = tracks-are width morph_groups morph_fields (keys morph (morphs s₁ m₁)) (keys morph (morphs s₂ m₂)) (morphs s₁ m₁).tracks 0 [] []
      (λ t low high. morph-writable limits width wide s₁ m₁ b₁ c₁ t (omega arith)) (λ t low high. morph-writable limits width wide s₂ m₂ b₂ c₂ t (omega (arith, nm)))
      (subst (λ n. morph_bytes s₁ m₁ (morphs s₁ m₁).tracks ++ [] ≡ morph_bytes s₂ m₂ n ++ []) (sym nm) third.1) in
      record {
        bone_count = nb;
        morph_count = nm;
        bone_tracks = λ t lt. third.0 t (omega arith) (omega arith);
        morph_tracks = λ t lt. fourth.0 t (omega arith) (omega arith);
      }

  alike : SameTracks s₁ m₁ s₂ m₂ → strip_of width s₁ m₁ ≡ strip_of width s₂ m₂
  alike t =
      let nb = t.bone_count in
      let nm = t.morph_count in
      let b = Tracks.same-tracks width bone_groups bone_fields (keys bone (bones s₁ m₁)) (keys bone (bones s₂ m₂)) (bones s₁ m₁).tracks 0 (λ i low high. bone-writable limits width wide s₁ m₁ b₁ c₁ i (omega arith)) (λ i low high. bone-writable limits width wide s₂ m₂ b₂ c₂ i (omega (arith, nb))) (λ i low high. t.bone_tracks i (omega arith)) in
      let m = Tracks.same-tracks width morph_groups morph_fields (keys morph (morphs s₁ m₁)) (keys morph (morphs s₂ m₂)) (morphs s₁ m₁).tracks 0 (λ i low high. morph-writable limits width wide s₁ m₁ b₁ c₁ i (omega arith)) (λ i low high. morph-writable limits width wide s₂ m₂ b₂ c₂ i (omega (arith, nm))) (λ i low high. t.morph_tracks i (omega arith)) in
      rw (strip-of-tracks width s₁ m₁, strip-of-tracks width s₂ m₂, b, m, nb, nm)

pub accepted-sections : (limits : Limits) (width : ℕ) → Wide limits width → AcceptedSections limits width
accepted-sections limits width wide =
    record {
      within = accepted-within limits width;
      equal = λ x y rx ry ax ay.
          let bx = blocks limits x.section x.start rx.model rx.end rx.reads in
          let by = blocks limits y.section y.start ry.model ry.end ry.reads in
          let cx = sound-clip x.section rx.model (tells limits width x rx ax).passes in
          let cy = sound-clip y.section ry.model (tells limits width y ry ay).passes in
          let ox = strip-out limits width x rx ax in
          let oy = strip-out limits width y ry ay in (
            λ e. same limits width wide x.section rx.model bx cx y.section ry.model by cy (sym ox ∙ e ∙ oy),
            λ t. ox ∙ alike limits width wide x.section rx.model bx cx y.section ry.model by cy t ∙ sym oy,
          );
    }

-- For 01's edition.
pub demand3 : MatchedSections edition1 count_width × AcceptedSections edition1 count_width
demand3 = (matched-sections edition1 count_width, accepted-sections edition1 count_width (record { tracks = omega arith; additional = omega arith }))
