-- A strip is no longer than its section: a bone record has at least 58 bytes and its key at most 49, a morph record 17 and its key 9, and a
-- track's count has at most 4. No record is in two chains, so none is written twice. Assumes nothing.
use Prim.Native.Nat.{ℕ, zero, suc, ◌+◌, ◌*◌, ◌≤◌}
use native.Mathlib.Nat.{mul-add, mul-suc, mul-le-mul_left}
use native.Mathlib.Omega.{arith}
use mathlib.Core.Bool.{Bool, true, false, cond}
use mathlib.Core.List.{List, [], ◌∷◌, ◌++◌, map}
use mathlib.Core.Option.{Option, none}
use mathlib.Core.Path.{◌≡◌, ap, ◌∙◌}
use lib.ListN.{length, length-append, length-map}
use Rattle.layout.specs.Walk.{fine}
use Rattle.layout.specs.Records.{size}
use Rattle.section.specs.declared.limits.Limits.{Limits}
use Rattle.section.specs.Model.{model_section}
use Rattle.section.specs.declared.model.Model.{Model}
use Rattle.clip.specs.First.{total}
use Rattle.clip.specs.Fields.{Records, Kind, bone, morph}
use Rattle.clip.specs.Keys.{Key, KeyTest, bone_test, morph_test, pose_asked, posed, weight_asked, float_at}
use Rattle.clip.specs.Build.{record_key, chain_of, keys, links_followed}
use Rattle.clip.specs.Section.{records_at, bones, morphs, clip_refusal}
use Rattle.clip.proofs.Counting.{total-cong, total-front, total-suc}
use Rattle.clip.proofs.Sound.{Sound}
use Rattle.clip.proofs.Reached.{reached-and-loose}
use Rattle.clip.proofs.Clip.{sound-clip}
use Rattle.clip.proofs.Facts.{blocks}
use Rattle.strip.specs.Plain.{Group, bone_groups, bone_fields, morph_groups, morph_fields}
use Rattle.strip.specs.Numbers.{little_endian}
use Rattle.strip.specs.Keys.{map_byte, present, key_bytes}
use Rattle.strip.specs.Strip.{keys_bytes, track_bytes, strip_of}
use Rattle.strip.proofs.ByTrack.{tracks_from, strip-of-tracks}
use Rattle.strip.proofs.Bytes.{length-little_endian}
use Rattle.strip.proofs.Keys.{Shaped}
use Rattle.strip.proofs.Written.{ShapedRecords, bones-shaped, morphs-shaped}

-- The widths of all groups together.
abbrev pub widths : List Group → ℕ
widths [] = 0
widths (g ∷ gs) = g.width + widths gs

present-fits : (gs : List Group) (fs : List (List ℕ)) → Shaped gs fs → length (present gs fs) ≤ widths gs
unfolding present
present-fits [] [] s = omega arith
present-fits [] (f ∷ fs) s = absurd s
present-fits (g ∷ gs) [] s = absurd s
present-fits (g ∷ gs) (f ∷ fs) s = go (g.plain f) (present-fits gs fs s.1)
  where
    go : (b : Bool) → length (present gs fs) ≤ widths gs → length (cond b [] f ++ present gs fs) ≤ g.width + widths gs
    go true rest = omega arith
    go false rest = let sum = length-append f (present gs fs) in let w = s.0 in omega (arith, sum, w)

module _ {B : Type 0} (groups : List Group) (fields_of : B → List (List ℕ)) where
  key_fits : (key : Key B) → Shaped groups (fields_of key.body) → length (key_bytes groups fields_of key) ≤ 5 + widths groups
  unfolding key_bytes
  key_fits key s =
      let sum = length-append (little_endian 4 key.frame) (map_byte groups (fields_of key.body) ∷ present groups (fields_of key.body)) in
      let four = length-little_endian 4 key.frame in
      let rest = present-fits groups (fields_of key.body) s in
      omega (arith, sum, four, rest)

  -- Every key's fields are as wide as their groups.
  abbrev AllShaped : List (Key B) → Type 0
  AllShaped [] = Unit {0}
  AllShaped (key ∷ ks) = Shaped groups (fields_of key.body) × AllShaped ks

  keys-fit : (ks : List (Key B)) → AllShaped ks → length (keys_bytes groups fields_of ks) ≤ (5 + widths groups) * length ks
  unfolding keys_bytes
  keys-fit [] s = omega arith
  keys-fit (key ∷ ks) s =
      let sum = length-append (key_bytes groups fields_of key) (keys_bytes groups fields_of ks) in
      let one = key_fits key s.0 in
      let rest = keys-fit ks s.1 in
      let more = mul-suc (5 + widths groups) (length ks) in
      omega (arith, sum, one, rest, more)

  module _ (width : ℕ) (narrow : width ≤ 4) (f : ℕ → List (Key B)) (shaped : (t : ℕ) → AllShaped (f t)) where
    tracks-fit : (n t : ℕ) → length (tracks_from width groups fields_of f t n) ≤ 4 * n + (5 + widths groups) * total n (λ i. length (f (t + i)))
    unfolding tracks_from track_bytes
    tracks-fit zero t = omega arith
    tracks-fit (suc n) t =
        let lengths : ℕ → ℕ = λ i. length (f (t + i)) in
        let K : ℕ = 5 + widths groups in
        let outer = length-append (track_bytes width groups fields_of (f t)) (tracks_from width groups fields_of f (suc t) n) in
        let inner = length-append (little_endian width (length (f t))) (keys_bytes groups fields_of (f t)) in
        let count = length-little_endian width (length (f t)) in
        let ks = keys-fit (f t) (shaped t) in
        let rest = tracks-fit n (suc t) in
        let front : total (suc n) lengths ≡ length (f (t + 0)) + total n (λ i. length (f (t + suc i))) = total-front n lengths in
        let here : length (f (t + 0)) ≡ length (f t) = ap (λ k. length (f k)) (omega arith) in
        let later : total n (λ i. length (f (t + suc i))) ≡ total n (λ i. length (f (suc t + i))) = total-cong n (λ i. length (f (t + suc i))) (λ i. length (f (suc t + i))) (λ i lt. ap (λ k. length (f k)) (omega arith)) in
        let whole : total (suc n) lengths ≡ length (f t) + total n (λ i. length (f (suc t + i))) = omega (arith, front, here, later) in
        let split : K * total (suc n) lengths ≡ K * length (f t) + K * total n (λ i. length (f (suc t + i))) = ap (λ k. K * k) whole ∙ mul-add K (length (f t)) (total n (λ i. length (f (suc t + i)))) in
        omega (arith, outer, inner, count, ks, rest, split, narrow)

-- All tracks of a kind, whose keys are as many as the tracks and the links followed together.
module _ {B : Type 0} (kind : Kind) (test : KeyTest B) (asked : B → Option ℕ) (groups : List Group) (fields_of : B → List (List ℕ)) (r : Records B) (shaped : ShapedRecords kind asked groups fields_of r) where
  records-shaped : (ps : List ℕ) → AllShaped groups fields_of (map (λ p. record_key (r.at p)) ps)
  records-shaped [] = tt
  records-shaped (p ∷ ps) = (shaped.at p, records-shaped ps)

  keys-shaped : (t : ℕ) → AllShaped groups fields_of (keys kind r t)
  unfolding keys
  keys-shaped t = (shaped.initial t, records-shaped (chain_of kind r t))

  keys-many : (t : ℕ) → length (keys kind r t) ≡ suc (length (chain_of kind r t))
  unfolding keys
  keys-many t = ap suc (length-map (chain_of kind r t) (λ p. record_key (r.at p)))

  kind_fits : (width : ℕ) → width ≤ 4 → Sound test r → length (tracks_from width groups fields_of (keys kind r) 0 r.tracks) ≤ 4 * r.tracks + (5 + widths groups) * (r.tracks + r.additional)
  unfolding links_followed
  kind_fits width narrow s =
      let n = r.tracks in
      let bound = tracks-fit groups fields_of width narrow (keys kind r) keys-shaped n 0 in
      let each : total n (λ i. length (keys kind r (0 + i))) ≡ total n (λ i. suc (length (chain_of kind r i))) =
      total-cong n (λ i. length (keys kind r (0 + i))) (λ i. suc (length (chain_of kind r i))) (λ i lt. ap (λ k. length (keys kind r k)) (omega arith) ∙ keys-many i) in
      let sum = total-suc n (λ i. length (chain_of kind r i)) in
      let whole = reached-and-loose kind test r s in
      let most : total n (λ i. length (keys kind r (0 + i))) ≤ n + r.additional = omega (arith, each, sum, whole) in
      let scaled = mul-le-mul_left (5 + widths groups) most in
      omega (arith, bound, scaled)

-- For either edition: a count has at most 4 bytes.
pub no_longer : (limits : Limits) (width : ℕ) → width ≤ 4 → (s : List ℕ) (start : ℕ) (m : Model) (end : ℕ) → model_section limits s start ≡ fine m end → clip_refusal s m ≡ none → length (strip_of width s m) ≤ length s
unfolding bones morphs records_at size
no_longer limits width narrow s start m end reads passes =
    let c = sound-clip s m passes in
    let b = blocks limits s start m end reads in
    let nb = (bones s m).tracks in
    let nm = (morphs s m).tracks in
    let bone_tracks = tracks_from width bone_groups bone_fields (keys bone (bones s m)) 0 nb in
    let morph_tracks = tracks_from width morph_groups morph_fields (keys morph (morphs s m)) 0 nm in
    let is = ap length (strip-of-tracks width s m) in
    let l1 = length-append (little_endian width nb ++ little_endian width nm ++ bone_tracks) morph_tracks in
    let l2 = length-append (little_endian width nb ++ little_endian width nm) bone_tracks in
    let l3 = length-append (little_endian width nb) (little_endian width nm) in
    let w1 = length-little_endian width nb in
    let w2 = length-little_endian width nm in
    let k1 = kind_fits bone bone_test (λ b. pose_asked (posed b)) bone_groups bone_fields (bones s m) (bones-shaped s m) width narrow c.bones in
    let k2 = kind_fits morph morph_test (λ w. weight_asked (float_at w 0)) morph_groups morph_fields (morphs s m) (morphs-shaped s m) width narrow c.morphs in
    let b1 = b.bones.offset in
    let b2 = b.bones.ends in
    let b3 = b.morphs.offset in
    let b4 = b.morphs.ends in
    let last = b.within in
    omega (arith, is, l1, l2, l3, w1, w2, k1, k2, b1, b2, b3, b4, last, narrow)
