-- The bytes of records and of tracks, one more each time: those of some are no more than those of all, and with keys of at most 49 bytes
-- and chains of at most 65,534 records a track has at most 4,000,000. Assumes nothing.
use Prim.Native.Nat.{ℕ, zero, suc, ◌+◌, ◌*◌, ◌≤◌, ◌<◌}
use native.Mathlib.Nat.{add-zero, zero-add}
use native.Mathlib.Numerals.{add-one}
use native.Mathlib.Decide.{ℕ_discrete}
use native.Mathlib.Omega.{arith}
use mathlib.Core.List.{List, [], ◌∷◌, ◌++◌, map, append_assoc, append-nil}
use mathlib.Core.Path.{◌≡◌, refl, sym, ap, ◌∙◌}
use lib.ListN.{length, length-append, length-map}
use Rattle.clip.specs.Keys.{Key}
use Rattle.clip.specs.Build.{initial_key, record_key, keys}
use Rattle.strip.specs.Plain.{Group}
use Rattle.strip.specs.Numbers.{little_endian}
use Rattle.strip.specs.Strip.{keys_bytes, track_bytes}
use Rattle.strip.proofs.ByTrack.{tracks_from}
use Rattle.strip.proofs.Bytes.{length-little_endian}
use Rattle.blocks.specs.Block.{links}
use Rattle.chains.specs.Chain.{chain_at}
use Rattle.blocks.specs.declared.block.Block.{Block}
use Rattle.writing.specs.Tracks.{groups_of, fields_at, initial_bytes, record_bytes, records_bytes, keys_at, strip_track, first_tracks}
use Rattle.writing.proofs.OfKind.{key-most}

module _ {B : Type 0} (width : ℕ) (groups : List Group) (fields_of : B → List (List ℕ)) (of : ℕ → List (Key B)) where
  tracks-more : (n t : ℕ) → tracks_from width groups fields_of of t (suc n) ≡ tracks_from width groups fields_of of t n ++ track_bytes width groups fields_of (of (t + n))
  unfolding tracks_from
  tracks-more zero t = rw (append-nil (track_bytes width groups fields_of (of t)), add-zero t)
  tracks-more (suc n) t =
      let same : suc t + n ≡ t + suc n = omega arith in
      let track = track_bytes width groups fields_of (of t) in
      let last = track_bytes width groups fields_of (of (t + suc n)) in
      ap (λ (bs : List ℕ). track ++ bs) (tracks-more n (suc t) ∙ ap (λ (k : ℕ). tracks_from width groups fields_of of (suc t) n ++ track_bytes width groups fields_of (of k)) same)
      ∙ sym (append_assoc track (tracks_from width groups fields_of of (suc t) n) last)

module _ (s : List ℕ) (b : Block) where
  pub no-records : records_bytes s b [] ≡ []
  unfolding keys_bytes
  no-records = refl

  pub records-and : (ps : List ℕ) (p : ℕ) → records_bytes s b (ps ++ p ∷ []) ≡ records_bytes s b ps ++ record_bytes s b p
  unfolding keys_bytes
  records-and [] p = append-nil (record_bytes s b p)
  records-and (q ∷ ps) p =
      ap (λ (bs : List ℕ). record_bytes s b q ++ bs) (records-and ps p)
      ∙ sym (append_assoc (record_bytes s b q) (records_bytes s b ps) (record_bytes s b p))

  -- The keys of some records are among those of these and others.
  pub records-within : (ps qs : List ℕ) → length (records_bytes s b ps) ≤ length (records_bytes s b (ps ++ qs))
  unfolding keys_bytes
  records-within [] qs = omega arith
  records-within (p ∷ ps) qs =
      let short = length-append (record_bytes s b p) (records_bytes s b ps) in
      let long = length-append (record_bytes s b p) (records_bytes s b (ps ++ qs)) in
      let rest = records-within ps qs in
      omega (arith, short, long, rest)

  pub records-most : (ps : List ℕ) → length (records_bytes s b ps) ≤ 49 * length ps
  unfolding keys_bytes
  records-most [] = omega arith
  records-most (p ∷ ps) =
      let sum = length-append (record_bytes s b p) (records_bytes s b ps) in
      let one = key-most s b.kind (record_key ((links s b).at p)) in
      let rest = records-most ps in
      omega (arith, sum, one, rest)

  -- "key count u16 and the keys in chain order"
  pub track-parts : (t : ℕ) → little_endian 2 (length (chain_at s b t) + 1) ++ initial_bytes s b t ++ records_bytes s b (chain_at s b t) ≡ strip_track s b t
  unfolding track_bytes keys_bytes keys
  track-parts t =
      let many : length (chain_at s b t) + 1 ≡ suc (length (map (λ p. record_key ((links s b).at p)) (chain_at s b t))) = add-one _ ∙ ap suc (sym (length-map (chain_at s b t) (λ p. record_key ((links s b).at p)))) in
      append_assoc (little_endian 2 (length (chain_at s b t) + 1)) (initial_bytes s b t) (records_bytes s b (chain_at s b t))
      ∙ ap (λ (n : ℕ). little_endian 2 n ++ (initial_bytes s b t ++ records_bytes s b (chain_at s b t))) many

  pub track-long : (t : ℕ) → length (strip_track s b t) ≡ 2 + length (initial_bytes s b t) + length (records_bytes s b (chain_at s b t))
  track-long t =
      let parts = ap (λ (bs : List ℕ). length bs) (track-parts t) in
      let outer = length-append (little_endian 2 (length (chain_at s b t) + 1) ++ initial_bytes s b t) (records_bytes s b (chain_at s b t)) in
      let inner = length-append (little_endian 2 (length (chain_at s b t) + 1)) (initial_bytes s b t) in
      let count = length-little_endian 2 (length (chain_at s b t) + 1) in
      omega (arith, parts, outer, inner, count)

  pub track-most : (t : ℕ) → length (chain_at s b t) ≤ 65534 → length (strip_track s b t) ≤ 4000000
  track-most t few =
      let long = track-long t in
      let first = key-most s b.kind (initial_key ((links s b).initial t)) in
      let rest = records-most (chain_at s b t) in
      omega (arith, long, first, rest, few)

  pub no-tracks : first_tracks s b 0 ≡ []
  unfolding tracks_from
  no-tracks = refl

  pub first_more : (n : ℕ) → first_tracks s b (n + 1) ≡ first_tracks s b n ++ strip_track s b n
  first_more n = rw add-one (tracks-more 2 (groups_of b.kind) (fields_at s b.kind) (keys_at s b) n 0 ∙ rw (zero-add n))

  next-track : (n : ℕ) → length (first_tracks s b (suc n)) ≡ length (first_tracks s b n) + length (strip_track s b n)
  next-track n = ap (λ (k : ℕ). length (first_tracks s b k)) (sym (add-one n)) ∙ ap (λ (bs : List ℕ). length bs) (first_more n) ∙ length-append (first_tracks s b n) (strip_track s b n)

  pub first-within : (m n : ℕ) → n ≤ m → length (first_tracks s b n) ≤ length (first_tracks s b m)
  first-within zero n le = let none : n ≡ 0 = omega arith in rw none (omega arith)
  first-within (suc m) n le = go (ℕ_discrete n (suc m)) (first-within m n)
    where
      go : Dec (n ≡ suc m) → (n ≤ m → length (first_tracks s b n) ≤ length (first_tracks s b m)) → length (first_tracks s b n) ≤ length (first_tracks s b (suc m))
      go (yes e) before = rw e (omega arith)
      go (no ne) before = let less = before (omega (arith, ne)) in let more = next-track m in omega (arith, less, more)

  pub first-most : (n : ℕ) → ((t : ℕ) → t < n → length (chain_at s b t) ≤ 65534) → length (first_tracks s b n) ≤ 4000000 * n
  first-most zero few = rw no-tracks (omega arith)
  first-most (suc n) few =
      let sum = next-track n in
      let one = track-most n (few n (omega arith)) in
      let rest = first-most n (λ t lt. few t (omega arith)) in
      omega (arith, sum, one, rest)
