-- A track is ready where its chain still stands at the front of the list, its first repeat is known and its initial record's key meets
-- nothing: what it meets is then what its records' keys meet. A refusal before that is the track's own. Assumes nothing.
use Prim.Native.Nat.{ℕ, ◌+◌, ◌≤◌, ◌<◌}
use mathlib.Core.Bool.{false}
use mathlib.Core.List.{List, ◌++◌}
use mathlib.Core.Option.{none, some}
use mathlib.Core.Path.{◌≡◌, sym, ap, ◌∙◌, subst}
use lib.ListN.{length, take, drop}
use Rattle.layout.specs.Walk.{answered}
use Rattle.order.specs.Repeat.{FirstRepeat}
use Rattle.blocks.specs.Block.{links}
use Rattle.chains.specs.Lookup.{Ordered}
use Rattle.blocks.specs.Fault.{fault_of}
use Rattle.track_keys.specs.Keys.{key_meets}
use Rattle.track_keys.specs.Tracks.{meets, Listed, frames_of}
use Rattle.track_keys.specs.Frames.{frames_at}
use Rattle.std.proofs.lemmas.List.{take-append-drop}
use Rattle.std.proofs.Common.{Result, Ok, Err, IsErr, IsErrAnd}
use Rattle.track_keys.specs.Ready.{Keyed, KeysReady}
use Rattle.track_keys.specs.declared.ready.Keys.{Keys}
use Rattle.blocks.specs.declared.block.Block.{Block}
use Rattle.blocks.specs.declared.fault.Fault.{Fault}
use Rattle.track_keys.proofs.ListedChain.{listed-is}
use Rattle.track_keys.proofs.Meets.{initial-meets}

-- The front of a list is put back as it was.
pub front-same : (list front : List ℕ) (n : ℕ) → front ≡ take n list → take n (front ++ drop n list) ≡ take n list
front-same list front n same = rw same (ap (take n) (take-append-drop n list))

-- A refusal handed on.
pub refused-on : (s : List ℕ) (b : Block) (track : ℕ) (list : List ℕ) (r : Result Keys Fault) (fault : Fault) → IsErr r × IsErrAnd r (λ e. e ≡ fault) → meets s b track ≡ some (fault_of fault) → KeysReady s b track list r
refused-on s b track list r fault handed is = go r handed
  where
    go : (r : Result Keys Fault) → IsErr r × IsErrAnd r (λ e. e ≡ fault) → KeysReady s b track list r
    go (Ok keys) h = absurd h.1
    go (Err e) h = is ∙ ap (λ (f : Fault). some (fault_of f)) (sym h.1)

module _ {s : List ℕ} {b : Block} {slots : List ℕ} (ordered : Ordered s b slots) (track : ℕ) (is-track : track < b.initials.count) (n : ℕ) (list list' : List ℕ) (listed : Listed s b track n list) (same : take n list' ≡ take n list) where
  listed-again : Listed s b track n list'
  listed-again = listed ∙ ap answered (sym same)

  pub keys-ready : (again : ℕ) → n ≤ b.records.count → length (take n list) ≡ n → FirstRepeat (frames_at s b track) (length (take n list) + 1) again → none ≡ key_meets s b.kind track ((links s b).initial track).frame ((links s b).initial track).body false → Keyed s b track list' n again
  keys-ready again many long repeat fine =
      let first = subst (λ (m : ℕ). FirstRepeat (frames_at s b track) (m + 1) again) long repeat in
      record {
        listed = listed-again;
        many = many;
        repeat = subst (λ (ps : List ℕ). FirstRepeat (frames_of (links s b) track ps) (n + 1) again) (sym (same ∙ listed-is s b track n list listed)) first;
        so_far = initial-meets s b slots ordered track is-track n list' listed-again ∙ rw (sym fine);
      }

  pub keys-refused : (fault : Fault) → some (fault_of fault) ≡ key_meets s b.kind track ((links s b).initial track).frame ((links s b).initial track).body false → meets s b track ≡ some (fault_of fault)
  keys-refused fault refused = initial-meets s b slots ordered track is-track n list' listed-again ∙ rw (sym refused)
