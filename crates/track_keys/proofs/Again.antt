-- The chain followed again: the frames of keys 0 to i are different, and those of the first i records are marked in the sorted list
-- (`Again`). So the next frame is the first repeat exactly if it is the initial record's or is marked. Assumes nothing.
use Prim.Native.Nat.{ℕ, zero, suc, ◌+◌, ◌≤◌, ◌<◌}
use native.Mathlib.Numerals.{add-one}
use native.Mathlib.Omega.{arith}
use mathlib.Core.Bool.{Bool, true, false}
use mathlib.Core.List.{List}
use mathlib.Core.Path.{◌≡◌, refl, sym, ap, ◌∙◌, subst}
use lib.ListN.{length, get_or}
use Rattle.order.specs.Field.{Within, AllBelow}
use Rattle.order.specs.Find.{NumbersRise}
use Rattle.order.specs.Sorted.{times, Sorted}
use Rattle.order.specs.Repeat.{FirstRepeat, Repeats, number_at}
use Rattle.order.specs.Met.{Meets}
use Rattle.order.proofs.Meeting.{MetFirst, met-none, met-rise, met-more, met-before, met-never}
use Rattle.blocks.specs.Block.{links}
use Rattle.chains.specs.Chain.{chain_at, Ends}
use Rattle.blocks.specs.declared.block.Block.{Block}
use Rattle.chains.proofs.AlongChain.{chain-below}
use Rattle.track_keys.specs.Frames.{frames_at}
use Rattle.track_keys.proofs.ChainFrames.{frame_field, frame-field, frame_is, held-once}
use Rattle.track_keys.proofs.FirstRepeats.{none-repeated, apart-one, repeat-here, apart-more}

-- The first i records of the chain are passed: their frames are met, and none of keys 0 to i is repeated.
pub record Again (s : List ℕ) (b : Block) (track : ℕ) (sorted list : List ℕ) (i : ℕ) : Type 0 where
  pub apart : Repeats (frames_at s b track) (i + 1) false
  pub met : MetFirst s (frame_field b) (chain_at s b track) sorted list i

-- The list held the chain, and was sorted.
module _ {s : List ℕ} {b : Block} {slots : List ℕ} {track : ℕ} (x : Ends s b slots track) {before after : List ℕ} (held : before ≡ chain_at s b track) (sorted : Sorted s (frame_field b) before after) where
  within : Within s (frame_field b)
  within = frame-field s b x.ordered.fits

  below : AllBelow b.records.count (chain_at s b track)
  below = chain-below x

  once : (p : ℕ) → times p (chain_at s b track) ≤ 1
  once = held-once s b track refl x

  chain-sorted : Sorted s (frame_field b) (chain_at s b track) after
  chain-sorted = subst (λ (ps : List ℕ). Sorted s (frame_field b) ps after) held sorted

  pub again-starts : Again s b track after after 0
  again-starts = record {
    apart = apart-one (frames_at s b track);
    met = met-none s (frame_field b) within (chain_at s b track) after chain-sorted below once;
  }

  module _ {list : List ℕ} {i : ℕ} (a : Again s b track after list i) where
    pub again-rise : NumbersRise s (frame_field b) list
    again-rise = met-rise s (frame_field b) within (chain_at s b track) after chain-sorted below once list i a.met

    pub again-long : length list ≡ length before
    again-long = a.met.as_many ∙ sorted.as_many

    -- Where all records are passed, no frame is repeated.
    pub again-end : i ≡ length before → FirstRepeat (frames_at s b track) (length before + 1) (length before + 1)
    again-end all = none-repeated (frames_at s b track) (length before + 1) (λ j k lt inside. a.apart j k lt (omega (arith, inside, all)))

    module _ (front : i < length before) {frame : ℕ} (here : frame ≡ frames_at s b track (i + 1)) {first : ℕ} (initial : first ≡ ((links s b).initial track).frame) where
      number : frame ≡ number_at s (frame_field b) (chain_at s b track) i
      number = here ∙ ap (frames_at s b track) (add-one i) ∙ sym (frame_is s b (get_or (chain_at s b track) i 0))

      pub again-first : frame ≡ first → FirstRepeat (frames_at s b track) (length before + 1) (i + 1)
      again-first same = repeat-here (frames_at s b track) i a.apart here front 0 (omega arith) (sym (same ∙ initial))

      module _ {list' : List ℕ} {r : Bool} (meets : Meets s (frame_field b) frame list list' r) where
        pub again-met : r ≡ true → FirstRepeat (frames_at s b track) (length before + 1) (i + 1)
        again-met taken =
            let at = met-before s (frame_field b) within (chain_at s b track) after chain-sorted below once list i a.met frame number list' r meets taken in
            repeat-here (frames_at s b track) i a.apart here front (suc at.0) (omega (arith, at.1)) (sym (frame_is s b (get_or (chain_at s b track) at.0 0)) ∙ at.2)

        pub again-more : (frame ≡ first → ⊥) → r ≡ false → Again s b track after list' (i + 1)
        again-more other left = record {
          apart = apart-more (frames_at s b track) i a.apart here new;
          met = met-more s (frame_field b) within (chain_at s b track) after chain-sorted below once list i a.met frame number list' r meets;
        }
          where
            inside : i < length (chain_at s b track)
            inside = subst (λ (ps : List ℕ). i < length ps) held front

            new : (j : ℕ) → j < i + 1 → frames_at s b track j ≡ frame → ⊥
            new zero lt same = other (sym (initial ∙ same))
            new (suc j) lt same = met-never s (frame_field b) within (chain_at s b track) after chain-sorted below once list i a.met frame number list' r meets left inside j (omega arith) (frame_is s b (get_or (chain_at s b track) j 0) ∙ same)
