-- The records of the tracks before this one are marked, and their chains have as many records together as links were followed (`Passing`).
-- A chain has at most 65,534 records, so that these can be counted. Assumes nothing.
use Prim.Native.Nat.{ℕ, zero, suc, ◌+◌, ◌*◌, ◌≤◌, ◌<◌}
use native.Mathlib.Numerals.{add-one}
use native.Mathlib.Omega.{arith}
use mathlib.Core.List.{List}
use mathlib.Core.Path.{◌≡◌, refl, sym, ap, ◌∙◌, subst}
use lib.ListN.{length, replicate}
use Rattle.layout.specs.Walk.{Answer, answered, declined}
use Rattle.clip.specs.First.{total}
use Rattle.clip.specs.Chain.{chain}
use Rattle.clip.specs.Build.{positions, chain_of, links_followed}
use Rattle.strip.specs.Work.{each, track_mark}
use Rattle.blocks.specs.Kind.{kind_of}
use Rattle.blocks.specs.Block.{links}
use Rattle.blocks.specs.declared.block.Block.{Block}
use Rattle.chains.specs.Lookup.{Ordered}
use Rattle.chains.specs.Chain.{chain_at}
use Rattle.track_keys.proofs.ListedChain.{chain-few}
use Rattle.marks.specs.Marks.{marked}
use Rattle.marks.proofs.Each.{length-each}
use Rattle.marks.proofs.Marking.{mark_before, none-marked, all-marked, track-marked}

-- The records of the tracks before one are marked, and so many links were followed.
pub record Passing (s : List ℕ) (b : Block) (marks : List ℕ) (reached track : ℕ) : Type 0 where
  pub followed : reached ≡ total track (λ t. length (chain_at s b t))
  pub are : marks ≡ each b.records.count (mark_before (kind_of b.kind) (links s b) track)

module _ {s : List ℕ} {b : Block} where
  pub no-track : {marks : List ℕ} → marks ≡ replicate b.records.count 0 → Passing s b marks 0 0
  unfolding total
  no-track is = record { followed = refl; are = is ∙ none-marked (kind_of b.kind) (links s b) }

  module _ {marks : List ℕ} {reached track : ℕ} (p : Passing s b marks reached track) where
    pub as_many : length marks ≡ b.records.count
    as_many = ap length p.are ∙ length-each (mark_before (kind_of b.kind) (links s b) track) b.records.count

    pub all-tracks : track ≡ b.initials.count → (marks ≡ each b.records.count (track_mark (kind_of b.kind) (links s b))) × (reached ≡ links_followed (kind_of b.kind) (links s b))
    unfolding links_followed
    all-tracks same =
        (subst (λ (k : ℕ). marks ≡ each b.records.count (mark_before (kind_of b.kind) (links s b) k)) same p.are ∙ all-marked (kind_of b.kind) (links s b), subst (λ (k : ℕ). reached ≡ total k (λ t. length (chain_at s b t))) same p.followed)

  module _ {slots : List ℕ} (ordered : Ordered s b slots) where
    -- A chain that is refused has no records.
    chain-short : (track : ℕ) → track < b.initials.count → length (chain_at s b track) ≤ 65534
    unfolding chain_of
    chain-short track is-track = go (chain (kind_of b.kind) (links s b) track) refl
      where
        go : (a : Answer (List ℕ)) → chain (kind_of b.kind) (links s b) track ≡ a → length (chain_at s b track) ≤ 65534
        go (answered ps) e = chain-few (record { ordered = ordered; is-track = is-track; ends = e ∙ ap answered (sym (ap positions e)) })
        go (declined why) e = rw e (omega arith)

    total-short : (n : ℕ) → n ≤ b.initials.count → total n (λ t. length (chain_at s b t)) ≤ 65534 * n
    unfolding total
    total-short zero most = omega arith
    total-short (suc n) most =
        let rest = total-short n (omega arith) in
        let last = chain-short n (omega arith) in
        omega (arith, rest, last)

    module _ {marks : List ℕ} {reached track : ℕ} (p : Passing s b marks reached track) (is-track : track < b.initials.count) where
      -- The links of one more chain can be counted.
      pub few-followed : reached + 65534 < 18446744073709551616
      few-followed = let most = total-short track (omega (arith, is-track)) in omega (arith, most, p.followed, is-track, ordered.fits.few_tracks)

      pub one-track : {marks' : List ℕ} {reached' : ℕ} → marks' ≡ marked (track + 1) (chain_at s b track) marks → reached' ≡ reached + length (chain_at s b track) → Passing s b marks' reached' (track + 1)
      unfolding total
      one-track are-marked many =
          record {
            followed = many ∙ rw (add-one, p.followed);
            are = are-marked ∙ track-marked (kind_of b.kind) (links s b) ordered.indexed track is-track marks p.are;
          }
