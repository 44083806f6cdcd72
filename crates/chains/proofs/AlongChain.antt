-- A chain that ends, followed by its links: `link` is the one behind its first i records (`Along`), 0 exactly where all are passed. Any
-- other link is the next record's index, and no other record bears it. Assumes nothing.
use Prim.Native.Nat.{ℕ, zero, suc, ◌+◌, ◌<◌}
use native.Mathlib.Numerals.{add-one}
use native.Mathlib.Omega.{arith}
use mathlib.Core.List.{List, [], ◌∷◌, ◌++◌}
use mathlib.Core.Option.{none, some}
use mathlib.Core.Path.{◌≡◌, refl, sym, ap, ◌∙◌, subst}
use lib.ListN.{length, get_or, drop, drop_of_length-le, length-append}
use lib.Seq.{drop-cons}
use Rattle.order.specs.Field.{AllBelow}
use Rattle.order.proofs.Times.{equal_or_not}
use Rattle.clip.specs.Fields.{Records}
use Rattle.clip.specs.Scan.{record_of}
use Rattle.clip.proofs.Indexed.{of-record}
use Rattle.clip.proofs.Counting.{distinct-length}
use Rattle.clip.proofs.Chained.{Chained, all-below, no-repeats}
use Rattle.clip.proofs.Follow.{is-chain}
use Rattle.blocks.specs.Kind.{kind_of}
use Rattle.blocks.specs.Block.{links}
use Rattle.chains.specs.Chain.{chain_at, link_to, Ends, Along}
use Rattle.chains.specs.Lookup.{Ordered}
use Rattle.chains.specs.Step.{Reaches}
use Rattle.chains.specs.declared.step.Step.{Step}
use Rattle.chains.specs.Walk.{AllEnd}
use Rattle.blocks.specs.declared.block.Block.{Block}

module _ {B : Type 0} (r : Records B) where
  -- What the link to a record of a chain is.
  record Led (link p : ℕ) : Type 0 where
    on : link ≡ 0 → ⊥
    below : p < r.additional
    index : (r.at p).index ≡ link

  led : (ps : List ℕ) (expected link : ℕ) → Chained r expected link ps → (i : ℕ) → i < length ps → Led (link_to r link ps i) (get_or ps i 0)
  led [] expected link c i lt = absurd (omega arith)
  led (p ∷ ps) expected link c zero lt = record { on = c.0; below = c.1; index = c.2 }
  led (p ∷ ps) expected link c (suc zero) lt = led ps link (r.at p).next c.4 0 (omega arith)
  led (p ∷ ps) expected link c (suc (suc i)) lt = led ps link (r.at p).next c.4 (suc i) (omega arith)

  last : (ps : List ℕ) (expected link : ℕ) → Chained r expected link ps → link_to r link ps (length ps) ≡ 0
  last [] expected link c = c
  last (p ∷ []) expected link c = c.4
  last (p ∷ q ∷ ps) expected link c = last (q ∷ ps) link (r.at p).next c.4

get_or-append : (ps : List ℕ) (p : ℕ) (qs : List ℕ) → get_or (ps ++ p ∷ qs) (length ps) 0 ≡ p
get_or-append [] p qs = refl
get_or-append (q ∷ ps) p qs = get_or-append ps p qs

-- A track of a block whose chains all end.
pub ending : {s : List ℕ} {b : Block} {slots : List ℕ} {track : ℕ} → Ordered s b slots → AllEnd s b → track < b.initials.count → Ends s b slots track
ending {track = track} ordered all_end is-track = record { ordered = ordered; is-track = is-track; ends = all_end track is-track }

module _ {s : List ℕ} {b : Block} {slots : List ℕ} {track : ℕ} (x : Ends s b slots track) where
  pub chained : Chained (links s b) track ((links s b).initial track).next (chain_at s b track)
  chained = is-chain (kind_of b.kind) (links s b) track (chain_at s b track) x.ends

  pub chain-below : AllBelow b.records.count (chain_at s b track)
  chain-below i inside = (led (links s b) (chain_at s b track) track ((links s b).initial track).next chained i inside).below

  -- A record of the chain, with others in front of it and behind it.
  pub part-below : (ps : List ℕ) {p : ℕ} (qs : List ℕ) → ps ++ p ∷ qs ≡ chain_at s b track → p < b.records.count
  part-below ps {p} qs is =
      let inside : length ps < length (ps ++ p ∷ qs) = omega (arith, length-append ps (p ∷ qs)) in
      subst (λ (q : ℕ). q < b.records.count) (get_or-append ps p qs)
      (subst (λ (l : List ℕ). get_or l (length ps) 0 < b.records.count) (sym is) (chain-below (length ps) (subst (λ (l : List ℕ). length ps < length l) is inside)))

module _ {s : List ℕ} {b : Block} {slots : List ℕ} {track : ℕ} (x : Ends s b slots track) {i link : ℕ} (a : Along s b track i link) where
  led-here : i < length (chain_at s b track) → Led (links s b) link (get_or (chain_at s b track) i 0)
  led-here inside = subst (λ (l : ℕ). Led (links s b) l (get_or (chain_at s b track) i 0)) (sym a.linked) (led (links s b) (chain_at s b track) track ((links s b).initial track).next (chained x) i inside)

  -- Link 0 ends the chain, and no other link does.
  pub along-all : link ≡ 0 → i ≡ length (chain_at s b track)
  along-all zero_link = equal_or_not i (length (chain_at s b track)) (λ all. all) (λ other. absurd ((led-here (omega (arith, a.most, other))).on zero_link))

  pub along-inside : (link ≡ 0 → ⊥) → i < length (chain_at s b track)
  along-inside on =
      equal_or_not i (length (chain_at s b track))
      (λ all. absurd (on (a.linked ∙ ap (link_to (links s b) ((links s b).initial track).next (chain_at s b track)) all ∙ last (links s b) (chain_at s b track) track ((links s b).initial track).next (chained x))))
      (λ other. omega (arith, a.most, other))

  pub along-nothing : link ≡ 0 → drop i (chain_at s b track) ≡ []
  along-nothing zero_link = drop_of_length-le (chain_at s b track) {i = i} (omega (arith, along-all zero_link))

  -- One record more can be counted.
  pub along-few : (link ≡ 0 → ⊥) → i + 1 < 18446744073709551616
  along-few on =
      let once = no-repeats (links s b) x.ordered.indexed track x.is-track ((links s b).initial track).next (chain_at s b track) (chained x) in
      let short = distinct-length b.records.count (chain_at s b track) once (all-below (links s b) (chain_at s b track) track ((links s b).initial track).next (chained x)) in
      omega (arith, short, along-inside on, x.ordered.fits.few_records)

  module _ (on : link ≡ 0 → ⊥) where
    bears : record_of (links s b) link ≡ some (get_or (chain_at s b track) i 0)
    bears = let at = led-here (along-inside on) in of-record (links s b) x.ordered.indexed link (get_or (chain_at s b track) i 0) at.below at.index

    -- There is a step to go.
    pub along-absent : {P : Type 0} → none ≡ record_of (links s b) link → P
    along-absent absent =
        let out : none ≡ some (get_or (chain_at s b track) i 0) = absent ∙ bears in
        absurd (let z : ◌≡◌ {A = ℕ} 0 1 = cc in omega arith)

    module _ {step : Step} (to : Reaches s b link step) where
      along_at : step.position ≡ get_or (chain_at s b track) i 0
      along_at =
          let same : some step.position ≡ some (get_or (chain_at s b track) i 0) = to.bears ∙ bears in
          cc

      pub along-more : Along s b track (i + 1) step.next
      along-more = record {
        most = omega (arith, along-inside on);
        linked = to.next ∙ ap (λ q. ((links s b).at q).next) along_at ∙ ap (link_to (links s b) ((links s b).initial track).next (chain_at s b track)) (sym (add-one i));
      }

      pub along-first : drop i (chain_at s b track) ≡ step.position ∷ drop (i + 1) (chain_at s b track)
      along-first = rw (add-one, along_at) (drop-cons (chain_at s b track) i 0 (along-inside on))
