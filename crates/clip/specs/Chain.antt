-- Document 01, module 4 (FORMAT, The build): the chain of a track, as positions of additional records in chain order.
use Rattle.std.specs.Prelude.{ℕ, zero, suc, cond, not, List, [], ◌∷◌, eqb, pos}
use Rattle.std.proofs.Math.Option.{Option, none, some}
use Rattle.layout.specs.{Refusals.{missing_link, cycle, wrong_previous}, Numbers.{signed}, Walk.{Refusal, Answer, answered, declined}}
use Rattle.clip.specs.{First.{given, ◌or◌, member}, Fields.{Records, Kind, refusal_of}, Scan.{record_of}}

module _ {A : Type 0} where
  -- What is answered unless a refusal is met before it.
  abbrev pub unless : Option Refusal → Answer A → Answer A
  unless none a = a
  unless (some why) a = declined why

  -- What is answered of the record that was found, or the refusal where there is none.
  abbrev pub found : Option ℕ → Refusal → (ℕ → Answer A) → Answer A
  found none why f = declined why
  found (some p) why f = f p

abbrev pub with : ℕ → Answer (List ℕ) → Answer (List ℕ)
with p (answered ps) = answered (p ∷ ps)
with p (declined why) = declined why

module _ {B : Type 0} (kind : Kind) (r : Records B) (track : ℕ) where
  -- "Link 0 ends the chain. For any other link check missing, then cycle, then previous." 6 link to an absent index (track, link);
  -- 7 cycle (track, link); 8 wrong previous link (track, link, found, expected). A chain has no more links than there are records,
  -- so `left`, which is one more at the beginning, is never used up (proofs, Ends).
  unfoldable pub follow : ℕ → List ℕ → ℕ → ℕ → Answer (List ℕ)
  follow zero visited expected link = declined (refusal_of kind cycle (pos track ∷ signed link ∷ []))
  follow (suc left) visited expected link =
      cond (eqb link 0) (answered []) (found (record_of r link) (refusal_of kind missing_link (pos track ∷ signed link ∷ [])) (λ p.
      let rest = follow left (p ∷ visited) link (r.at p).next in
      unless (given (member p visited) (refusal_of kind cycle (pos track ∷ signed link ∷ []))
      or given (not (eqb (r.at p).previous expected))
      (refusal_of kind wrong_previous (pos track ∷ signed link ∷ signed (r.at p).previous ∷ signed expected ∷ [])))
      (with p rest)))

  -- "Start at the initial record's next link, expecting its track number as previous link."
  unfoldable pub chain : Answer (List ℕ)
  chain = follow (suc r.additional) [] track (r.initial track).next
