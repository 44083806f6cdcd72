-- Document 01, module 3 and "Turned down" (FORMAT, The build): the index scan of the additional records, in file order, and the record of
-- an index.
use Rattle.std.specs.Prelude.{ℕ, ◌≤◌, ◌<◌, [], ◌∷◌, ◌≡◌, eqb, ltb, pos}
use Rattle.std.proofs.Math.Option.{Option}
use Rattle.layout.specs.{Refusals.{negative_index, index_below_count, repeated_index}, Numbers.{signed, least_negative, negative}}
use Rattle.layout.specs.Walk.{Refusal}
use Rattle.clip.specs.{First.{given, ◌or◌, first_met, any}, Fields.{Records, Kind, refusal_of}}

module _ {B : Type 0} (kind : Kind) (r : Records B) where
  -- "3 index negative (index). 4 index below its kind's count (index, count). 5 index repeated (index)."
  unfoldable pub index_refusal : ℕ → Option Refusal
  index_refusal position =
      let index = (r.at position).index in
      given (negative index) (refusal_of kind negative_index (signed index ∷ []))
      or given (ltb index r.tracks) (refusal_of kind index_below_count (signed index ∷ pos r.tracks ∷ []))
      or given (any position (λ p. eqb (r.at p).index index)) (refusal_of kind repeated_index (signed index ∷ []))

  unfoldable pub scan : Option Refusal
  scan = first_met r.additional index_refusal

-- The position of the record that bears an index.
unfoldable pub record_of : {B : Type 0} → Records B → ℕ → Option ℕ
record_of r index = first_met r.additional (λ p. given (eqb (r.at p).index index) p)

-- What holds of records that pass the scan.
module _ {B : Type 0} (r : Records B) where
  -- Indices that are not negative, not below their kind's count, and no two alike.
  pub record Indexed : Type 0 where
    pub positive : (p : ℕ) → p < r.additional → (r.at p).index < least_negative
    pub above : (p : ℕ) → p < r.additional → r.tracks ≤ (r.at p).index
    pub apart : (p q : ℕ) → p < r.additional → q < r.additional → (r.at p).index ≡ (r.at q).index → p ≡ q
