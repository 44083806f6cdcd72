-- Document 01, "The strip" (FORMAT, The strip call): what the two work slices hold after an accepted build.
use Rattle.std.specs.Prelude.{ℕ, zero, suc, ◌+◌, cond, List, [], ◌∷◌, ◌++◌, ltb}
use Rattle.std.proofs.Math.Option.{Option, none, some}
use Rattle.section.specs.declared.model.Model.{Model}
use Rattle.clip.specs.{First.{given, first_met, member}, Fields.{Records, Kind, bone, morph}, Build.{chain_of}, Section.{bones, morphs}}

-- f 0, f 1, .., f (n - 1)
unfoldable pub each : {A : Type 0} → ℕ → (ℕ → A) → List A
each zero f = []
each (suc n) f = each n f ++ f n ∷ []

module _ {B : Type 0} (r : Records B) where
  unfoldable pub inserted : ℕ → List ℕ → List ℕ
  inserted p [] = p ∷ []
  inserted p (q ∷ qs) = cond (ltb (r.at p).index (r.at q).index) (p ∷ q ∷ qs) (q ∷ inserted p qs)

  -- "record positions (from 0) by rising index": of the first n records
  unfoldable pub by_index : ℕ → List ℕ
  by_index zero = []
  by_index (suc n) = inserted n (by_index n)

abbrev pub plus_one : Option ℕ → ℕ
plus_one none = 0
plus_one (some track) = track + 1

-- "its track number plus 1, or 0 if loose"
unfoldable pub track_mark : {B : Type 0} → Kind → Records B → ℕ → ℕ
track_mark kind r position = plus_one (first_met r.tracks (λ t. given (member position (chain_of kind r t)) t))

module _ (s : List ℕ) (m : Model) where
  -- "the bone record positions (from 0) by rising index, then the morphs'"
  unfoldable pub first_work : List ℕ
  first_work = by_index (bones s m) (bones s m).additional ++ by_index (morphs s m) (morphs s m).additional

  -- "for each bone record, then each morph record, in file order"
  unfoldable pub second_work : List ℕ
  second_work = each (bones s m).additional (track_mark bone (bones s m)) ++ each (morphs s m).additional (track_mark morph (morphs s m))
