-- Document 02, T-01 (FORMAT, Asset references): a run of the call, and what its answer says.
use Rattle.std.specs.Prelude.{ℕ, ◌<◌, List, ◌≡◌, Option, Some, None, Result, Ok}
use Rattle.std.specs.{List.{slice_get}, Str.{str_to_ascii_lowercase}}
use Rattle.section.specs.Limits.{edition1}
use Rattle.asset_references.specs.Normalize.{normalize_path}
use Rattle.asset_references.specs.References.{Reference, references}
use Rattle.asset_references.specs.Index.{model, asset_reference_index_for_path}
use Rattle.asset_references.specs.Answers.{index_read}
use Rattle.asset_references.specs.declared.refusal.AssetRefusal.{AssetRefusal}

-- The call's `ensures`, and what a run is.
abbrev pub AssetCall : List ℕ → List ℕ → Result (Option ℕ) AssetRefusal → Type 0
AssetCall path list answer = index_read answer ≡ asset_reference_index_for_path edition1 path list

pub record Run : Type 0 where
  pub path : List ℕ
  pub list : List ℕ
  pub answer : Result (Option ℕ) AssetRefusal
  pub call : AssetCall path list answer

-- A "model entry equal without regard to ASCII case" to the normalised path.
pub record IsModel (path : List ℕ) (r : Reference) : Type 0 where
  pub kind : r.kind ≡ model
  pub equal : str_to_ascii_lowercase r.text ≡ str_to_ascii_lowercase (normalize_path path)

-- Entry k of the list is such a one, and no entry before it is.
pub record First (x : Run) (k : ℕ) : Type 0 where
  pub entries : List Reference
  pub listed : references x.list ≡ Some entries
  pub entry : Reference
  pub at : slice_get entries k ≡ Some entry
  pub is : IsModel x.path entry
  pub before : (j : ℕ) (other : Reference) → j < k → slice_get entries j ≡ Some other → IsModel x.path other → ⊥

-- No entry of the list is.
pub record Nowhere (x : Run) : Type 0 where
  pub entries : List Reference
  pub listed : references x.list ≡ Some entries
  pub every : (j : ℕ) (other : Reference) → slice_get entries j ≡ Some other → IsModel x.path other → ⊥

-- "The number, from 0, of the first model entry equal without regard to ASCII case is the answer, or none." The proof is in
-- proofs/Found.antt.
pub record Found : Type 0 where
  pub number : (x : Run) (k : ℕ) → x.answer ≡ Ok (Some k) → First x k
  pub none : (x : Run) → x.answer ≡ Ok None → Nowhere x
  -- So no number is the one that stands for none in the calls for C.
  pub below_limit : (x : Run) (k : ℕ) → x.answer ≡ Ok (Some k) → k < edition1.bytes
  -- Document 01, "Contracts for this work": "Nothing is left open": two runs that are lent the same answer the same.
  pub fixed : (x y : Run) → x.path ≡ y.path → x.list ≡ y.list → x.answer ≡ y.answer
