-- Document 02, T-01 (FORMAT, Asset references): "Each entry is a kind byte .., a u16 length and that many bytes". Entries written one
-- behind the other are the list's entries, and the entries of a list, written again, are the list. The proof is in proofs/Written.antt.
use Rattle.std.specs.Prelude.{ℕ, ◌<◌, ◌/◌, ◌%◌, List, [], ◌∷◌, ◌++◌, length, ◌≡◌, Some}
use Rattle.std.specs.List.{All}
use Rattle.asset_references.specs.References.{Reference, references}

abbrev pub entry_bytes : Reference → List ℕ
entry_bytes r = r.kind ∷ length r.text % 256 ∷ length r.text / 256 ∷ r.text

abbrev pub written : List Reference → List ℕ
written [] = []
written (r ∷ rs) = entry_bytes r ++ written rs

pub record Written : Type 0 where
  pub read : (rs : List Reference) → All (λ r. length r.text < 65536) rs → references (written rs) ≡ Some rs
  pub again : (list : List ℕ) (rs : List Reference) → All (λ b. b < 256) list → references list ≡ Some rs → written rs ≡ list
