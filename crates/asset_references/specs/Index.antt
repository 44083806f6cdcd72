-- Document 02, T-01 (FORMAT, Asset references): which reference of a list is a model's path.
use Rattle.std.specs.Prelude.{ℕ, Bool, cond, ◌&&◌, ◌||◌, List, [], length, Option, Some, None, ◌==◌, ltb}
use Rattle.std.specs.{Char.{is_ascii}, List.{list_all, position_from}, Str.{str_eq_ignore_ascii_case}}
use Rattle.layout.specs.Refusals.{too_long, list_cut_off, not_ascii}
use Rattle.layout.specs.Walk.{refusal, Answer, answered, declined}
use Rattle.section.specs.declared.limits.Limits.{Limits}
use Rattle.asset_references.specs.Normalize.{normalize_path}
use Rattle.asset_references.specs.References.{Reference, references}

-- "a kind byte (1 a model; every other kind is counted and passed over)"
abbrev pub model : ℕ
model = 1

-- A "model entry equal without regard to ASCII case" to a text; an entry's text is "already normalised".
abbrev pub is_model_of : List ℕ → Reference → Bool
is_model_of text r = r.kind == model && str_eq_ignore_ascii_case r.text text

abbrev pub all_ascii : List ℕ → Bool
all_ascii bytes = list_all is_ascii bytes

-- "The number, from 0, of the first model entry equal .. is the answer, or none. It refuses with 21 a list that ends inside an entry, and
-- after that with 22 a byte above 127 in the path, which is lent whole, or in any entry's text."
abbrev pub index_in : List ℕ → Option (List Reference) → Answer (Option ℕ)
index_in path None = declined (refusal list_cut_off [])
index_in path (Some rs) =
    cond (all_ascii path && list_all (λ r. all_ascii r.text) rs) (answered (position_from (is_model_of (normalize_path path)) 0 rs)) (declined (refusal not_ascii []))

-- "16 holds for this path, this list .., each by itself": document 01's "more than 16,777,215 bytes, tested first".
abbrev pub asset_reference_index_for_path : Limits → List ℕ → List ℕ → Answer (Option ℕ)
asset_reference_index_for_path limits path list =
    cond (ltb limits.bytes (length path) || ltb limits.bytes (length list)) (declined (refusal too_long [])) (index_in path (references list))
