-- Document 02, T-01 (FORMAT, Asset references): a path, normalised.
use Rattle.std.specs.Prelude.{ℕ, Bool, true, cond, ◌&&◌, List, [], ◌∷◌, map, Option, Some, None, ◌==◌}
use Rattle.std.specs.{Char.{eq_ignore_ascii_case}, List.{starts_with}, Option.{option_or, unwrap_or}}

abbrev pub slash : ℕ
slash = 47

abbrev pub backslash : ℕ
backslash = 92

-- "Backslashes become slashes"
abbrev pub slashed : ℕ → ℕ
slashed b = cond (b == backslash) slash b

-- "then each `//` becomes `/` in one pass, so `///` becomes `//`"
unfoldable pub one_pass : List ℕ → List ℕ
one_pass [] = []
one_pass (b ∷ []) = b ∷ []
one_pass (b ∷ (c ∷ bytes)) = cond (b == slash && c == slash) (slash ∷ one_pass bytes) (b ∷ one_pass (c ∷ bytes))

abbrev pub collapsed : List ℕ → List ℕ
collapsed path = one_pass (map slashed path)

-- `userfile/`
abbrev pub userfile : List ℕ
userfile = 117 ∷ 115 ∷ 101 ∷ 114 ∷ 102 ∷ 105 ∷ 108 ∷ 101 ∷ slash ∷ []

abbrev pub begins_with_userfile : List ℕ → Bool
begins_with_userfile text = starts_with eq_ignore_ascii_case text userfile

-- "its last `userfile/`, in any letter case, that opens it or follows a slash": the text from there on, if it has one. `here` says whether
-- the bytes left to look at open the text or follow a slash.
unfoldable pub last_userfile : Bool → List ℕ → Option (List ℕ)
last_userfile here [] = None
last_userfile here (b ∷ bytes) =
    option_or (last_userfile (b == slash) bytes) (cond (here && begins_with_userfile (b ∷ bytes)) (Some (b ∷ bytes)) None)

-- "The text is then cut to start at" it; "with none it stands whole."
abbrev pub normalize_path : List ℕ → List ℕ
normalize_path path = unwrap_or (last_userfile true (collapsed path)) (collapsed path)
