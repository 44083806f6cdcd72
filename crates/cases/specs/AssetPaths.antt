-- Document 02, T-01 (FORMAT, Asset references): paths, lists, and which reference is the path.
use Rattle.std.specs.Prelude.{ℕ, List, [], ◌∷◌, ◌++◌, ◌≡◌, codes, length, replicate, Option, Some, None, Ok, Err}
use Rattle.layout.specs.Walk.{Answer, answered, declined, refusal}
use Rattle.section.specs.declared.limits.Limits.{Limits}
use Rattle.asset_references.specs.{References.{reference}, Written.{written}}
use Rattle.asset_references.specs.Index.{asset_reference_index_for_path}
use Rattle.asset_references.specs.Answers.{index_read}
use Rattle.asset_references.specs.declared.refusal.AssetRefusal.{AssetRefusal}
use Rattle.answer_cases.specs.Bytes.{zeros}

pub record PathCase : Type 0 where
  pub path : List ℕ
  pub list : List ℕ
  pub gives : Answer (Option ℕ)

abbrev pub HoldPaths : Limits → List PathCase → Type 0
HoldPaths limits [] = Unit {0}
HoldPaths limits (c ∷ cs) = (asset_reference_index_for_path limits c.path c.list ≡ c.gives) × HoldPaths limits cs

-- An entry whose text has fewer than 256 bytes.
abbrev pub entry : ℕ → List ℕ → List ℕ
entry kind text = kind ∷ length text ∷ 0 ∷ text

abbrev pub number : List ℕ → List ℕ → ℕ → PathCase
number path list k = record { path = path; list = list; gives = answered (Some k) }

abbrev pub none : List ℕ → List ℕ → PathCase
none path list = record { path = path; list = list; gives = answered None }

abbrev pub refused : List ℕ → List ℕ → ℕ → PathCase
refused path list number = record { path = path; list = list; gives = declined (refusal number []) }

-- One pass over the slashes; backslashes; the last `userfile/` that opens the text or follows a slash, in any letter case, and none that
-- does; kinds passed over and counted, the first of two; an entry as it stands; a text without its length, and one of 256 bytes; an empty
-- path; 21 over the whole list, then 22 over path and entries; kinds and lengths above 127.
abbrev pub path_cases : List PathCase
path_cases =
    number (codes "a\\\\\\b") (entry 1 (codes "a/b") ++ entry 1 (codes "a///b") ++ entry 1 (codes "A//B")) 2
    ∷ number (codes "a\\b") (entry 1 (codes "a\\b") ++ entry 1 (codes "a/b")) 1
    ∷ number (codes "c:\\mmd\\UserFile\\userfile/m.pmx") (entry 1 (codes "userfile/userfile/m.pmx") ++ entry 1 (codes "USERFILE/M.PMX")) 1
    ∷ number (codes "userfile/xuserfile/a") (entry 1 (codes "a") ++ entry 1 (codes "userfile/a") ++ entry 1 (codes "userfile/xuserfile/a")) 2
    ∷ number (codes "userfile/userfiles/a") (entry 1 (codes "userfiles/a") ++ entry 1 (codes "userfile/userfiles/a")) 1
    ∷ number (codes "a") (entry 0 (codes "b") ++ entry 0 (codes "a") ++ entry 2 (codes "a") ++ entry 1 (codes "A") ++ entry 1 (codes "a")) 3
    ∷ none (codes "a/b") (entry 1 (codes "a\\b") ++ entry 1 (codes "a/b/") ++ entry 1 (codes "a"))
    ∷ none (1 ∷ 0 ∷ codes "b") (entry 1 (codes "b"))
    ∷ none (0 ∷ []) (1 ∷ 0 ∷ 1 ∷ zeros 256)
    ∷ number [] (entry 1 []) 0
    ∷ none [] []
    ∷ refused (200 ∷ []) (entry 1 (codes "a") ++ (1 ∷ 1 ∷ 0 ∷ [])) 21
    ∷ refused (codes "a") (entry 1 (128 ∷ []) ++ (1 ∷ 0 ∷ 1 ∷ [])) 21
    ∷ refused (codes "a") (entry 1 (codes "a") ++ (1 ∷ 0 ∷ [])) 21
    ∷ refused (128 ∷ codes "/userfile/a") (entry 1 (codes "userfile/a")) 22
    ∷ refused (codes "a") (entry 1 (codes "a") ++ entry 0 (128 ∷ [])) 22
    ∷ none (codes "a") (entry 255 (replicate 200 127))
    ∷ []

-- With a limit of 4 bytes in the place of 16,777,215, for which proofs/TooLong stands: as many in the list and in the path; a byte more in
-- each, told before 21.
abbrev pub four_bytes : Limits
four_bytes = record { bytes = 4; tracks = 0; additional = 0 }

abbrev pub limit_cases : List PathCase
limit_cases =
    number (codes "a") (entry 1 (codes "a")) 0
    ∷ none (codes "a/bc") []
    ∷ refused (codes "a/bcd") [] 16
    ∷ refused (codes "a") (1 ∷ 3 ∷ 0 ∷ codes "ab") 16
    ∷ []

-- What the call's answers say.
abbrev pub index_answers : List (Answer (Option ℕ) × Answer (Option ℕ))
index_answers =
    (index_read (Ok (Some 3)), answered (Some 3))
    ∷ (index_read (Ok None), answered None)
    ∷ (index_read (Err AssetRefusal.TooLong), declined (refusal 16 []))
    ∷ (index_read (Err AssetRefusal.ListCutOff), declined (refusal 21 []))
    ∷ (index_read (Err AssetRefusal.NotAscii), declined (refusal 22 []))
    ∷ []

-- Two references, written.
abbrev pub lists_written : List (List ℕ × List ℕ)
lists_written = (written (reference 1 (zeros 256) ∷ reference 2 (codes "a") ∷ []), (1 ∷ 0 ∷ 1 ∷ zeros 256) ++ entry 2 (codes "a")) ∷ []
