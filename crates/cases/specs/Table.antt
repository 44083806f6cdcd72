-- Document 01, "Sections by hand": the cases that are marked there.
use Rattle.std.specs.Prelude.{List, [], ◌∷◌, pos}
use Rattle.cases.specs.Case.{Case, reading, strip, reads, accepts, refuses}
use Rattle.answer_cases.specs.Bytes.{zeros}
use Rattle.cases.specs.Sections.{negative_bone_count, one_bone, without_orientation, linked}

abbrev pub table : List Case
table =
    record { asked = reading; section = zeros 340; gives = reads 307 311 315 333 340 }
    ∷ record { asked = strip; section = zeros 340; gives = accepts (0 ∷ 0 ∷ 0 ∷ 0 ∷ []) 0 0 (9 ∷ 9 ∷ []) (9 ∷ 9 ∷ []) }
    ∷ record { asked = reading; section = zeros 339; gives = refuses 1 (pos 339 ∷ []) }
    ∷ record { asked = reading; section = negative_bone_count; gives = refuses 2 (pos 260 ∷ []) }
    ∷ record { asked = reading; section = one_bone; gives = reads 308 370 374 392 430 }
    ∷ record { asked = strip; section = one_bone; gives = accepts (1 ∷ 0 ∷ 0 ∷ 0 ∷ 1 ∷ 0 ∷ 0 ∷ 0 ∷ 0 ∷ 0 ∷ 0 ∷ []) 0 0 (9 ∷ 9 ∷ []) (9 ∷ 9 ∷ []) }
    ∷ record { asked = strip; section = without_orientation; gives = refuses 13 (pos 0 ∷ pos 0 ∷ []) }
    ∷ record {
      asked = strip;
      section = linked 1 1 0 0;
      gives = accepts (1 ∷ 0 ∷ 0 ∷ 0 ∷ 2 ∷ 0 ∷ 0 ∷ 0 ∷ 0 ∷ 0 ∷ 0 ∷ 1 ∷ 0 ∷ 0 ∷ 0 ∷ 0 ∷ []) 1 0 (0 ∷ 9 ∷ []) (1 ∷ 9 ∷ []);
    }
    ∷ record { asked = strip; section = linked 1 0 0 0; gives = refuses 4 (pos 0 ∷ pos 0 ∷ pos 1 ∷ []) }
    ∷ record { asked = strip; section = linked 1 1 0 1; gives = refuses 7 (pos 0 ∷ pos 0 ∷ pos 1 ∷ []) }
    ∷ record { asked = strip; section = linked 1 1 5 0; gives = refuses 8 (pos 0 ∷ pos 0 ∷ pos 1 ∷ pos 5 ∷ pos 0 ∷ []) }
    ∷ record { asked = strip; section = linked 0 1 0 7; gives = refuses 15 (pos 0 ∷ pos 1 ∷ []) }
    ∷ record {
      asked = strip;
      section = linked 0 1 0 0;
      gives = accepts (1 ∷ 0 ∷ 0 ∷ 0 ∷ 1 ∷ 0 ∷ 0 ∷ 0 ∷ 0 ∷ 0 ∷ 0 ∷ []) 0 1 (0 ∷ 9 ∷ []) (0 ∷ 9 ∷ []);
    }
    ∷ []
