-- Document 01, "Turned down" (FORMAT, Refusals): "By our limits".
use Rattle.section.specs.declared.limits.Limits.{Limits}

-- The first edition; the word is of document 02. "more than 16,777,215 bytes"; "bone or morph count above 65,535, or their additional count
-- above 65,534"
abbrev pub edition1 : Limits
edition1 = record { bytes = 16777215; tracks = 65535; additional = 65534 }
