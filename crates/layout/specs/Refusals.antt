-- Document 01, "Turned down, and by whose doing", and from 21 on document 02 (FORMAT, Refusals): the number of each refusal, with the
-- values that are told.
use Rattle.std.specs.Prelude.{ℕ}

-- "a value does not fit in the bytes left, a start past the end included (place: offset of the first number, byte, string body,
-- interpolation block or skipped block not whole)"
abbrev pub too_short : ℕ
too_short = 1

abbrev pub negative_count : ℕ
negative_count = 2  -- "negative count (its offset)"

abbrev pub negative_index : ℕ
negative_index = 3  -- "index negative (index)"

abbrev pub index_below_count : ℕ
index_below_count = 4  -- "index below its kind's count (index, count)"

abbrev pub repeated_index : ℕ
repeated_index = 5  -- "index repeated (index)"

abbrev pub missing_link : ℕ
missing_link = 6  -- "link to an absent index (track, link)"

abbrev pub cycle : ℕ
cycle = 7  -- "cycle (track, link)"

abbrev pub wrong_previous : ℕ
wrong_previous = 8  -- "wrong previous link (track, link, found, expected)"

abbrev pub shared_record : ℕ
shared_record = 9  -- "record in two tracks (index)"

abbrev pub negative_frame : ℕ
negative_frame = 10  -- "negative frame (track, frame)"

abbrev pub repeated_frame : ℕ
repeated_frame = 11  -- "frame repeated in a track (track, frame)"

abbrev pub invalid_translation : ℕ
invalid_translation = 12  -- "translation not finite"

abbrev pub invalid_orientation : ℕ
invalid_orientation = 13  -- "orientation not finite or too short"

abbrev pub invalid_weight : ℕ
invalid_weight = 14  -- "weight not finite (track, frame)", as of 12 and 13

abbrev pub disconnected_records : ℕ
disconnected_records = 15  -- "unreached records with a nonzero link (how many)"

-- "more than 16,777,215 bytes, tested first"; 02: "16 holds for this path, this list and any strip lent to be read, each by itself"
abbrev pub too_long : ℕ
too_long = 16

abbrev pub work_too_short : ℕ
work_too_short = 17  -- "a u16 slice below A + B (the need); tested after reading"

abbrev pub output_too_short : ℕ
output_too_short = 18  -- "output shorter than the strip (the strip's length); tested last"

-- "no record or name of that number; tested after reading"; 02: "19, for a track or key not there, is last"
abbrev pub absent : ℕ
absent = 19

abbrev pub count_above_limit : ℕ
count_above_limit = 20  -- "bone or morph count above 65,535, or their additional count above 65,534 (offset of the count); tested after 2"

abbrev pub list_cut_off : ℕ
list_cut_off = 21  -- T-01: "a list that ends inside an entry"

abbrev pub not_ascii : ℕ
not_ascii = 22  -- T-01: "and after that .. a byte above 127 in the path, which is lent whole, or in any entry's text"

abbrev pub strip_not_whole : ℕ
strip_not_whole = 23  -- T-02: "a strip that ends early or has bytes left over"

abbrev pub unknown_map : ℕ
unknown_map = 24  -- T-02: "a bone map from 16 to 255 or a morph map from 2 to 255"

abbrev pub never_written : ℕ
never_written = 25  -- T-02: "what the builder never writes"
