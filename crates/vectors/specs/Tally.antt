-- What a check adds to the counts.
use Rattle.std.specs.Prelude.{ℕ, Bool, List, ◌+◌, nat_eq, nat_lt, length, slice_set, slice_index_or, if◌then◌else◌}
use Rattle.vectors.specs.declared.tally.{Row.{Row}, Count.{Count}, Tally.{Tally}}
use Rattle.vectors.specs.declared.tally.Row.TheVariants.{Returned, Bytes}

-- A count stays where it is at a million, the most checks of a file.
abbrev pub one_more : ℕ → ℕ
one_more n = if nat_lt n 1000000 then n + 1 else n

abbrev pub no_checks : Count
no_checks = record { made = 0; wrong = 0 }

abbrev pub counted : Bool → Count → Count
counted right c = record c { made = one_more c.made; wrong = if right then c.wrong else one_more c.wrong }

abbrev pub counted_at : ℕ → Bool → List Count → List Count
counted_at n right counts = if nat_lt n (length counts) then slice_set counts n (counted right (slice_index_or counts n no_checks)) else counts

-- What the number returned adds beside the check itself. No refusal has the numbers 29, 30 and 31; stored as returned they count so, as
-- before: a check more, a section more, an answer of bytes.
abbrev pub returned_added : ℕ → Bool → Tally → Tally
returned_added n right t =
    if nat_eq n 29 then record t { checks = one_more t.checks } else
    if nat_eq n 30 then record t { sections = one_more t.sections } else
    if nat_eq n 31 then record t { bytes = counted right t.bytes } else
    record t { returned = counted_at n right t.returned }

unfoldable pub added : Row → Bool → Tally → Tally
added (Returned n) right t = returned_added n right (record t { checks = one_more t.checks })
added Bytes right t = record t { checks = one_more t.checks; bytes = counted right t.bytes }

unfoldable pub count_of : Row → Tally → Count
count_of (Returned n) t = slice_index_or t.returned n no_checks
count_of Bytes t = t.bytes
