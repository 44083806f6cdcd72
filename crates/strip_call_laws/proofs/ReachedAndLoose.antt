-- "Reached plus loose is the number of additional bone and morph records" (specs, ReachedAndLoose). Assumes nothing.
use Rattle.section.specs.Limits.{edition1}
use Rattle.strip.specs.Strip.{count_width}
use Rattle.strip.proofs.Call.{records-told, summary-told}
use Rattle.strip_call_laws.specs.ReachedAndLoose.{ReachedAndLoose}
use Rattle.strip_call_laws.proofs.TwoRuns.{down}

pub reached-and-loose : ReachedAndLoose
reached-and-loose =
    record {
      of_section = λ x read a. records-told edition1 count_width x.lent read (down x a);
      of_summary = λ x a summary is. summary-told edition1 count_width x.lent (down x a) summary is;
    }
