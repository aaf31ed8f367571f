-- A kept state is consistent, in all its parts, whatever its segment was opened with.
use Rattle.segment_invariant.specs.Body.{order_of}
use Rattle.segment_invariant.specs.Keeps.{KeptIsConsistent}
use Rattle.segment_invariant.proofs.Consistency.Chain.{list_is_chain}
use Rattle.segment_invariant.proofs.Consistency.Flags.{flags_are_set}
use Rattle.segment_invariant.proofs.Consistency.Made.{records_hold}
use Rattle.segment_invariant.proofs.Consistency.Marks.{marks_are_taken}
use Rattle.segment_invariant.proofs.Consistency.Amounts.{sums_are_amounts}
use Rattle.segment_invariant.proofs.Consistency.Totals.{totals_are_counted}
use Rattle.segment_invariant.proofs.Consistency.Transit.{transit_is_local}
use Rattle.segment_invariant.proofs.Consistency.Units.{units_are_kept}

pub is_consistent : KeptIsConsistent
is_consistent shape opened state opens kept = record {
  chain = order_of kept.anatomy;
  list_is_chain = list_is_chain shape opened state opens kept;
  records_hold = records_hold shape opened state opens kept;
  totals_are_counted = totals_are_counted shape opened state kept;
  marks_are_taken = marks_are_taken shape opened state kept;
  sums_are_amounts = sums_are_amounts shape opened state opens kept;
  transit_is_local = transit_is_local shape opened state kept;
  flags_are_set = flags_are_set shape opened state kept;
  units_are_kept = units_are_kept shape opened state kept;
}
