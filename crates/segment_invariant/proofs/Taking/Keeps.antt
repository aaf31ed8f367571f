-- Each event of a delta or a snapshot keeps what holds, and its actor learns of what it found.
use Rattle.std.proofs.Common.{ℕ, inl, inr}
use Rattle.segment_machine.specs.Event.{taking_event}
use Rattle.segment_machine.specs.Taking.{load_count, raise_mark, raise_single_mark, load_sum, swap_sum_mark, load_redundant}
use Rattle.segment_invariant.specs.Keeps.{EventKeeps, TakingKeeps}
use Rattle.segment_invariant.proofs.Taking.Counts.{count_loaded}
use Rattle.segment_invariant.proofs.Taking.Loads.{sum_loaded, redundant_loaded}
use Rattle.segment_invariant.proofs.Taking.Marks.{bucket_raised}
use Rattle.segment_invariant.proofs.Taking.SampleMarks.{sample_raised}
use Rattle.segment_invariant.proofs.Taking.SingleMarks.{single_mark_raised}
use Rattle.segment_invariant.proofs.Taking.SumMarks.{sum_mark_swapped}

count_kept : (at : ℕ) → EventKeeps (taking_event (load_count at))
count_kept at shape opened state id a kept mine records ready = count_loaded shape opened state kept id a mine records at ready

-- the mark of a bucket is raised, or of a sample
mark_raised : (at least : ℕ) → EventKeeps (taking_event (raise_mark at least))
mark_raised at least shape opened state id a kept mine records (some_units, inl bucket) =
    bucket_raised shape opened state kept id a mine records at least bucket
mark_raised at least shape opened state id a kept mine records (some_units, inr sample) =
    sample_raised shape opened state kept id a mine records at least some_units sample

sum_kept : (histogram : ℕ) → EventKeeps (taking_event (load_sum histogram))
sum_kept histogram shape opened state id a kept mine records ready = sum_loaded shape opened state kept id a mine records histogram ready

redundant_kept : (histogram : ℕ) → EventKeeps (taking_event (load_redundant histogram))
redundant_kept histogram shape opened state id a kept mine records ready = redundant_loaded shape opened state kept id a mine records histogram ready

pub taking_keeps : TakingKeeps
taking_keeps (load_count at) = count_kept at
taking_keeps (raise_mark at least) = mark_raised at least
taking_keeps (raise_single_mark histogram least) = single_mark_raised histogram least
taking_keeps (load_sum histogram) = sum_kept histogram
taking_keeps (swap_sum_mark histogram sum) = sum_mark_swapped histogram sum
taking_keeps (load_redundant histogram) = redundant_kept histogram
