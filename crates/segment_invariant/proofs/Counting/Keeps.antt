-- Each event that counts keeps what holds, and its actor learns of what it found.
use Rattle.std.proofs.Common.{ℕ, inl, inr}
use Rattle.segment_machine.specs.Event.{counting_event}
use Rattle.segment_machine.specs.Counting.{load_counts, add_count, add_sum, add_redundant}
use Rattle.segment_invariant.specs.Keeps.{EventKeeps, CountingKeeps}
use Rattle.segment_invariant.proofs.Counting.AddCount.{bucket_counted}
use Rattle.segment_invariant.proofs.Counting.AddRedundant.{add_redundant_kept}
use Rattle.segment_invariant.proofs.Counting.AddSample.{sample_counted}
use Rattle.segment_invariant.proofs.Counting.AddSum.{add_sum_kept}
use Rattle.segment_invariant.proofs.Counting.LoadCounts.{load_counts_kept}

-- units are added to the count of a bucket, or of a sample
count_added : (at units : ℕ) → EventKeeps (counting_event (add_count at units))
count_added at units shape opened state id a kept mine recorder (c, known, counts, named, units_are, inl bucket) =
    bucket_counted shape opened state kept id a mine recorder at units (c, known, counts, named, units_are, bucket)
count_added at units shape opened state id a kept mine recorder (c, known, counts, named, units_are, inr sample) =
    sample_counted shape opened state kept id a mine recorder at units (c, known, counts, named, units_are, sample)

pub counting_keeps : CountingKeeps
counting_keeps (load_counts histogram) = load_counts_kept histogram
counting_keeps (add_count at units) = count_added at units
counting_keeps (add_sum histogram amount) = add_sum_kept histogram amount
counting_keeps (add_redundant histogram units) = add_redundant_kept histogram units
