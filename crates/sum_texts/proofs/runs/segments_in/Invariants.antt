use Rattle.std.proofs.Common.{◌≡◌, ◌++◌, ◌≤◌, ◌-◌, ℕ, false, drop, length}
use Rattle.std.specs.List.{flat_map}
use Rattle.sum_texts.specs.Lines.{FitsSegment}
use Rattle.sum_texts.specs.Runs.{bytes_of, begins, segment_block}
use Rattle.sum_texts.proofs.Fronts.{Left}
use Rattle.sum_texts.proofs.runs.segments_in.Given as goal

-- what is read so far comes before what is left, and nothing else can
abbrev pub invariant-run : goal.invariant-run
invariant-run l = record {
  within : l.at ≤ length l.lines;
  found : bytes_of (drop l.start l.lines) ≡ flat_map segment_block l.segments.items ++ bytes_of (drop l.at l.lines);
  left : Left (ℕ × ℕ) segment_block FitsSegment (λ behind. begins 111 behind ≡ false) (bytes_of (drop l.start l.lines)) l.segments.items (bytes_of (drop l.at l.lines));
}

abbrev pub decreases-run : goal.decreases-run
decreases-run l = length l.lines - l.at
