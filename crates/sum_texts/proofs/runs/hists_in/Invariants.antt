use Rattle.std.proofs.Common.{◌≡◌, ◌++◌, ◌≤◌, ◌-◌, false, map, drop, length}
use Rattle.std.specs.List.{flat_map, AllByRecursion}
use Rattle.reading_sums.specs.Totals.{Part}
use Rattle.reading_sums.specs.Views.{part_of}
use Rattle.sum_texts.specs.Lines.{FitsPart, IsNamed}
use Rattle.sum_texts.specs.Runs.{bytes_of, begins, part_block}
use Rattle.sum_texts.proofs.Fronts.{Left}
use Rattle.sum_texts.proofs.runs.hists_in.Given as goal

-- what is read so far comes before what is left, and nothing else can
abbrev pub invariant-run : goal.invariant-run
invariant-run l = record {
  within : l.at ≤ length l.lines;
  lawful : AllByRecursion IsNamed (map part_of l.hists.items);
  found : bytes_of (drop l.start l.lines) ≡ flat_map part_block (map part_of l.hists.items) ++ bytes_of (drop l.at l.lines);
  left : Left Part part_block FitsPart (λ behind. (begins 104 behind ≡ false) × (begins 107 behind ≡ false)) (bytes_of (drop l.start l.lines)) (map part_of l.hists.items) (bytes_of (drop l.at l.lines));
}

abbrev pub decreases-run : goal.decreases-run
decreases-run l = length l.lines - l.at
