use Rattle.std.proofs.Common.{◌≡◌, ◌++◌, ◌≤◌, ◌-◌, false, drop, length}
use Rattle.std.specs.List.{flat_map}
use Rattle.reading_sums.specs.declared.key.KeySum.{KeySum}
use Rattle.sum_texts.specs.Lines.{FitsKey}
use Rattle.sum_texts.specs.Runs.{bytes_of, begins, key_block}
use Rattle.sum_texts.proofs.Fronts.{Left}
use Rattle.sum_texts.proofs.runs.keys_in.Given as goal

-- what is read so far comes before what is left, and nothing else can
abbrev pub invariant-run : goal.invariant-run
invariant-run l = record {
  within : l.at ≤ length l.lines;
  further : l.start ≤ l.at;
  found : bytes_of (drop l.start l.lines) ≡ flat_map key_block l.keys.items ++ bytes_of (drop l.at l.lines);
  left : Left KeySum key_block FitsKey (λ behind. begins 107 behind ≡ false) (bytes_of (drop l.start l.lines)) l.keys.items (bytes_of (drop l.at l.lines));
}

abbrev pub decreases-run : goal.decreases-run
decreases-run l = length l.lines - l.at
