use Rattle.std.proofs.Common.{◌≡◌, ◌-◌, ◌≤◌, length, max, replicate}
use Rattle.recording_folders.proofs.name.numbered.Given as goal

abbrev pub invariant-loop : goal.invariant-loop
invariant-loop l = record {
  written : l.name.items ≡ replicate (l.counter - length l.digits) 48;
  within : l.counter ≤ max 10 (length l.digits);
}
