use Rattle.std.proofs.Common.{◌≡◌, map, take, drop}
use Rattle.povundiri_c.specs.Asking.{count_of}
use Rattle.povundiri_c.proofs.exports.reading.write_counts.Given as goal

abbrev pub invariant-loop-i : goal.invariant-loop-i
invariant-loop-i l = record {
  written : take l.i l.out ≡ map count_of (take l.i l.counts);
  behind : drop l.i l.out ≡ drop l.i l.initial.out;
}
