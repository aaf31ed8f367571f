use Rattle.std.proofs.Common.{◌≡◌, map}
use Rattle.std.specs.Map.Iter.{deref_pair}
use Rattle.image_reader.specs.Samples.{entry_count, entry_mark}
use Rattle.image_reader.proofs.sample.Samples.of.Given as goal

-- what the entries so far say
abbrev pub invariant-loop-key : goal.invariant-loop-key
invariant-loop-key l = record {
  counts_are : l.counts.items ≡ map entry_count (map deref_pair l.yielded);
  marks_are : l.marks.items ≡ map entry_mark (map deref_pair l.yielded);
}
