use Rattle.std.proofs.Common.{◌≡◌, ◌≤◌, ◌-◌, false, length}
use Rattle.std.specs.Io.KnownBytes.{Keeps}
use Rattle.segment_image.specs.Watched.{has_failed, watched_inner}
use Rattle.segment_search.specs.Places.{ahead}
use Rattle.segment_search.proofs.reading.read_on.Given as goal

abbrev pub invariant-loop-block : goal.invariant-loop-block
invariant-loop-block g l = record {
  kept : Keeps (ahead l.initial.words.items (g.R.Read.remaining (watched_inner l.initial.reader))) (ahead l.words.items (g.R.Read.remaining (watched_inner l.reader)));
  longer : length l.initial.words.items ≤ length l.words.items;
  went : has_failed l.reader ≡ false;
}

abbrev pub decreases-loop-block : goal.decreases-loop-block
decreases-loop-block g l = l.count - length l.words.items
