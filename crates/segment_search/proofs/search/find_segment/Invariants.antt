use Rattle.std.proofs.Common.{◌≡◌, ◌≤◌, false}
use Rattle.segment_image.specs.Watched.{has_failed, watched_inner}
use Rattle.segment_search.specs.Places.{ahead}
use Rattle.segment_search.proofs.Here.{Here}
use Rattle.segment_search.proofs.search.find_segment.Given as goal

abbrev pub invariant-loop-word : goal.invariant-loop-word
invariant-loop-word g l = record {
  here : Here (g.R.Read.remaining (watched_inner l.initial.reader)) l.word l.nth l.left (ahead l.window (g.R.Read.remaining (watched_inner l.reader)));
  wanted : 1 ≤ l.left;
  went : has_failed l.reader ≡ false;
}
