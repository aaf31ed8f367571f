use Rattle.std.proofs.Common.{◌≡◌, ◌≤◌, ◌-◌, false, vec_len}
use Rattle.segment_image.specs.Watched.{has_failed, watched_inner}
use Rattle.segment_image.proofs.ReadWords.{IsReadSo}
use Rattle.segment_image.proofs.transfer.read_more_words.Given as goal

abbrev pub invariant-loop-wanted : goal.invariant-loop-wanted
invariant-loop-wanted g l = record {
  within : vec_len l.words ≤ l.limit;
  bytes : IsReadSo (g.R.Read.remaining (watched_inner l.initial.reader)) (g.R.Read.remaining (watched_inner l.reader)) l.initial.words.items l.words.items;
  went : has_failed l.reader ≡ false;
}

abbrev pub decreases-loop-wanted : goal.decreases-loop-wanted
decreases-loop-wanted g l = l.limit - vec_len l.words
