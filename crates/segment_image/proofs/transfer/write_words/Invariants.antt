use Rattle.std.proofs.Common.{◌≡◌, ◌<◌, ℕ, List, Option, false, length}
use Rattle.std.specs.Io.KnownBytes.{Appends}
use Rattle.std.specs.Slice.Iter.{chunks_rest, chunks_size}
use Rattle.segment_image.specs.Words.{bytes_of_words}
use Rattle.segment_image.specs.Watched.{has_failed, is_flushed, watched_inner}
use Rattle.segment_image.proofs.transfer.write_words.Given as goal

-- a writer that appends what is left has appended the whole
abbrev pub invariant-loop-chunk : goal.invariant-loop-chunk
invariant-loop-chunk g l = record {
  size : chunks_size l.chunk-iterator ≡ 1024;
  bytes : (later : Option (List ℕ)) → Appends (g.W.Write.contents (watched_inner l.writer)) later (bytes_of_words (chunks_rest l.chunk-iterator))
      → Appends (g.W.Write.contents (watched_inner l.initial.writer)) later (bytes_of_words l.words);
  failed : has_failed l.writer ≡ has_failed l.initial.writer;
  flushed : length (chunks_rest l.chunk-iterator) < length l.words → is_flushed l.writer ≡ false;
}
