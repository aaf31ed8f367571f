use Rattle.std.proofs.Common.{◌≡◌, ◌+◌, ◌*◌, ◌≤◌, ◌++◌, length}
use Rattle.std.specs.Slice.Iter.{chunks_exact_rest, chunks_exact_size}
use Rattle.segment_image.specs.Words.{bytes_of_words, words_in}
use Rattle.segment_image.proofs.transfer.push_words.Given as goal

abbrev pub invariant-loop-chunk : goal.invariant-loop-chunk
invariant-loop-chunk l = record {
  size : chunks_exact_size l.chunk-iterator ≡ 8;
  words : l.words.items ++ words_in (chunks_exact_rest l.chunk-iterator) ≡ l.initial.words.items ++ words_in l.bytes;
  bytes : bytes_of_words l.words.items ++ chunks_exact_rest l.chunk-iterator ≡ bytes_of_words l.initial.words.items ++ l.bytes;
  len : 8 * length l.words.items + length (chunks_exact_rest l.chunk-iterator) ≡ 8 * length l.initial.words.items + length l.bytes;
  longer : length l.initial.words.items ≤ length l.words.items;
}
