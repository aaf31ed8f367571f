use Rattle.std.proofs.Common.{◌≡◌}
use Rattle.std.specs.Slice.Iter.{chunks_rest, chunks_size}
use Rattle.segment_calls.proofs.Letters.{HaveBytes}
use Rattle.segment_calls.proofs.asked.name_words.Given as goal

abbrev pub invariant-loop-chunk : goal.invariant-loop-chunk
invariant-loop-chunk l = record {
  size : chunks_size l.chunk-iterator ≡ 8;
  bytes : HaveBytes l.name (chunks_rest l.chunk-iterator) l.words.items;
}
