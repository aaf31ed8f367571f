use Rattle.std.proofs.Common.{rules, ◌∙◌, ap, ◌++◌, ◌∷◌, []}
use Rattle.std.specs.Slice.Iter.{chunks_exact_rest}
use Rattle.segment_image.specs.Words.{bytes_of_words, words_in}
use Rattle.segment_image.proofs.WordsOfBytes.{bytes-chunk, words_in-chunk}
use Rattle.segment_image.proofs.transfer.push_words.Goals as goal

pub loop-chunk-preserved : goal.loop-chunk-preserved
loop-chunk-preserved c = record {
  size = search rules;
  words = let rest = c.next.new.self in
      ap (λ l. l ++ words_in (chunks_exact_rest rest)) (c.in_ok-push.ensures.items ∙ ap (λ w. c.loop-chunk.words.items ++ w ∷ []) c.word.ensures.number)
      ∙ words_in-chunk c.loop-chunk.words.items c.in-Some.chunk.now (chunks_exact_rest rest) (search rules)
      ∙ ap (λ l. c.loop-chunk.words.items ++ words_in l) (search rules)
      ∙ c.loop-chunk.invariant.words;
  bytes = let rest = c.next.new.self in
      ap (λ l. bytes_of_words l ++ chunks_exact_rest rest) c.in_ok-push.ensures.items
      ∙ bytes-chunk c.loop-chunk.words.items c.in-Some.chunk.now (chunks_exact_rest rest) c.word.result c.word.ensures.bytes
      ∙ ap (λ l. bytes_of_words c.loop-chunk.words.items ++ l) (search rules)
      ∙ c.loop-chunk.invariant.bytes;
  len = search rules;
  longer = search rules;
}
