use Rattle.std.proofs.Common.{sym, ap, subst, ◌∙◌, List, ℕ, length, min}
use Rattle.std.specs.Slice.Iter.{chunks_rest, chunks_size}
use Rattle.segment_calls.proofs.Letters.{HaveBytes, none_yet, all_of, one_word_more}
use Rattle.segment_calls.proofs.asked.name_words.Goals as goal

pub loop-chunk-init : goal.loop-chunk-init
loop-chunk-init c =
    let gives = c.into_iter-chunk-iterator.ensures.into_iter_gives in record {
      size = ap chunks_size gives ∙ c.chunks-chunk-items.ensures.size;
      bytes = subst (λ (p : List ℕ × List ℕ). HaveBytes c.args.name.now p.0 p.1)
          (λ i. (sym (ap chunks_rest gives ∙ c.chunks-chunk-items.ensures.rest) i, sym c.in_ok-words.ensures.items i)) (none_yet c.args.name.now);
    }

pub loop-chunk-preserved : goal.loop-chunk-preserved
loop-chunk-preserved c =
    let did = c.in-Some.ensures.steps in record {
      size = did.0 ∙ c.loop-chunk.invariant.size;
      bytes = subst (λ (l : List ℕ). HaveBytes c.args.name.now (chunks_rest c.next.new.self) l) (sym c.in_ok-push.ensures.items)
          (one_word_more c.args.name.now (chunks_rest c.loop-chunk.chunk-iterator) c.loop-chunk.words.items c.in-Some.chunk.now c.word_of.result c.loop-chunk.invariant.bytes
          did.1.2 (did.1.1 ∙ ap (λ (n : ℕ). min n (length (chunks_rest c.loop-chunk.chunk-iterator))) c.loop-chunk.invariant.size) c.word_of.ensures
          (chunks_rest c.next.new.self) did.1.0);
    }

pub returns : goal.returns
returns c = all_of c.args.name.now c.loop-chunk.words.items _ c.in-None.ensures.steps.1.0 c.loop-chunk.invariant.bytes
