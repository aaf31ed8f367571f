use Rattle.std.proofs.Common.{◌<◌, ◌^◌, ℕ, length, arith, ap, sym, slice_index, ◌∙◌}
use Rattle.std.proofs.lemmas.List.{take_more}
use Rattle.std.proofs.lemmas.List.Elements.{All-more}
use Rattle.std.specs.Prelude.{take}
use Rattle.list_index.specs.Keys.{key_of, next_key}
use Rattle.list_index.proofs.KeyOrder.{key_more}
use Rattle.live_segment.proofs.hist.search.key_of_words.Goals as goal

pub loop-word-preserved : goal.loop-word-preserved
loop-word-preserved c =
    let was = c.loop-word.invariant in
    let words = c.args.words.now in
    let i = c.loop-word.word-index in
    let below : i < length words = omega (arith, c.loop-word-test.true, c.loop-word.auto.word-index-end) in record {
      key = c.next_key-key.ensures
          ∙ (ap (λ (k : ℕ). next_key k (slice_index words i)) was.key
          ∙ (sym (key_more next_key 0 (take i words) (slice_index words i)) ∙ ap key_of (sym (take_more words i 0 below))));
      small = All-more (λ w. w < 2 ^ 64) words i 0 below was.small (omega arith);
    }
