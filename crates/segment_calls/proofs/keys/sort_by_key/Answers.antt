use Rattle.std.proofs.Common.{rules}
use Rattle.std.proofs.lemmas.List.Sorted.{answers_always}
use Rattle.segment_calls.proofs.SortedKeys.{once_still, strictly_sorted}
use Rattle.segment_calls.proofs.keys.sort_by_key.Goals as goal

pub returns : goal.returns
returns c = record {
  moved = c.sort_unstable_by_key.ensures.permutation;
  ascending = λ once. strictly_sorted c.sort_unstable_by_key.new.self.items
      (c.sort_unstable_by_key.ensures.sorted (λ count. count.0) (answers_always _ _ _ (λ f a r g h. search rules)))
      (once_still c.args.counts.now.items c.sort_unstable_by_key.new.self.items c.sort_unstable_by_key.ensures.permutation once);
}
