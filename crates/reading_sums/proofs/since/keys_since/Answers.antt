-- What is taken in a step is put after what was taken before.
use Rattle.std.proofs.Common.{◌<◌, ◌^◌, arith}
use Rattle.reading_sums.specs.declared.key.KeySum.{KeySum}
use Rattle.reading_sums.specs.Orders.{key_cmp}
use Rattle.reading_sums.proofs.KeysSince.{keys-walk, fallen-whole}
use Rattle.reading_sums.proofs.Walk.{all-walk, walk-on}
use Rattle.reading_sums.proofs.since.keys_since.Goals as goal

pub loop-i-preserved : goal.loop-i-preserved
loop-i-preserved c = record {
  later = omega (arith, c.in-Some.ensures.later, c.split_at.ensures.back_len);
  earlier = omega (arith, c.in-Some.ensures.earlier, c.split_at-in-loop-i.ensures.back_len);
  since = keys-walk _ _ _ _ _ _ _ _ _ _ _ c.split_at.ensures.back c.split_at-in-loop-i.ensures.back c.in_ok-put_key.ensures c.in-Some.ensures.since c.loop-i.invariant.since;
  ordered = walk-on key_cmp _ _ _ _ _ _ _ _ c.split_at.ensures.back c.split_at-in-loop-i.ensures.back c.in-Some.ensures.ordered c.loop-i.invariant.ordered;
  range = all-walk (λ (key : KeySum). key.marks < 2 ^ 64) _ _ _ _ _ _ c.split_at.ensures.back c.in_ok-put_key.ensures c.in-Some.ensures.range c.loop-i.invariant.range;
}

pub returns-in_default-clause-fell : goal.returns-in_default-clause-fell
returns-in_default-clause-fell c =
    fallen-whole _ _ _ _ _ _ c.split_at.ensures.back c.split_at-in-loop-i.ensures.back c.in_default.ensures.fell c.loop-i.invariant.ordered
