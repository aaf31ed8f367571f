-- The numbers that were read are in range.
use Rattle.std.proofs.Common.{rules}
use Rattle.reading_sums.proofs.hist.sum_of.Goals as goal

pub returns-clause-range : goal.returns-clause-range
returns-clause-range c = record {
  marks = c.in_ok-keys_of.ensures.range;
  sum = search rules;
  sum_mark = search rules;
  redundant = search rules;
  images = search rules;
}
