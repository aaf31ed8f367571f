use Rattle.std.proofs.Common.{arith}
use Rattle.bucket_ranges.proofs.scale.next_value.Goals as goal

pub returns-then-value-last : goal.returns-then-value-last
returns-then-value-last c =
    record {
      low = c.value_from-value.ensures.above;
      high = omega (arith, c.if-value-last.true);
      found = λ _. c.value_from-value.ensures.found;
      first = c.value_from-value.ensures.first;
    }

pub returns-else-value-last : goal.returns-else-value-last
returns-else-value-last c =
    record {
      low = c.requires.ends.1;
      high = omega arith;
      found = λ lt. absurd (omega (arith, lt));
      first = λ n at under. c.value_from-value.ensures.first n at (omega (arith, under, c.if-value-last.false));
    }
