use Rattle.bucket_ranges.proofs.ScaleTurns.{last-inside, last-outside}
use Rattle.bucket_ranges.proofs.scale.last_value.Goals as goal

pub returns-then-value-gt-MAX_VALUE-clause-last : goal.returns-then-value-gt-MAX_VALUE-clause-last
returns-then-value-gt-MAX_VALUE-clause-last c =
    last-outside c.args.bits c.args.max c.value_from-value.result c.if-value-gt-MAX_VALUE.true
    (record {
      found = c.value_from-value.ensures.found;
      above = c.value_from-value.ensures.above;
      first = c.value_from-value.ensures.first;
    })

pub returns-else-value-gt-MAX_VALUE-clause-last : goal.returns-else-value-gt-MAX_VALUE-clause-last
returns-else-value-gt-MAX_VALUE-clause-last c =
    last-inside c.args.bits c.args.max c.value_from-value.result c.if-value-gt-MAX_VALUE.false
    (record {
      found = c.value_from-value.ensures.found;
      above = c.value_from-value.ensures.above;
      first = c.value_from-value.ensures.first;
    })
