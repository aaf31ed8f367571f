use Rattle.std.proofs.Common.{rules, arith}
use Rattle.std.proofs.lemmas.Int.{ints}
use Rattle.bucket_ranges.proofs.Sums.{returned-product}
use Rattle.bucket_ranges.proofs.samples.amount_of.Goals as goal

pub returns-clause-small : goal.returns-clause-small
returns-clause-small c =
    returned-product c.counted_value.result c.from.result 2147483648 c.args.units (search rules) (search rules)
    c.counted_value.ensures.small (omega (arith, ints)) (omega (arith, c.ranges.units))
