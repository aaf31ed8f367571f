use Rattle.std.proofs.Common.{rules, arith}
use Rattle.reading_sums.specs.Views.{part_of}
use Rattle.reading_sums.proofs.HistsSince.{empty-part}
use Rattle.reading_sums.proofs.since.is_empty.Goals as goal

pub returns : goal.returns
returns c =
    empty-part (part_of c.args.hist.now) c.deref.result.now c.are_empty.result c.deref.ensures.value c.are_empty.ensures (search rules) (search rules)
    (omega (arith, c.if-hist-gt0.false))
