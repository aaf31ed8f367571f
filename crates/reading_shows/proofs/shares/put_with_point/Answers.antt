use Rattle.std.proofs.Common.{arith}
use Rattle.std.proofs.Math.Nat.{one-le-pow}
use Rattle.reading_shows.proofs.shares.put_with_point.Goals as goal

pub nonzero_rem-n : goal.nonzero_rem-n
nonzero_rem-n c = omega (arith, one-le-pow c.args.digits 10 (omega arith), c.requires)

pub nonzero_div-n : goal.nonzero_div-n
nonzero_div-n c = omega (arith, one-le-pow c.args.digits 10 (omega arith), c.requires)
