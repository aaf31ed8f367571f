-- The totals and the notes of two lists together are the sums of those of each.
use Rattle.reading_sums.proofs.Readings.{sum-both, both-sum, sum-known}
use Rattle.reading_sums.proofs.OneSum.{one-sum}
use Rattle.reading_sums.proofs.laws.parts_append.Goals as goal

pub returns-clause-together : goal.returns-clause-together
returns-clause-together c = λ readings more a b both first second.
    (both-sum readings more a b both first second, sum-both readings more a b both first second)

pub returns-clause-one : goal.returns-clause-one
returns-clause-one c = sum-known

pub returns-clause-same : goal.returns-clause-same
returns-clause-same c = one-sum
