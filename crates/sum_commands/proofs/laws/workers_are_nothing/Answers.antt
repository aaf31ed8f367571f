-- The same inputs were taken.
use Rattle.sum_commands.proofs.Alike.{alike}
use Rattle.sum_commands.proofs.laws.workers_are_nothing.Goals as goal

pub returns : goal.returns
returns g c = record {
  alike = λ is_strict inputs a b. alike (g.S.Source.are_whole c.args._source.now) (g.S.Source.may_be c.args._source.now) is_strict inputs a b;
  well_formed = λ whole is_strict inputs a is. is.sum.well_formed whole;
}
