-- The input is noted as it was added.
use Rattle.std.proofs.lemmas.Result.{on_ok_weaker}
use Rattle.sum_commands.proofs.Taking.{noted-taken}
use Rattle.sum_commands.proofs.summing.Summed.add_next.Goals as goal

pub returns : goal.returns
returns g c =
    on_ok_weaker c.note.result
    (noted-taken (g.S.Source.are_whole c.args.source.now) (g.S.Source.may_be c.args.source.now c.args.self.now.reached) c.add_input-added.result c.args.self.now c.note.new.self c.add_input-added.new.sums
    c.add_input-added.ensures.added c.add_input-added.ensures.cause c.add_input-added.ensures.refused) c.note.ensures
