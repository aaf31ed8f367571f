-- The input is noted as it was added.
use Rattle.std.proofs.lemmas.Result.{on_ok_weaker}
use Rattle.sum_commands.proofs.Taking.{noted-taken}
use Rattle.sum_commands.proofs.summing.Summed.add_opened.Goals as goal

pub returns : goal.returns
returns g c =
    on_ok_weaker c.note.result
    (noted-taken (g.O.OpenInput.is_whole c.args.opened) (g.O.OpenInput.may_be c.args.opened) c.add_to-added.result c.args.self.now c.note.new.self c.add_to-added.new.sums
    c.add_to-added.ensures.added c.add_to-added.ensures.cause c.add_to-added.ensures.refused) c.note.ensures
