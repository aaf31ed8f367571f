-- Nothing is an addend, too.
use Rattle.reading_sums.specs.Addends.{no_addend}
use Rattle.sum_commands.proofs.InTurn.{nothing-behind}
use Rattle.sum_commands.proofs.sums.nothing_is_added.Goals as goal

pub returns : goal.returns
returns c = record {
  some = record { addend = no_addend; taken = (tt, λ known. absurd known.0); added = nothing-behind c.args._sums.now; well_formed = λ known formed. formed };
}
