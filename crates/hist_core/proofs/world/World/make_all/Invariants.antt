use Rattle.std.proofs.Common.{take}
use Rattle.hist_core.specs.Moves.{MakesAll}
use Rattle.hist_core.proofs.world.World.make_all.Given as goal

abbrev pub invariant-loop-step : goal.invariant-loop-step
invariant-loop-step l = record { makes : MakesAll (take l.step-index l.moves) l.initial.self.world_state l.self.world_state }
