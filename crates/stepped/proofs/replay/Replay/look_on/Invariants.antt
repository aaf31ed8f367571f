use Rattle.std.proofs.Common.{take}
use Rattle.stepped.specs.Look.{TakesLook, look_of}
use Rattle.stepped.proofs.replay.Replay.look_on.Given as goal

-- the records so far are done
abbrev pub invariant-loop-i : goal.invariant-loop-i
invariant-loop-i l = TakesLook (take l.i l.orders) l.initial.self.left l.initial.self.world.world_state l.self.world.world_state l.self.left
    (look_of l.initial.copies) (look_of l.copies)
