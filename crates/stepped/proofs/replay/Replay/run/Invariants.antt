use Rattle.std.proofs.Common.{List, take}
use Rattle.stepped.specs.declared.lines.LinePlace.{LinePlace}
use Rattle.stepped.specs.Form.{Writes}
use Rattle.stepped.specs.Lines.{Deed}
use Rattle.stepped.specs.Replay.{Replays}
use Rattle.stepped.proofs.replay.Replay.run.Given as goal

-- the records so far are done, and shown
abbrev pub invariant-loop-i : goal.invariant-loop-i
invariant-loop-i g l = (done : List (LinePlace × Deed))
    × Replays 2 (take l.i l.orders) l.initial.self.left l.initial.self.world.world_state l.self.world.world_state l.self.left done
    × Writes l.initial.self.form l.self.form (g.W.Write.contents l.initial.writer) (g.W.Write.contents l.writer) done
