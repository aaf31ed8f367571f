use Rattle.std.proofs.Common.{◌≡◌, ◌+◌, List}
use Rattle.stepped.specs.Form.{Writes}
use Rattle.stepped.specs.Lines.{Deed}
use Rattle.stepped.specs.Replay.{GoesBy, placed}
use Rattle.stepped.proofs.replay.Replay.steps.Given as goal

-- there were as many events as rounds, each of which is shown
abbrev pub invariant-loop : goal.invariant-loop
invariant-loop g l = (deeds : List Deed)
    × GoesBy l.place.actor l.counter l.initial.self.world.world_state l.self.world.world_state deeds
    × (l.initial.self.left ≡ l.counter + l.self.left)
    × Writes l.initial.self.form l.self.form (g.W.Write.contents l.initial.writer) (g.W.Write.contents l.writer) (placed l.place.number l.place.actor deeds)
