use Rattle.std.proofs.Common.{◌≡◌, ◌+◌, ◌++◌, List, All, length}
use Rattle.std.specs.Vec.Iter.{into_iter_items}
use Rattle.sum_commands.specs.Sources.{IsOpenedAt, IsSumOfRun}
use Rattle.sum_commands.proofs.working.RunJob.run.Given as goal

-- the inputs so far are added up
abbrev pub invariant-loop-opened : goal.invariant-loop-opened
invariant-loop-opened g l =
    (goal.iterator-loop-opened g).can_next l.opened-iterator × (goal.iterator-loop-opened g).is_finite l.opened-iterator
    × IsSumOfRun (All g.O.OpenInput.is_whole l.fn.self.opened.items) (IsOpenedAt g.O.OpenInput.may_be l.fn.self.first l.fn.self.opened.items) l.fn.self.is_strict l.summed
    × ((done : List g.row.O.Denot) × (done ++ into_iter_items l.opened-iterator ≡ l.fn.self.opened.items) × (l.summed.reached ≡ l.fn.self.first + length done))
