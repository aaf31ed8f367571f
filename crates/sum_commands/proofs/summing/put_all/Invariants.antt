use Rattle.std.proofs.Common.{◌≡◌, ◌++◌}
use Rattle.std.specs.Vec.Iter.{into_iter_items}
use Rattle.sum_commands.proofs.summing.put_all.Given as goal

abbrev pub invariant-loop-one : goal.invariant-loop-one
invariant-loop-one l =
    goal.iterator-loop-one.can_next l.one-iterator × goal.iterator-loop-one.is_finite l.one-iterator
    × (l.all.items ++ into_iter_items l.one-iterator ≡ l.fn.all.items ++ l.fn.left.items)
