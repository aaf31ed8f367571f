use Rattle.std.proofs.Common.{ℕ, All, IfOk}
use Rattle.std.specs.Vec.Iter.{into_iter_items}
use Rattle.sum_commands.specs.Sources.{IsSumBefore, SumEndsWithin}
use Rattle.sum_commands.proofs.working.add_all.Given as goal

-- what the sums that are left are of, and what the sum so far is of
abbrev pub invariant-loop-summed : goal.invariant-loop-summed
invariant-loop-summed g l =
    (goal.iterator-loop-summed g).can_next l.summed-iterator × (goal.iterator-loop-summed g).is_finite l.summed-iterator
    × ((inputs : ℕ) → All (λ one. IfOk one (SumEndsWithin (g.S.Source.are_whole l.source) (g.S.Source.may_be l.source) l.is_strict inputs)) l.fn.done.items
    → All (λ one. IfOk one (SumEndsWithin (g.S.Source.are_whole l.source) (g.S.Source.may_be l.source) l.is_strict inputs)) (into_iter_items l.summed-iterator)
    × (IsSumBefore (g.S.Source.are_whole l.source) (g.S.Source.may_be l.source) l.is_strict inputs l.fn.all → IsSumBefore (g.S.Source.are_whole l.source) (g.S.Source.may_be l.source) l.is_strict inputs l.all))
