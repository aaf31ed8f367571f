use Rattle.std.proofs.Common.{◌-◌, ◌≡◌, ◌≤◌, ℕ}
use Rattle.sum_commands.specs.Sources.{IsSumSoFar}
use Rattle.sum_commands.proofs.summing.Summed.add_up_to.Given as goal

-- it is the sum of the inputs so far, if it was that of those before
abbrev pub invariant-loop-self : goal.invariant-loop-self
invariant-loop-self g l =
    (IsSumSoFar (g.S.Source.are_whole l.source) (g.S.Source.may_be l.source) l.is_strict l.fn.self → IsSumSoFar (g.S.Source.are_whole l.source) (g.S.Source.may_be l.source) l.is_strict l.self)
    × (l.self.first ≡ l.fn.self.first)
    × ((most : ℕ) → l.fn.self.reached ≤ most → l.place ≤ most → l.self.reached ≤ most)

abbrev pub decreases-loop-self : goal.decreases-loop-self
decreases-loop-self g l = l.place - l.self.reached
