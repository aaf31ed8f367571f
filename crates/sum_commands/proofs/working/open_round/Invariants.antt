use Rattle.std.proofs.Common.{◌-◌, ◌≡◌, ◌≤◌, ◌<◌, ◌⊎◌, All, length}
use Rattle.sum_commands.specs.Sources.{IsOpenedRun}
use Rattle.sum_commands.proofs.working.open_round.Given as goal

-- the runs so far end before this place
abbrev pub invariant-loop-place : goal.invariant-loop-place
invariant-loop-place g l =
    (l.place ≤ l.part.1) × (l.part.0 ≤ l.place) × (l.part.0 < l.place ⊎ (length l.runs.items ≡ 0))
    × All (IsOpenedRun g.S.Opened.OpenInput.is_whole g.S.Opened.OpenInput.may_be (g.S.Source.are_whole l.source) (g.S.Source.may_be l.source) l.part.1 l.how.is_strict) l.runs.items

abbrev pub decreases-loop-place : goal.decreases-loop-place
decreases-loop-place g l = l.part.1 - l.place
