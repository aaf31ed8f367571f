use Rattle.std.proofs.Common.{◌≡◌, ◌+◌, All, length}
use Rattle.sum_commands.specs.Sources.{AreOpenedFrom}
use Rattle.sum_commands.proofs.working.open_run.Given as goal

-- all inputs before this place are open
abbrev pub invariant-loop-place : goal.invariant-loop-place
invariant-loop-place g l =
    (l.part.0 + length l.opened.items ≡ l.place)
    × AreOpenedFrom g.S.Opened.OpenInput.may_be (g.S.Source.may_be l.source) l.part.0 l.opened.items
    × (g.S.Source.are_whole l.source → All g.S.Opened.OpenInput.is_whole l.opened.items)
