use Rattle.std.proofs.Common.{◌≡◌, ◌==◌, false, not, take}
use Rattle.std.specs.List.{list_any}
use Rattle.reading_shows.proofs.heading.has_mark.Given as goal

abbrev pub invariant-loop-mark : goal.invariant-loop-mark
invariant-loop-mark l = list_any (λ mark. not (mark == 0)) (take l.mark-index l.marks) ≡ false
