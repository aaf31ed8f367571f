use Rattle.std.proofs.Common.{◌≡◌, take}
use Rattle.std.specs.Prelude.{max}
use Rattle.std.specs.List.{fold}
use Rattle.reading_shows.proofs.since.most_that_came.Given as goal

abbrev pub invariant-loop-came : goal.invariant-loop-came
invariant-loop-came l = l.most ≡ fold max 0 (take l.came-index l.cames)
