use Rattle.std.proofs.Common.{◌≡◌, take, map}
use Rattle.reading_shows.specs.Since.{came_to}
use Rattle.reading_shows.proofs.since.cames_of.Given as goal

abbrev pub invariant-loop-row : goal.invariant-loop-row
invariant-loop-row l = l.cames.items ≡ map (came_to l.before) (take l.row-index l.rows)
