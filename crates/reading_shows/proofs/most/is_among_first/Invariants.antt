use Rattle.std.proofs.Common.{◌≡◌, ◌<◌, take}
use Rattle.std.specs.List.{count_by}
use Rattle.reading_shows.specs.Most.{is_ahead}
use Rattle.reading_shows.proofs.most.is_among_first.Given as goal

abbrev pub invariant-loop-other : goal.invariant-loop-other
invariant-loop-other l = (l.ahead ≡ count_by (is_ahead l.row) (take l.other-index l.rows)) × (l.ahead < 20)
