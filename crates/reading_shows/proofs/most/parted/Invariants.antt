use Rattle.std.proofs.Common.{◌≡◌, not, take}
use Rattle.std.specs.List.{filter}
use Rattle.reading_shows.specs.Most.{is_among_first}
use Rattle.reading_shows.proofs.most.parted.Given as goal

abbrev pub invariant-loop-row : goal.invariant-loop-row
invariant-loop-row l =
    (l.shown.items ≡ filter (is_among_first l.others) (take l.row-index l.rows))
    × (l.left_out.items ≡ filter (λ row. not (is_among_first l.others row)) (take l.row-index l.rows))
