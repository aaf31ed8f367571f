use Rattle.std.proofs.Common.{◌≡◌, ◌++◌}
use Rattle.reading_shows.specs.Columns.{times}
use Rattle.reading_shows.proofs.columns.put_times.Given as goal

abbrev pub invariant-loop-i : goal.invariant-loop-i
invariant-loop-i l = l.text.items ≡ l.initial.text.items ++ times l._i l.piece
