use Rattle.std.specs.Io.KnownBytes.{Appends}
use Rattle.stepped.specs.Picture.{column}
use Rattle.stepped.proofs.picture.put_column.Given as goal

-- this many columns are passed
abbrev pub invariant-loop : goal.invariant-loop
invariant-loop g l = Appends (g.W.Write.contents l.initial.writer) (g.W.Write.contents l.writer) (column l.counter)
