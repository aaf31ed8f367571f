use Rattle.std.proofs.Common.{take}
use Rattle.std.specs.Io.KnownBytes.{Appends}
use Rattle.stepped.specs.Lines.{behind, units_fields}
use Rattle.stepped.proofs.lines.put_units.Given as goal

abbrev pub invariant-loop-key : goal.invariant-loop-key
invariant-loop-key g l = Appends (g.W.Write.contents l.initial.writer) (g.W.Write.contents l.writer) (behind (units_fields (take l.key-index l.counts)))
