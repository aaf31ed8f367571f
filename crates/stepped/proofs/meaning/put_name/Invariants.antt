use Rattle.std.specs.Io.KnownBytes.{Appends}
use Rattle.stepped.specs.Meaning.{letters}
use Rattle.stepped.proofs.meaning.put_name.Given as goal

-- this many bytes of the name are written
abbrev pub invariant-loop-i : goal.invariant-loop-i
invariant-loop-i g l = Appends (g.W.Write.contents l.initial.writer) (g.W.Write.contents l.writer) (letters l.words l.block l.i)
