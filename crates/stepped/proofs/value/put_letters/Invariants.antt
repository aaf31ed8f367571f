use Rattle.std.proofs.Common.{take}
use Rattle.std.specs.Io.KnownBytes.{Appends}
use Rattle.stepped.specs.Value.{letters_text}
use Rattle.stepped.proofs.value.put_letters.Given as goal

-- this many bytes are written
abbrev pub invariant-loop-byte : goal.invariant-loop-byte
invariant-loop-byte g l = Appends (g.W.Write.contents l.initial.writer) (g.W.Write.contents l.writer) (letters_text (take l.byte-index l.bytes))
