use Rattle.std.proofs.Common.{take}
use Rattle.std.specs.Io.KnownBytes.{Appends}
use Rattle.stepped.specs.Said.{keys_text}
use Rattle.stepped.proofs.said.put_keys.Given as goal

-- this many keys are written
abbrev pub invariant-loop-key : goal.invariant-loop-key
invariant-loop-key g l = Appends (g.W.Write.contents l.initial.writer) (g.W.Write.contents l.writer) (keys_text (take l.key-index l.counts))
