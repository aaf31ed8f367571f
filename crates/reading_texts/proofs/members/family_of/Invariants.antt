use Rattle.std.proofs.Common.{◌≡◌, map, take}
use Rattle.reading_texts.specs.Families.{family_byte}
use Rattle.reading_texts.proofs.members.family_of.Given as goal

abbrev pub invariant-loop-byte : goal.invariant-loop-byte
invariant-loop-byte l = l.family.items ≡ map family_byte (take l.byte-index l.name)
