use Rattle.std.proofs.Common.{◌≡◌, true, take}
use Rattle.std.specs.List.{list_all}
use Rattle.reading_texts.specs.Labels.{is_later_byte}
use Rattle.reading_texts.proofs.labels.are_later.Given as goal

abbrev pub invariant-loop-byte : goal.invariant-loop-byte
invariant-loop-byte l = list_all is_later_byte (take l.byte-index l.bytes) ≡ true
