use Rattle.std.proofs.Common.{◌≡◌, take}
use Rattle.std.specs.List.{flat_map}
use Rattle.reading_texts.specs.Labels.{text_byte}
use Rattle.reading_texts.proofs.labels.text_of_name.Given as goal

abbrev pub invariant-loop-byte : goal.invariant-loop-byte
invariant-loop-byte l = l.text.items ≡ flat_map text_byte (take l.byte-index l.name)
