use Rattle.std.proofs.Common.{◌≡◌, take}
use Rattle.std.specs.List.{flat_map}
use Rattle.reading_shows.specs.PageLists.{path_byte}
use Rattle.reading_shows.proofs.source.escaped_path.Given as goal

abbrev pub invariant-loop-byte : goal.invariant-loop-byte
invariant-loop-byte l = l.text.items ≡ flat_map path_byte (take l.byte-index l.path)
