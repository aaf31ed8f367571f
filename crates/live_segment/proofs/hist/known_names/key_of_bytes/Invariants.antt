use Rattle.std.proofs.Common.{◌≡◌, take}
use Rattle.list_index.specs.Keys.{byte_key_of}
use Rattle.live_segment.proofs.hist.known_names.key_of_bytes.Given as goal

-- the key of the bytes so far
abbrev pub invariant-loop-byte : goal.invariant-loop-byte
invariant-loop-byte l = l.key ≡ byte_key_of (take l.byte-index l.name)
