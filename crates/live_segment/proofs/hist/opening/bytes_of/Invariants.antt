use Rattle.std.proofs.Common.{◌≡◌, take}
use Rattle.segment_image.specs.Words.{bytes_of_words}
use Rattle.live_segment.proofs.hist.opening.bytes_of.Given as goal

-- the bytes of the words so far
abbrev pub invariant-loop-word : goal.invariant-loop-word
invariant-loop-word l = l.bytes.items ≡ bytes_of_words (take l.word-index l.words)
