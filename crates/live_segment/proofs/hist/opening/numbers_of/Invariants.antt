use Rattle.std.proofs.Common.{◌≡◌, take, map}
use Rattle.live_segment.specs.Hist.Opened.{number_read}
use Rattle.live_segment.proofs.hist.opening.numbers_of.Given as goal

-- the numbers of the words so far
abbrev pub invariant-loop-word : goal.invariant-loop-word
invariant-loop-word l = l.numbers.items ≡ map number_read (take l.word-index l.words)
