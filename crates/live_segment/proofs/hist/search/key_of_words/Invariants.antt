use Rattle.std.proofs.Common.{◌≡◌, ◌<◌, ◌^◌, take}
use Rattle.std.specs.List.{All}
use Rattle.list_index.specs.Keys.{key_of}
use Rattle.live_segment.proofs.hist.search.key_of_words.Given as goal

-- the key of the words so far
abbrev pub invariant-loop-word : goal.invariant-loop-word
invariant-loop-word l = record {
  key : l.key ≡ key_of (take l.word-index l.words);
  small : All (λ w. w < 2 ^ 64) (take l.word-index l.words);
}
