use Rattle.std.proofs.Common.{◌≡◌, false, ℕ, length, get_or, take}
use Rattle.image_adoption.specs.Conditions.{AreApart}
use Rattle.image_adoption.proofs.Runs.{covered}
use Rattle.image_adoption.proofs.blocks.take_all.Given as goal

-- The blocks so far are apart, and each word's mark says whether one of them has it.
abbrev pub invariant-loop-block : goal.invariant-loop-block
invariant-loop-block l = record {
  long : length l.taken ≡ length l.words;
  marks : (w : ℕ) → get_or l.taken w false ≡ covered l.words (take l.block-index l.blocks) w;
  apart : AreApart l.words (take l.block-index l.blocks);
}
