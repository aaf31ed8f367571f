use Rattle.std.proofs.Common.{◌≡◌, ◌||◌, false, ℕ, ◌-◌, ◌<◌, ◌≤◌, length, get_or}
use Rattle.image_adoption.specs.Runs.{is_in}
use Rattle.image_adoption.proofs.blocks.take.Given as goal

-- The words of the run so far were not taken before, and are now; the others are unchanged.
abbrev pub invariant-loop-word : goal.invariant-loop-word
invariant-loop-word l = record {
  long : length l.taken ≡ length l.fn.taken;
  from : l.at ≤ l.word;
  free : (w : ℕ) → l.at ≤ w → w < l.word → get_or l.fn.taken w false ≡ false;
  marks : (w : ℕ) → get_or l.taken w false ≡ (get_or l.fn.taken w false || is_in l.at (l.word - l.at) w);
}
