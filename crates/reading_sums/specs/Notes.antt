-- What images say apart from their histograms.
use Rattle.std.specs.Prelude.{◌≡◌, Bool, if◌then◌else◌, ℕ, ◌+◌}
use Rattle.reading_sums.specs.declared.notes.Notes.{Notes}

-- 1 if it holds, else 0
abbrev pub one_if : Bool → ℕ
one_if holds = if holds then 1 else 0

-- the notes of two sums together
pub record AreNotesOfBoth (a b both : Notes) : Type 0 where
  pub images : both.images ≡ a.images + b.images
  pub full : both.full ≡ a.full + b.full
  pub corrupt : both.corrupt ≡ a.corrupt + b.corrupt
  pub stopped : both.stopped ≡ a.stopped + b.stopped
  pub bad : both.bad ≡ a.bad + b.bad
