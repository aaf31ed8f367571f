use Rattle.std.proofs.Common.{◌≡◌, ◌<◌, ℕ, get_or}
use Rattle.reading_sums.specs.declared.hist.HistSum.{HistSum}
use Rattle.reading_sums.proofs.shown.run_length.Given as goal

-- those before it have the name of the first
abbrev pub invariant-loop-i : goal.invariant-loop-i
invariant-loop-i l = (k : ℕ) (d : HistSum) → k < l.i → (get_or l.hists k d).name.items ≡ (get_or l.hists 0 d).name.items
