use Rattle.std.proofs.Common.{◌≡◌, ◌≤◌, ◌-◌, take}
use Rattle.sum_texts.specs.Lines.{Whole, FitsWhole, totals_text}
use Rattle.sum_texts.specs.Writable.{AreFormed}
use Rattle.sum_texts.proofs.reading_back.first_wrong.Given as goal

-- if not all are formed, those up to one bound are, and those up to the other are not
abbrev pub invariant-loop-wrong : goal.invariant-loop-wrong
invariant-loop-wrong l = (l.formed ≤ l.wrong) × (l.wrong ≤ l.fn.count)
    × ((whole : Whole) → FitsWhole whole → l.fn.text ≡ totals_text whole → (AreFormed (take l.fn.count whole.parts) → ⊥)
    → AreFormed (take l.formed whole.parts) × (AreFormed (take l.wrong whole.parts) → ⊥))

abbrev pub decreases-loop-wrong : goal.decreases-loop-wrong
decreases-loop-wrong l = l.wrong - l.formed
