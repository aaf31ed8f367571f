-- A step of a `hist` leaves what it asks for.
use Rattle.std.proofs.Common.{◌≡◌, ℕ, ap}
use Rattle.hist_core.specs.declared.hist.Hist.{Hist}
use Rattle.hist_core.specs.declared.hist.HistStep.{HistStep}
use Rattle.hist_core.specs.declared.hist.HistStep.TheVariants.{More, Done, Refused}
use Rattle.hist_core.specs.declared.new_record.NewRecordStep.{NewRecordStep}
use Rattle.hist_core.specs.declared.new_record.NewRecordStep.TheVariants as made
use Rattle.hist_core.specs.Hist.{IsMatched, IsDifferent, IsMade}

asks : (old new : Hist) → new ≡ old → new.asked ≡ old.asked
asks old new is = ap (λ (h : Hist). h.asked) is

pub matched_asks : (old : Hist) (k : ℕ) (new : Hist) (result : HistStep) → IsMatched old k new result → new.asked ≡ old.asked
matched_asks old k new More (more, is) = ap (λ (h : Hist). h.asked) is
matched_asks old k new Done (all, is) = asks old new is
matched_asks old k new (Refused why) is = absurd is

pub differed_asks : (old : Hist) (k : ℕ) (new : Hist) (result : HistStep) → IsDifferent old k new result → new.asked ≡ old.asked
differed_asks old k new More (early, is) = ap (λ (h : Hist). h.asked) is
differed_asks old k new Done is = absurd is
differed_asks old k new (Refused why) (late, is, why_is) = asks old new is

pub made_asks : (old : Hist) (says : NewRecordStep) (new : Hist) (result : HistStep) → IsMade old says new result → new.asked ≡ old.asked
made_asks old made.More new result (is, said_is) = asks old new is
made_asks old made.Done new result (is, said_is) = ap (λ (h : Hist). h.asked) is
made_asks old (made.Refused why) new result (is, said_is) = asks old new is
