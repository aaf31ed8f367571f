-- What is added after a sum fits, or does not fit.
use Rattle.std.proofs.Common.{◌≡◌, ◌⊎◌, ⊎_elim, inl, inr, ◌<◌, ◌≤◌, ◌^◌, ◌+◌, ◌+ℤ◌, ℕ, List, [], ◌∷◌, ◌++◌, map, refl, ap, sym, subst, ◌∙◌, arith}
use Rattle.std.specs.List.{All, Contains}
use Rattle.std.proofs.Math.Nat.{lt_of_not-le}
use Rattle.std.proofs.lemmas.List.Elements.{All-contains, All-map}
use Rattle.bucket_ranges.specs.Reading.{Histogram, Reading}
use Rattle.reading_sums.specs.declared.notes.Notes.{Notes}
use Rattle.reading_sums.specs.declared.sums.Sums.{Sums}
use Rattle.reading_sums.specs.Addends.{Addend, addend_of, addend_of_reading, notes_of_one}
use Rattle.reading_sums.specs.Fitting.{HasNumberTooGreat, SumDoesNotFit}
use Rattle.reading_sums.specs.Sums.{parts_of_one}
use Rattle.reading_sums.specs.Totals.{Part, part_from, raised_part, total}
use Rattle.reading_sums.specs.Views.{parts_of}
use Rattle.reading_sums.proofs.FitInTurn.{raised-numbers}
use Rattle.reading_sums.proofs.SameUnits.{SameNumbers, parts-moved}
use Rattle.reading_sums.proofs.Totals.{total-append}
use Rattle.sum_commands.specs.Inputs.{DoesNotFitBehind, NumbersDoNotFit}
use Rattle.sum_commands.proofs.InTurn.{hists-raised}

-- ---- parts with the same numbers

behind-same : (front a b : List Part) → SameNumbers a b → SameNumbers (front ++ a) (front ++ b)
behind-same front a b same quantity name spec =
    total-append quantity name spec front a ∙ (ap (λ n. total quantity name spec front +ℤ n) (same quantity name spec) ∙ sym (total-append quantity name spec front b))

sum-moved : (sums : Sums) (a b : List Part) (notes : Notes) → SameNumbers a b → SumDoesNotFit sums a notes → SumDoesNotFit sums b notes
sum-moved sums a b notes same many =
    ⊎_elim (λ long. inl long) (λ long. inr (parts-moved (parts_of sums ++ a) (parts_of sums ++ b) (behind-same (parts_of sums) a b same) long)) many

same-back : (a b : List Part) → SameNumbers a b → SameNumbers b a
same-back a b same quantity name spec = sym (same quantity name spec)

-- ---- a reading

number-same : (number : ℕ) (reading : Reading) → SameNumbers (parts_of_one (number, reading)) (parts_of_one (0, reading))
number-same number reading =
    subst (λ z. SameNumbers z (parts_of_one (0, reading))) (sym (hists-raised number reading.hists)) (raised-numbers number (parts_of_one (0, reading)))

-- its numbers are 0
no-number : (reading : Reading) (images : ℕ) → images < 2 ^ 64 → ¬ NumbersDoNotFit images (parts_of_one (0, reading))
no-number reading images small = λ many.
    let all : All (λ (part : Part). part.least ≡ 0) (parts_of_one (0, reading)) = All-map (λ (part : Part). part.least ≡ 0) (part_from 0) reading.hists (λ k d h. refl) in
    let none : many.0.least ≡ 0 = All-contains (λ (part : Part). part.least ≡ 0) (parts_of_one (0, reading)) many.0 all many.1 in
    ⊎_elim (λ far. absurd (omega (arith, none, far))) (λ far. absurd (omega (arith, none, far, small))) many.2

pub reading-fits : (before : Sums) (number : ℕ) (reading : Reading) → ¬ SumDoesNotFit before (parts_of_one (number, reading)) (notes_of_one reading)
    → ¬ DoesNotFitBehind before (addend_of_reading reading)
reading-fits before number reading fits = λ many.
    let more : before.notes.images + 1 < 2 ^ 64 = lt_of_not-le (λ long. fits (inl (inl long))) in
    ⊎_elim
    (λ long.
    fits
    (sum-moved before (parts_of_one (0, reading)) (parts_of_one (number, reading)) (notes_of_one reading)
    (same-back (parts_of_one (number, reading)) (parts_of_one (0, reading)) (number-same number reading)) long))
    (no-number reading before.notes.images (omega (arith, more))) many

pub reading-many : (before : Sums) (number : ℕ) (reading : Reading) → SumDoesNotFit before (parts_of_one (number, reading)) (notes_of_one reading)
    → DoesNotFitBehind before (addend_of_reading reading)
reading-many before number reading many = inl (sum-moved before (parts_of_one (number, reading)) (parts_of_one (0, reading)) (notes_of_one reading) (number-same number reading) many)

-- ---- another sum, which is raised by how many images there were

raised-same : (by : ℕ) (more raised : Sums) → parts_of raised ≡ map (raised_part by) (parts_of more) → SameNumbers (parts_of raised) (parts_of more)
raised-same by more raised parts = subst (λ z. SameNumbers z (parts_of more)) (sym parts) (raised-numbers by (parts_of more))

pub raised-fits : (by : ℕ) (more raised before : Sums) → by ≡ before.notes.images → parts_of raised ≡ map (raised_part by) (parts_of more) → raised.notes ≡ more.notes
    → All (λ (part : Part). part.least < 2 ^ 62) (parts_of more) → ¬ HasNumberTooGreat by (parts_of more)
    → ¬ SumDoesNotFit before (parts_of raised) raised.notes → ¬ DoesNotFitBehind before (addend_of more)
raised-fits by more raised before images parts notes near low fits = λ many.
    ⊎_elim
    (λ long.
    fits
    (subst (SumDoesNotFit before (parts_of raised)) (sym notes)
    (sum-moved before (parts_of more) (parts_of raised) more.notes (same-back (parts_of raised) (parts_of more) (raised-same by more raised parts)) long)))
    (λ numbers.
    let below : numbers.0.least < 2 ^ 62 = All-contains (λ (part : Part). part.least < 2 ^ 62) (parts_of more) numbers.0 near numbers.1 in
    ⊎_elim (λ far. absurd (omega (arith, below, far))) (λ far. low (numbers.0, numbers.1, omega (arith, far, images))) numbers.2)
    many

pub raised-many : (by : ℕ) (more raised before : Sums) → parts_of raised ≡ map (raised_part by) (parts_of more) → raised.notes ≡ more.notes
    → SumDoesNotFit before (parts_of raised) raised.notes → DoesNotFitBehind before (addend_of more)
raised-many by more raised before parts notes many =
    inl (sum-moved before (parts_of raised) (parts_of more) more.notes (raised-same by more raised parts) (subst (SumDoesNotFit before (parts_of raised)) notes many))

pub number-many : (by : ℕ) (more before : Sums) → by ≡ before.notes.images → HasNumberTooGreat by (parts_of more) → DoesNotFitBehind before (addend_of more)
number-many by more before images many = let long = many.2 in inr (many.0, many.1, inr (omega (arith, long, images)))

pub far-many : (more before : Sums) → (part : Part) × Contains (parts_of more) part × (2 ^ 62 ≤ part.least) → DoesNotFitBehind before (addend_of more)
far-many more before far = inr (far.0, far.1, inl far.2)
