-- Of which readings a sum of inputs is, and why an input is left out.
use Rattle.std.specs.Prelude.{◌≡◌, ◌⊎◌, ℕ, ◌+◌, ◌≤◌, ◌^◌, List, [], ◌∷◌, ◌++◌, sum_by, Option, ⊤}
use Rattle.std.specs.List.{Contains}
use Rattle.bucket_ranges.specs.Reading.{Reading}
use Rattle.persist_report_core.specs.declared.fault.CliFault.{CliFault}
use Rattle.persist_report_core.specs.declared.fault.CliFault.TheVariants.{NoMemory}
use Rattle.persist_report_core.specs.Damage.{damage_of}
use Rattle.reading_sums.specs.declared.fault.SumsFault.{SumsFault}
use Rattle.reading_sums.specs.declared.fault.SumsFault.TheVariants as sums
use Rattle.reading_sums.specs.declared.sums.Sums.{Sums}
use Rattle.reading_sums.specs.Addends.{Addend, AddsAddend, addend_of, addend_of_reading}
use Rattle.reading_sums.specs.Fitting.{AddendsDoNotFit, SumDoesNotFit}
use Rattle.reading_sums.specs.Sums.{IsSumInOrder}
use Rattle.reading_sums.specs.Totals.{Part}
use Rattle.reading_sums.specs.Whole.{IsWellFormed}
use Rattle.persist_report_core.specs.Report.{IsReadingOf, IsCausedByImage}
use Rattle.sum_texts.specs.declared.fault.TotalsFault.{TotalsFault}
use Rattle.sum_texts.specs.declared.fault.TotalsFault.TheVariants as totals
use Rattle.sum_texts.specs.declared.totals.Totals.{Totals}
use Rattle.sum_texts.specs.Lines.{totals_text}
use Rattle.sum_texts.specs.Views.{whole_of}
use Rattle.sum_texts.specs.Writable.{IsWritable}
use Rattle.sum_commands.specs.declared.fault.InputFault.{InputFault}
use Rattle.sum_commands.specs.declared.fault.InputFault.TheVariants.{Image, BadTotals, TooMany}

-- the fault of an input whose readings cannot be added
abbrev pub fault_of_sums : SumsFault → InputFault
fault_of_sums sums.NoMemory = Image NoMemory
fault_of_sums sums.TooMany = TooMany

-- the fault of an input that is not a totals
abbrev pub fault_of_totals : TotalsFault → InputFault
fault_of_totals totals.NoMemory = Image NoMemory
fault_of_totals (totals.BadTotals line) = BadTotals line

-- ---- what does not fit

-- least numbers do not fit after this many images: one is 2^62 or more, or 2^64 or more when it is raised by these
abbrev pub NumbersDoNotFit : ℕ → List Part → Type 0
NumbersDoNotFit images parts = (part : Part) × Contains parts part × ((2 ^ 62 ≤ part.least) ⊎ (2 ^ 64 ≤ part.least + images))

-- an addend does not fit after a sum: what both have together does not fit, or the addend's numbers do not
abbrev pub DoesNotFitBehind : Sums → Addend → Type 0
DoesNotFitBehind sums addend = SumDoesNotFit sums addend.parts addend.notes ⊎ NumbersDoNotFit sums.notes.images addend.parts

-- how many images addends have
abbrev pub images_of : List Addend → ℕ
images_of addends = sum_by (λ (addend : Addend). addend.notes.images) addends

-- an addend does not fit after others
abbrev pub DoesNotFitAfter : List Addend → Addend → Type 0
DoesNotFitAfter before addend = AddendsDoNotFit (before ++ addend ∷ []) ⊎ NumbersDoNotFit (images_of before) addend.parts

-- ---- why an input is left out

-- a reading of these bytes does not fit after a well-formed sum
pub record ReadingDoesNotFit (bytes : List ℕ) (before : Sums) : Type 0 where
  pub reading : Reading
  pub reading_is : IsReadingOf bytes reading
  pub many : IsWellFormed before → DoesNotFitBehind before (addend_of_reading reading)

-- why an image is left out: for a cause in its bytes, or since it does not fit; nothing is claimed if memory ran out
abbrev pub IsCausedByInput : List ℕ → Sums → InputFault → Type 0
IsCausedByInput bytes before (Image fault) = IsCausedByImage bytes fault
IsCausedByInput bytes before (BadTotals line) = ⊥
IsCausedByInput bytes before TooMany = ReadingDoesNotFit bytes before

-- the totals of this text do not fit after a well-formed sum
pub record TotalsDoNotFit (text : List ℕ) (before : Sums) : Type 0 where
  pub totals : Totals
  pub text_is : text ≡ totals_text (whole_of totals)
  pub many : IsWellFormed before → DoesNotFitBehind before (addend_of totals.sums)

-- why totals are left out: the text is not that of a totals, or they do not fit, or memory ran out
abbrev pub IsCausedByTotals : List ℕ → Sums → InputFault → Type 0
IsCausedByTotals text before (Image fault) = fault ≡ NoMemory
IsCausedByTotals text before (BadTotals line) = (totals : Totals) → IsWritable totals → text ≡ totals_text (whole_of totals) → ⊥
IsCausedByTotals text before TooMany = TotalsDoNotFit text before

-- ---- what is added

-- a sum gained one reading, which is what these bytes read as
pub record AddsReading (bytes : List ℕ) (before after : Sums) : Type 0 where
  pub reading : Reading
  pub reading_is : IsReadingOf bytes reading
  pub added : (readings : List Reading) → IsSumInOrder readings before → IsSumInOrder (readings ++ reading ∷ []) after
  pub behind : AddsAddend (addend_of_reading reading) before after
  pub well_formed : IsWellFormed before → IsWellFormed after
  pub fits : IsWellFormed before → ¬ DoesNotFitBehind before (addend_of_reading reading)

-- what is damaged in the image of these bytes, if something is: what the damage of their reading is
abbrev pub IsDamageOf : List ℕ → Option CliFault → Type 0
IsDamageOf bytes damage = (reading : Reading) × IsReadingOf bytes reading × (damage ≡ damage_of reading)

-- a sum gained the readings of another one, after its own
abbrev pub AddsBehind : Sums → Sums → Sums → Type 0
AddsBehind more before after = (readings others : List Reading) → IsSumInOrder readings before → IsSumInOrder others more
    → IsSumInOrder (readings ++ others) after

-- a sum gained the readings of a totals that has this text
pub record AddsTotals (text : List ℕ) (before after : Sums) : Type 0 where
  pub totals : Totals
  pub text_is : text ≡ totals_text (whole_of totals)
  pub added : AddsBehind totals.sums before after
  pub behind : AddsAddend (addend_of totals.sums) before after
  pub well_formed : IsWellFormed before → IsWellFormed after
  pub fits : IsWellFormed before → ¬ DoesNotFitBehind before (addend_of totals.sums)
