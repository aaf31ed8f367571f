-- Sums that do not fit together.
use Rattle.std.proofs.Common.{◌≡◌, ◌<◌, ◌≤◌, ◌^◌, ◌+◌, inr, ℕ, List, ◌++◌, map, length, get_or, ap, sym, subst, ◌∙◌, arith, IsPermutation}
use Rattle.std.proofs.lemmas.List.{get_or-map, length-map}
use Rattle.bucket_ranges.specs.Reading.{Reading}
use Rattle.reading_sums.specs.declared.fault.SumsFault.{SumsFault}
use Rattle.reading_sums.specs.declared.fault.SumsFault.TheVariants.{NoMemory, TooMany}
use Rattle.reading_sums.specs.declared.hist.HistSum.{HistSum}
use Rattle.reading_sums.specs.declared.sums.Sums.{Sums}
use Rattle.reading_sums.specs.Addends.{notes_of_one}
use Rattle.reading_sums.specs.Fitting.{PartsDoNotFit, SumDoesNotFit, HasNumberTooGreat, IfTooMany}
use Rattle.reading_sums.specs.Sums.{parts_of_one}
use Rattle.reading_sums.specs.Totals.{Part}
use Rattle.reading_sums.specs.Views.{part_of, parts_of}
use Rattle.reading_sums.specs.Whole.{AreWhole, IsWellFormed, IsWholeReading}
use Rattle.reading_sums.proofs.Readings.{same-permutation}
use Rattle.reading_sums.proofs.SameUnits.{parts-moved}
use Rattle.reading_sums.proofs.Totals.{same-append, same-refl}

-- parts in another order
moved-long : (xs ys zs : List Part) → IsPermutation ys zs → PartsDoNotFit (xs ++ ys) → PartsDoNotFit (xs ++ zs)
moved-long xs ys zs moved many =
    parts-moved (xs ++ ys) (xs ++ zs) (same-append xs xs ys zs (same-refl xs) (same-permutation ys zs moved)).totals many

-- a least number that does not fit when it is raised
number-here : (hists : List HistSum) (k : ℕ) (x : HistSum) (by : ℕ) → k < length hists → x ≡ get_or hists k x → 2 ^ 64 ≤ x.least + by
    → HasNumberTooGreat by (map part_of hists)
number-here hists k x by within is long =
    (part_of x, (k, omega (arith, within, length-map hists part_of), get_or-map part_of hists k x (part_of x) within ∙ ap part_of (sym is)), long)

pub number-long : (fault : SumsFault) (hists : List HistSum) (k : ℕ) (x : HistSum) (by : ℕ) → k < length hists → x ≡ get_or hists k x
    → IfTooMany fault (2 ^ 64 ≤ x.least + by) → IfTooMany fault (HasNumberTooGreat by (map part_of hists))
number-long NoMemory hists k x by within is told = tt
number-long TooMany hists k x by within is told = number-here hists k x by within is told

-- ---- sums

-- a sum and another
pub sums-long : (fault : SumsFault) (before other : Sums) (here there : List HistSum) → here ≡ before.hists.items → there ≡ other.hists.items
    → IfTooMany fault (AreWhole here → AreWhole there → PartsDoNotFit (map part_of here ++ map part_of there))
    → IfTooMany fault (IsWellFormed before → IsWellFormed other → SumDoesNotFit before (parts_of other) other.notes)
sums-long NoMemory before other here there first second told = tt
sums-long TooMany before other here there first second told = λ one more.
    inr (subst PartsDoNotFit (λ i. map part_of (first i) ++ map part_of (second i))
    (told (subst AreWhole (sym first) one) (subst AreWhole (sym second) more)))

-- a sum and one more reading
pub reading-long : (fault : SumsFault) (before : Sums) (number : ℕ) (reading : Reading) (here there listed : List HistSum) → here ≡ before.hists.items → there ≡ listed
    → IsPermutation (map part_of listed) (parts_of_one (number, reading)) → (IsWholeReading reading → AreWhole listed)
    → IfTooMany fault (AreWhole here → AreWhole there → PartsDoNotFit (map part_of here ++ map part_of there))
    → IfTooMany fault (IsWellFormed before → IsWholeReading reading → SumDoesNotFit before (parts_of_one (number, reading)) (notes_of_one reading))
reading-long NoMemory before number reading here there listed first second moved whole told = tt
reading-long TooMany before number reading here there listed first second moved whole told = λ one more.
    inr (moved-long (parts_of before) (map part_of listed) (parts_of_one (number, reading)) moved
    (subst PartsDoNotFit (λ i. map part_of (first i) ++ map part_of (second i))
    (told (subst AreWhole (sym first) one) (subst AreWhole (sym second) (whole more)))))
