-- The order of the histograms of a sum, and of their keys.
use Rattle.std.specs.Prelude.{ℕ, List, [], ◌∷◌, ◌++◌, drop}
use Rattle.std.specs.declared.cmp.Ordering.{Ordering}
use Rattle.std.specs.Ordering.{nat_cmp, int_cmp, ordering_then}
use Rattle.std.specs.Cmp.Lexicographic.{slice_cmp}
use Rattle.std.specs.List.Sorted.{IsStrictlySortedBy}
use Rattle.bucket_ranges.specs.declared.spec.Spec.{Spec}
use Rattle.bucket_ranges.specs.declared.spec.Spec.TheVariants.{Linear, Boolean, Custom, Sparse}
use Rattle.reading_sums.specs.declared.hist.HistSum.{HistSum}
use Rattle.reading_sums.specs.declared.key.KeySum.{KeySum}

-- the numbers by which specs are ordered: that of the kind, and those of the spec after it
abbrev pub spec_numbers : Spec → List ℕ
spec_numbers (Linear min max n) = 1 ∷ min ∷ max ∷ n ∷ []
spec_numbers Boolean = 2 ∷ []
spec_numbers (Custom values) = 3 ∷ values
spec_numbers Sparse = 4 ∷ []

-- the order of specs
abbrev pub spec_cmp : Spec → Spec → Ordering
spec_cmp a b = slice_cmp nat_cmp (spec_numbers a) (spec_numbers b)

-- the order of histograms: by name, then by spec
abbrev pub hist_cmp : HistSum → HistSum → Ordering
hist_cmp a b = ordering_then (slice_cmp nat_cmp a.name.items b.name.items) (spec_cmp a.spec b.spec)

-- the order of keys: by value
abbrev pub key_cmp : KeySum → KeySum → Ordering
key_cmp a b = int_cmp a.value b.value

-- an element comes next of two lists, and takes `i` elements of one and `j` of the other: whatever ascends with each of the lists after it,
-- also ascends with this element and the rest of each list after it
abbrev pub ComesNext : {K : Type 0} → (K → K → Ordering) → K → ℕ → ℕ → List K → List K → Type 0
ComesNext cmp next i j a b = (done : List _) → IsStrictlySortedBy cmp (done ++ a) → IsStrictlySortedBy cmp (done ++ b)
    → IsStrictlySortedBy cmp (done ++ next ∷ drop i a) × IsStrictlySortedBy cmp (done ++ next ∷ drop j b)
