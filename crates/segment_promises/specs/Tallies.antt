-- Tallies of entries: those of the parts of a list add up to that of the list, and those of samples are their counts.
use Rattle.std.specs.Prelude.{◌≡◌, ◌==◌, ℕ, ◌%◌, ◌<◌, ℤ, pos, ◌+ℤ◌, List, map, fold, sum_by}
use Rattle.std.specs.List.{range_with_len, enumerate_from, filter}
use Rattle.bucket_ranges.specs.Ranges.{AreBoundaries}
use Rattle.bucket_ranges.specs.Tally.{AreCounts, units_of, sum_of}
use Rattle.segment_machine.specs.declared.entry.Entry.{Entry}
use Rattle.segment_machine.specs.Entry.{sample_entry, tally_units, tally_sum, tally_noted}
use Rattle.segment_machine.specs.Actor.{units_listed}

-- ---- parts of a list

-- one of n parts of a list: the elements whose numbers leave k modulo n
abbrev pub part : {X : Type 0} → ℕ → ℕ → List X → List X
part n k list = map (λ numbered. numbered.1) (filter (λ numbered. (numbered.0 % n) == k) (enumerate_from 0 list))

-- the tallies of all n parts of a list add up to that of the list: units of each key, sum, and all units
abbrev pub PartsAddUp : Type 0
PartsAddUp = (n : ℕ) (entries : List Entry) (name : List ℕ) → 0 < n
    → ((key : ℤ) → sum_by (λ k. tally_units (part n k entries) name key) (range_with_len 0 n) ≡ tally_units entries name key)
    × (fold ◌+ℤ◌ (pos 0) (map (λ k. tally_sum (part n k entries) name) (range_with_len 0 n)) ≡ tally_sum entries name)
    × (sum_by (λ k. tally_noted (part n k entries) name) (range_with_len 0 n) ≡ tally_noted entries name)

-- ---- samples

-- the tally of the entries of samples is what the samples add up to: the counts of buckets or of values, the sum, and all units
abbrev pub TalliesAreCounts : Type 0
TalliesAreCounts = (name boundaries : List ℕ) (samples counts : List (ℤ × ℕ)) → AreBoundaries boundaries → AreCounts boundaries samples counts
    → ((key : ℤ) → units_listed counts key ≡ tally_units (map (sample_entry name boundaries) samples) name key)
    × (tally_sum (map (sample_entry name boundaries) samples) name ≡ sum_of boundaries samples)
    × (tally_noted (map (sample_entry name boundaries) samples) name ≡ units_of samples)
