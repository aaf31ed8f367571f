-- The samples that a reader has visited.
use Rattle.std.specs.Prelude.{◌≡◌, Bool, true, ◌==◌, ℕ, ℤ, List, All, map}
use Rattle.std.specs.List.{filter, list_any}
use Rattle.std.specs.declared.cmp.Ordering.{Ordering}
use Rattle.std.specs.Ordering.{nat_cmp, int_cmp, is_eq, ordering_then}
use Rattle.std.specs.List.Sorted.{IsStrictlySortedBy}
use Rattle.std.specs.Map.{keys_of}
use Rattle.bucket_ranges.specs.Reading.{is_i32, sample_histogram, sample_value, sample_count, sample_mark, first_samples}
use Rattle.image_reader.specs.declared.sample.Sample.{Sample}
use Rattle.image_reader.specs.declared.sample.Samples.{Samples}

-- a histogram and a value, and their count and mark
abbrev pub Entry : Type 0
Entry = (ℕ × ℤ) × (ℕ × ℕ)

-- the histogram, value, count and mark in the sample's record at a reference
abbrev pub sample_entry : List ℕ → ℕ → Entry
sample_entry words at = ((sample_histogram words at, sample_value words at), (sample_count words at, sample_mark words at))

-- the same four numbers of a sample, as the reader holds them
abbrev pub entry_of : Sample → Entry
entry_of sample = ((sample.histogram, sample.value), (sample.count, sample.mark))

-- the value and the count
abbrev pub entry_count : Entry → ℤ × ℕ
entry_count entry = (entry.0.1, entry.1.0)

-- the mark of an entry
abbrev pub entry_mark : Entry → ℕ
entry_mark entry = entry.1.1

-- the order of the values
abbrev pub by_entry_value : Entry → Entry → Ordering
by_entry_value a b = int_cmp a.0.1 b.0.1

-- what is held of a histogram
abbrev pub held : Samples → ℕ → List Entry
held samples histogram = filter (λ entry. entry.0.0 == histogram) samples.map.entries

-- whether a sample of the histogram and the value of an entry is held
abbrev pub holds_sample : Samples → Entry → Bool
holds_sample samples entry = list_any (λ other. is_eq (by_entry_value entry other)) (held samples entry.0.0)

-- the order of histograms and values
abbrev pub by_key : ℕ × ℤ → ℕ × ℤ → Ordering
by_key a b = ordering_then (nat_cmp a.0 b.0) (int_cmp a.1 b.1)

-- the keys ascend, and their values are those of an `i32`
pub record AreSamples (samples : Samples) : Type 0 where
  pub ordered : IsStrictlySortedBy by_key (keys_of samples.map.entries)
  pub small : All (λ entry. is_i32 entry.0.1 ≡ true) samples.map.entries

-- for each histogram the reader holds what its first samples say, if these are the samples of the list
abbrev pub HoldsSamples : List ℕ → List ℕ → Samples → Type 0
HoldsSamples words samples reader =
    (histogram : ℕ) → held reader histogram ≡ map (sample_entry words) (first_samples words samples histogram)
