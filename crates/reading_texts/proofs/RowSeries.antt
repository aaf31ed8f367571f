-- The lines of one histogram are of series of their own.
use Rattle.std.proofs.Common.{◌≡◌, ◌∙◌, ap, sym, subst, refl, inl, inr, ℕ, suc, zero, ◌+◌, ◌<◌, ◌≤◌, ◌^◌, true, false, List, [], ◌∷◌, ◌++◌, length, get_or, map, arith, All, ℤ, pos, negsuc, ◌-ℤ◌, ◌+ℤ◌, Less, int_cmp}
use Rattle.std.specs.Ordering.{ordering_reverse}
use Rattle.std.specs.Prelude.{codes}
use Rattle.std.specs.Fmt.{decimal, signed_decimal}
use Rattle.std.specs.Int.Signed.{mag}
use Rattle.std.specs.Str.Parse.{AllDigits}
use Rattle.std.specs.List.{AllPairs}
use Rattle.std.proofs.Math.IntN.{ -ℤ-+ℤ_cancel, -ℤ_one}
use Rattle.std.proofs.lemmas.Bool.{cases_order}
use Rattle.std.proofs.lemmas.Cmp.{int_cmp_total}
use Rattle.std.proofs.lemmas.Fmt.{signed_decimal_injective, decimal_is_IsNumeral}
use Rattle.std.proofs.lemmas.List.{append_cancel_left, append-nil}
use Rattle.std.proofs.lemmas.List.Elements.{All-cons, All-map, All-append}
use Rattle.std.proofs.lemmas.List.FromFn.{get_or-map-range_with_len, length-map-range_with_len}
use Rattle.std.proofs.lemmas.List.Kept.{AllPairs-cons, AllPairs-from_increasing}
use Rattle.bucket_ranges.specs.Spec.{buckets_of}
use Rattle.bucket_ranges.specs.Ranges.{boundaries_of, SplitsValues}
use Rattle.bucket_ranges.specs.Reading.{Histogram, is_i32}
use Rattle.bucket_ranges.proofs.Ascent.{boundaries_of-split}
use Rattle.image_reader.specs.Readable.{IsReadable}
use Rattle.reading_texts.specs.declared.rows.HistRow.{HistRow}
use Rattle.reading_texts.specs.Rows.{units_of, row_at, rows_of}
use Rattle.reading_texts.specs.Exporting.{MetricSample, bucket_sample, infinite_sample, total_sample, total_samples, value_sample, is_sparse}
use Rattle.reading_texts.specs.Series.{AreOfOneSeries, HasEachSeriesOnce}
use Rattle.reading_texts.proofs.Buckets.{bucket_behind, has_behind, not_sparse}
use Rattle.reading_texts.proofs.Pairs.{AllPairs-append, AllPairs-map, AllPairs-nil, AllPairs-weaker}
use Rattle.reading_texts.proofs.LabelSets.{KeyAndValue}
use Rattle.reading_texts.proofs.ReadHists.{HasValues, small-mag}
use Rattle.reading_texts.proofs.RowLabels.{EndsTell, HasLabelsOf, HasRowKey, is_row_key}

-- no two are of one series
abbrev pub AreApart : MetricSample → MetricSample → Type 0
AreApart a b = ¬ AreOfOneSeries a b

-- ---- numbers as text

-- no number is written as what has no bound
all_digits : (text : List ℕ) → text ≡ codes "+Inf" → AllDigits 10 text → ⊥
all_digits text e digits = let first : 36 < 10 = (subst (AllDigits 10) e digits).0 in omega arith

not_infinite : (z : ℤ) → mag z < 2 ^ 63 → signed_decimal z ≡ codes "+Inf" → ⊥
not_infinite (pos n) small e = all_digits (decimal n) e (decimal_is_IsNumeral n (omega arith)).0.1
not_infinite (negsuc n) small e = let heads = ap (λ text. get_or text 0 0) e in omega (arith, heads)

-- the greatest value of a bucket, from the boundary after it
before-mag : (boundary : ℕ) → boundary ≤ 2147483647 → mag (pos boundary -ℤ pos 1) < 2 ^ 63
before-mag zero few = omega arith
before-mag (suc n) few = rw (-ℤ_one (pos (suc n))) (omega arith)

before-same : (a b : ℕ) → a ≤ 2147483647 → b ≤ 2147483647 → signed_decimal (pos a -ℤ pos 1) ≡ signed_decimal (pos b -ℤ pos 1) → a ≡ b
before-same a b small_a small_b e =
    let same : pos a -ℤ pos 1 ≡ pos b -ℤ pos 1 =
    signed_decimal_injective (pos a -ℤ pos 1) (pos b -ℤ pos 1) (before-mag a small_a) (before-mag b small_b) e in
    let whole : pos a ≡ pos b = sym (-ℤ-+ℤ_cancel (pos a) (pos 1)) ∙ ap (λ (z : ℤ). z +ℤ pos 1) same ∙ -ℤ-+ℤ_cancel (pos b) (pos 1) in
    cc

-- ---- rows

-- a fact of all pairs of rows, by their places
rows-pairs : (hist : Histogram) (R : HistRow → HistRow → Type 0)
    → ((i j : ℕ) → i < j → j < length hist.counts → R (row_at hist i) (row_at hist j)) → AllPairs R (rows_of hist)
rows-pairs hist R pairs =
    λ i j d below within.
    let inside : j < length hist.counts = rw length-map-range_with_len at within in
    let before : i < length hist.counts = omega (arith, below, inside) in
    rw (
      get_or-map-range_with_len (row_at hist) 0 (length hist.counts) i i d before (omega arith),
      get_or-map-range_with_len (row_at hist) 0 (length hist.counts) j j d inside (omega arith),
    ) (pairs i j below inside)

rows-all : (hist : Histogram) (P : HistRow → Type 0) → ((i : ℕ) → i < length hist.counts → P (row_at hist i)) → All P (rows_of hist)
rows-all hist P each =
    λ i d within.
    let inside : i < length hist.counts = rw length-map-range_with_len at within in
    rw (get_or-map-range_with_len (row_at hist) 0 (length hist.counts) i i d inside (omega arith)) (each i inside)

-- ---- buckets

-- boundaries of buckets are values
boundary-small : (boundaries : List ℕ) (buckets i : ℕ) → SplitsValues buckets boundaries → i < length boundaries → get_or boundaries i 0 ≤ 2147483647
boundary-small boundaries buckets i split within =
    let up = AllPairs-from_increasing boundaries split.ascending in
    let last : get_or boundaries buckets 0 ≡ 2147483647 = split.last in
    let count : length boundaries ≡ buckets + 1 = split.count in
    elim (cases_order i buckets) [
      | inl e ↦ let at : get_or boundaries i 0 ≡ get_or boundaries buckets 0 = ap (λ k. get_or boundaries k 0) e in omega (arith, at, last)
      | inr o ↦
          let below : i < buckets = elim o [ inl lt ↦ lt | inr gt ↦ absurd (omega (arith, gt, within, count)) ] in
          let low : get_or boundaries i 0 < get_or boundaries buckets 0 = up i buckets 0 below (omega (arith, count)) in
          omega (arith, low, last)
    ]

-- the boundaries after two buckets are different numbers
record TellsBuckets (a b : HistRow) : Type 0 where
  low : ℕ
  high : ℕ
  small : low ≤ 2147483647
  less : high ≤ 2147483647
  differ : low ≡ high → ⊥
  first : a.high ≡ pos low
  second : b.high ≡ pos high

buckets-tell : (hist : Histogram) → IsReadable hist → is_sparse hist.spec ≡ false → AllPairs TellsBuckets (rows_of hist)
buckets-tell hist readable ranged =
    rows-pairs hist TellsBuckets (λ i j below within.
    let ne = not_sparse hist.spec ranged in
    let split = boundaries_of-split hist.spec readable.lawful ne in
    let boundaries : List ℕ = boundaries_of hist.spec in
    let there : j + 1 < length boundaries = has_behind hist.spec hist.counts j readable.lawful ne readable.counted within in
    let here : i + 1 < length boundaries = omega (arith, below, there) in
    let up : get_or boundaries (i + 1) 0 < get_or boundaries (j + 1) 0 =
    AllPairs-from_increasing boundaries split.ascending (i + 1) (j + 1) 0 (omega (arith, below)) there in
    record {
      low = get_or boundaries (i + 1) 0;
      high = get_or boundaries (j + 1) 0;
      small = boundary-small boundaries (buckets_of hist.spec) (i + 1) split here;
      less = boundary-small boundaries (buckets_of hist.spec) (j + 1) split there;
      differ = λ e. omega (arith, up, e);
      first = bucket_behind hist.spec hist.counts i ne here;
      second = bucket_behind hist.spec hist.counts j ne there;
    })

-- the boundary after a bucket is a value
record HasBound (row : HistRow) : Type 0 where
  bound : ℕ
  small : bound ≤ 2147483647
  is : row.high ≡ pos bound

buckets-bound : (hist : Histogram) → IsReadable hist → is_sparse hist.spec ≡ false → All HasBound (rows_of hist)
buckets-bound hist readable ranged =
    rows-all hist HasBound (λ i within.
    let ne = not_sparse hist.spec ranged in
    let split = boundaries_of-split hist.spec readable.lawful ne in
    let here : i + 1 < length (boundaries_of hist.spec) = has_behind hist.spec hist.counts i readable.lawful ne readable.counted within in
    record {
      bound = get_or (boundaries_of hist.spec) (i + 1) 0;
      small = boundary-small (boundaries_of hist.spec) (buckets_of hist.spec) (i + 1) split here;
      is = bucket_behind hist.spec hist.counts i ne here;
    })

-- ---- the lines of a histogram that has ranges

-- names of metrics that end in other words
metrics-apart : (name a b : List ℕ) → (a ≡ b → ⊥) → name ++ a ≡ name ++ b → ⊥
metrics-apart name a b differ e = differ (append_cancel_left name a b e)

bucket-apart : (name : List ℕ) (labels : List KeyAndValue) (a b : HistRow) → EndsTell labels → TellsBuckets a b
    → AreApart (bucket_sample name labels a) (bucket_sample name labels b)
bucket-apart name labels a b tell rows one =
    let same : signed_decimal (a.high -ℤ pos 1) ≡ signed_decimal (b.high -ℤ pos 1) =
    tell (codes "le") (signed_decimal (a.high -ℤ pos 1)) (signed_decimal (b.high -ℤ pos 1)) refl one.labels in
    let numbers : signed_decimal (pos rows.low -ℤ pos 1) ≡ signed_decimal (pos rows.high -ℤ pos 1) =
    sym (ap (λ (z : ℤ). signed_decimal (z -ℤ pos 1)) rows.first) ∙ same ∙ ap (λ (z : ℤ). signed_decimal (z -ℤ pos 1)) rows.second in
    rows.differ (before-same rows.low rows.high rows.small rows.less numbers)

infinite-apart : (name : List ℕ) (labels : List KeyAndValue) (hist : Histogram) (row : HistRow) → EndsTell labels → HasBound row
    → AreApart (bucket_sample name labels row) (infinite_sample name labels hist)
infinite-apart name labels hist row tell has one =
    let same : signed_decimal (row.high -ℤ pos 1) ≡ codes "+Inf" =
    tell (codes "le") (signed_decimal (row.high -ℤ pos 1)) (codes "+Inf") refl one.labels in
    not_infinite (pos has.bound -ℤ pos 1) (before-mag has.bound has.small)
    (sym (ap (λ (z : ℤ). signed_decimal (z -ℤ pos 1)) has.is) ∙ same)

bucket_or_sum : codes "_bucket" ≡ codes "_sum" → ⊥
bucket_or_sum e = let at = ap (λ text. get_or text 1 0) e in omega (arith, at)

bucket_or_count : codes "_bucket" ≡ codes "_count" → ⊥
bucket_or_count e = let at = ap (λ text. get_or text 1 0) e in omega (arith, at)

sum_or_count : codes "_sum" ≡ codes "_count" → ⊥
sum_or_count e = let at = ap (λ text. get_or text 1 0) e in omega (arith, at)

-- none among none
nothing : (P : MetricSample → Type 0) → All P []
nothing P = λ k d h. absurd (omega (arith, h))

totals-once : (name : List ℕ) (labels : List KeyAndValue) (hist : Histogram) → HasEachSeriesOnce (total_samples name labels hist)
totals-once name labels hist =
    let infinite = infinite_sample name labels hist in
    let sum = total_sample (name ++ codes "_sum") labels (signed_decimal hist.sum) in
    let count = total_sample (name ++ codes "_count") labels (decimal (units_of hist)) in
    AllPairs-cons AreApart infinite (sum ∷ count ∷ [])
    (All-cons (AreApart infinite) sum (count ∷ []) (λ one. metrics-apart name (codes "_bucket") (codes "_sum") bucket_or_sum one.metric)
    (All-cons (AreApart infinite) count [] (λ one. metrics-apart name (codes "_bucket") (codes "_count") bucket_or_count one.metric)
    (nothing (AreApart infinite))))
    (AllPairs-cons AreApart sum (count ∷ [])
    (All-cons (AreApart sum) count [] (λ one. metrics-apart name (codes "_sum") (codes "_count") sum_or_count one.metric) (nothing (AreApart sum)))
    (AllPairs-cons AreApart count [] (nothing (AreApart count)) (AllPairs-nil AreApart)))

between-totals : (name : List ℕ) (labels : List KeyAndValue) (hist : Histogram) (row : HistRow) → EndsTell labels → HasBound row
    → All (AreApart (bucket_sample name labels row)) (total_samples name labels hist)
between-totals name labels hist row tell has =
    let bucket = bucket_sample name labels row in
    let infinite = infinite_sample name labels hist in
    let sum = total_sample (name ++ codes "_sum") labels (signed_decimal hist.sum) in
    let count = total_sample (name ++ codes "_count") labels (decimal (units_of hist)) in
    All-cons (AreApart bucket) infinite (sum ∷ count ∷ []) (infinite-apart name labels hist row tell has)
    (All-cons (AreApart bucket) sum (count ∷ []) (λ one. metrics-apart name (codes "_bucket") (codes "_sum") bucket_or_sum one.metric)
    (All-cons (AreApart bucket) count [] (λ one. metrics-apart name (codes "_bucket") (codes "_count") bucket_or_count one.metric)
    (nothing (AreApart bucket))))

-- the buckets and the totals
abbrev pub units_lines : List ℕ → List KeyAndValue → Histogram → List MetricSample
units_lines name labels hist = map (bucket_sample name labels) (rows_of hist) ++ total_samples name labels hist

pub units-once : (name : List ℕ) (labels : List KeyAndValue) (hist : Histogram) → IsReadable hist → is_sparse hist.spec ≡ false → EndsTell labels
    → HasEachSeriesOnce (units_lines name labels hist)
units-once name labels hist readable ranged tell =
    AllPairs-append AreApart (map (bucket_sample name labels) (rows_of hist)) (total_samples name labels hist)
    (AllPairs-map AreApart (bucket_sample name labels) (rows_of hist)
    (AllPairs-weaker TellsBuckets (λ a b. AreApart (bucket_sample name labels a) (bucket_sample name labels b)) (rows_of hist)
    (λ a b rows. bucket-apart name labels a b tell rows) (buckets-tell hist readable ranged)))
    (totals-once name labels hist)
    (All-map (λ sample. All (AreApart sample) (total_samples name labels hist)) (bucket_sample name labels) (rows_of hist)
    (λ k d h. between-totals name labels hist (get_or (rows_of hist) k d) tell (buckets-bound hist readable ranged k d h)))

-- ---- the values of a sparse histogram

-- what two values are
record TellsValues (a b : HistRow) : Type 0 where
  first : is_i32 a.low ≡ true
  second : is_i32 b.low ≡ true
  differ : a.low ≡ b.low → ⊥

-- a number is not below itself
not_less : (a b : ℤ) → int_cmp a b ≡ Less → a ≡ b → ⊥
not_less a b less e =
    let own : int_cmp a a ≡ Less = ap (int_cmp a) e ∙ less in
    let turned : int_cmp a a ≡ ordering_reverse (int_cmp a a) = int_cmp_total.antisymm a a in
    let other : Less ≡ ordering_reverse Less = sym own ∙ turned ∙ ap ordering_reverse own in
    cc

values-tell : (hist : Histogram) → HasValues hist.counts → AllPairs TellsValues (rows_of hist)
values-tell hist values =
    rows-pairs hist TellsValues (λ i j below within.
    let none : ℤ × ℕ = (pos 0, 0) in
    record {
      first = values.small i none (omega (arith, below, within));
      second = values.small j none within;
      differ = not_less (get_or hist.counts i none).0 (get_or hist.counts j none).0 (values.ascend i j none below within);
    })

value-apart : (name : List ℕ) (labels : List KeyAndValue) (a b : HistRow) → EndsTell labels → TellsValues a b
    → AreApart (value_sample name labels a) (value_sample name labels b)
value-apart name labels a b tell rows one =
    let same : signed_decimal a.low ≡ signed_decimal b.low = tell (codes "value") (signed_decimal a.low) (signed_decimal b.low) refl one.labels in
    rows.differ (signed_decimal_injective a.low b.low (small-mag a.low rows.first) (small-mag b.low rows.second) same)

pub values-once : (name : List ℕ) (labels : List KeyAndValue) (hist : Histogram) → HasValues hist.counts → EndsTell labels
    → HasEachSeriesOnce (map (value_sample name labels) (rows_of hist))
values-once name labels hist values tell =
    AllPairs-map AreApart (value_sample name labels) (rows_of hist)
    (AllPairs-weaker TellsValues (λ a b. AreApart (value_sample name labels a) (value_sample name labels b)) (rows_of hist)
    (λ a b rows. value-apart name labels a b tell rows) (values-tell hist values))

-- ---- whose labels they have

-- a label of a row
one-row : (key value : List ℕ) → is_row_key key ≡ true → All HasRowKey ((key, value) ∷ [])
one-row key value row = All-cons HasRowKey (key, value) [] row (λ k d h. absurd (omega (arith, h)))

no-row : All HasRowKey []
no-row = λ k d h. absurd (omega (arith, h))

pub sum-labels : (name : List ℕ) (labels : List KeyAndValue) (number : List ℕ) → HasLabelsOf labels (total_sample name labels number)
sum-labels name labels number = record { behind = []; rows = no-row; are = sym (append-nil labels) }

pub units-labels : (name : List ℕ) (labels : List KeyAndValue) (hist : Histogram) → All (HasLabelsOf labels) (units_lines name labels hist)
units-labels name labels hist =
    let P = HasLabelsOf labels in
    let infinite = infinite_sample name labels hist in
    let sum = total_sample (name ++ codes "_sum") labels (signed_decimal hist.sum) in
    let count = total_sample (name ++ codes "_count") labels (decimal (units_of hist)) in
    All-append P (map (bucket_sample name labels) (rows_of hist)) (total_samples name labels hist)
    (All-map P (bucket_sample name labels) (rows_of hist) (λ k d h. record { behind = _; rows = one-row (codes "le") _ refl; are = refl }))
    (All-cons P infinite (sum ∷ count ∷ []) (record { behind = _; rows = one-row (codes "le") (codes "+Inf") refl; are = refl })
    (All-cons P sum (count ∷ []) (sum-labels (name ++ codes "_sum") labels (signed_decimal hist.sum))
    (All-cons P count [] (sum-labels (name ++ codes "_count") labels (decimal (units_of hist))) (nothing P))))

pub values-labels : (name : List ℕ) (labels : List KeyAndValue) (hist : Histogram)
    → All (HasLabelsOf labels) (map (value_sample name labels) (rows_of hist))
values-labels name labels hist =
    All-map (HasLabelsOf labels) (value_sample name labels) (rows_of hist)
    (λ k d h. record { behind = _; rows = one-row (codes "value") _ refl; are = refl })
