-- The lines of an export are of series of their own.
use Rattle.std.proofs.Common.{◌≡◌, ◌∙◌, ap, sym, refl, ⊎_elim, ℕ, Bool, true, false, List, [], ◌∷◌, ◌++◌, append_assoc, get_or, map, arith, All}
use Rattle.std.specs.Prelude.{codes, if◌then◌else◌}
use Rattle.std.specs.Fmt.{decimal, signed_decimal}
use Rattle.std.specs.List.{flat_map}
use Rattle.std.specs.Str.{bytes_eq}
use Rattle.std.proofs.lemmas.List.{append_cancel_left}
use Rattle.std.proofs.lemmas.List.Elements.{All-cons, All-contains, All-map, All-append}
use Rattle.std.proofs.lemmas.List.Kept.{AllPairs-cons}
use Rattle.bucket_ranges.specs.Reading.{Histogram, Reading, is_name}
use Rattle.image_reader.specs.Readable.{IsReadable}
use Rattle.reading_texts.specs.Rows.{units_of, rows_of}
use Rattle.reading_texts.specs.Labels.{text_of_name, are_line_labels}
use Rattle.reading_texts.specs.Exporting.{MetricSample, labels_of, bucket_sample, infinite_sample, total_sample, total_samples, value_sample, is_sparse, ranged_samples, sparse_samples, bad_records, flag_sample, families_of}
use Rattle.reading_texts.specs.Series.{HasEachSeriesOnce, all_samples}
use Rattle.reading_texts.proofs.Pairs.{AllPairs-append, AllPairs-flat_map, AllPairs-nil, AllPairs-with, AllBetween, AllBetween-of, All-flat_map}
use Rattle.reading_texts.proofs.LabelSets.{KeyAndValue, in-cases, in-first}
use Rattle.reading_texts.proofs.ReadHists.{AreRead, HaveTwoNames, HasValuesIfSparse, two_names}
use Rattle.reading_texts.proofs.RowLabels.{is_row_key, EndsTell, HasLabelsOf, IsOfLine, all-of_line, ends_tell, naming, name-of_series, text_of_name-is}
use Rattle.reading_texts.proofs.RowSeries.{AreApart, units_lines, units-once, units-labels, values-once, values-labels}

-- ---- names of metrics

-- a name that begins with the prefix, an underscore and two other bytes
record BeginsSo (prefix : List ℕ) (first second : ℕ) (sample : MetricSample) : Type 0 where
  rest : List ℕ
  is : sample.metric ≡ prefix ++ 95 ∷ first ∷ second ∷ rest

-- two names that begin with different bytes are apart
begin-apart : (prefix : List ℕ) (a b c d : ℕ) (u v : MetricSample) → (a ≡ c → b ≡ d → ⊥) → BeginsSo prefix a b u → BeginsSo prefix c d v → AreApart u v
begin-apart prefix a b c d u v differ of_u of_v one =
    let same : 95 ∷ a ∷ b ∷ of_u.rest ≡ 95 ∷ c ∷ d ∷ of_v.rest =
    append_cancel_left prefix (95 ∷ a ∷ b ∷ of_u.rest) (95 ∷ c ∷ d ∷ of_v.rest) (sym of_u.is ∙ one.metric ∙ of_v.is) in
    differ (ap (λ text. get_or text 1 0) same) (ap (λ text. get_or text 2 0) same)

-- ---- the lines of one histogram

hist-tells : (line_labels : List KeyAndValue) (hist : Histogram) → All IsOfLine line_labels → EndsTell (labels_of line_labels hist)
hist-tells line_labels hist line =
    let name = text_of_name hist.name in
    ends_tell (naming line_labels name ∷ []) line_labels name
    (All-cons (λ l. is_row_key l.0 ≡ false) (naming line_labels name) [] refl (λ k d h. absurd (omega (arith, h)))) line

ranged-step : (name : List ℕ) (line_labels : List KeyAndValue) (hist : Histogram) (sparse : Bool) → is_sparse hist.spec ≡ sparse → IsReadable hist
    → All IsOfLine line_labels → HasEachSeriesOnce (if sparse then [] else units_lines name (labels_of line_labels hist) hist)
ranged-step name line_labels hist true e readable line = AllPairs-nil AreApart
ranged-step name line_labels hist false e readable line = units-once name (labels_of line_labels hist) hist readable e (hist-tells line_labels hist line)

sparse-step : (name : List ℕ) (line_labels : List KeyAndValue) (hist : Histogram) (sparse : Bool) → is_sparse hist.spec ≡ sparse
    → HasValuesIfSparse hist → All IsOfLine line_labels
    → HasEachSeriesOnce (if sparse then map (value_sample name (labels_of line_labels hist)) (rows_of hist) else [])
sparse-step name line_labels hist true e values line = values-once name (labels_of line_labels hist) hist (values e) (hist-tells line_labels hist line)
sparse-step name line_labels hist false e values line = AllPairs-nil AreApart

-- what holds of all lines also holds of none of them
of-either : (P : MetricSample → Type 0) (some : Bool) (lines : List MetricSample) → All P lines → All P (if some then [] else lines) × All P (if some then lines else [])
of-either P true lines all = ((λ k d h. absurd (omega (arith, h))), all)
of-either P false lines all = (all, (λ k d h. absurd (omega (arith, h))))

ranged-labels : (name : List ℕ) (line_labels : List KeyAndValue) (hist : Histogram)
    → All (HasLabelsOf (labels_of line_labels hist)) (ranged_samples name line_labels hist)
ranged-labels name line_labels hist =
    (of-either (HasLabelsOf (labels_of line_labels hist)) (is_sparse hist.spec) (units_lines name (labels_of line_labels hist) hist)
    (units-labels name (labels_of line_labels hist) hist)).0

sparse-labels : (name : List ℕ) (line_labels : List KeyAndValue) (hist : Histogram)
    → All (HasLabelsOf (labels_of line_labels hist)) (sparse_samples name line_labels hist)
sparse-labels name line_labels hist =
    (of-either (HasLabelsOf (labels_of line_labels hist)) (is_sparse hist.spec) (map (value_sample name (labels_of line_labels hist)) (rows_of hist))
    (values-labels name (labels_of line_labels hist) hist)).1

-- ---- the lines of two

-- lines of histograms of two names
two-hists : (line_labels : List KeyAndValue) (a b : Histogram) (u v : MetricSample) → All IsOfLine line_labels → is_name a.name ≡ true → is_name b.name ≡ true
    → HaveTwoNames a b → HasLabelsOf (labels_of line_labels a) u → HasLabelsOf (labels_of line_labels b) v → AreApart u v
two-hists line_labels a b u v line name_a name_b differ of_u of_v one =
    let texts : text_of_name a.name ≡ text_of_name b.name =
    name-of_series line_labels (text_of_name a.name) (text_of_name b.name) u v line of_u of_v one in
    two_names a b differ (sym (text_of_name-is a.name name_a) ∙ texts ∙ text_of_name-is b.name name_b)

-- so the lines of all are apart, if those of each are
all-once : (line_labels : List KeyAndValue) (samples : Histogram → List MetricSample) (hists : List Histogram) → All IsOfLine line_labels → AreRead hists
    → ((hist : Histogram) → All (HasLabelsOf (labels_of line_labels hist)) (samples hist)) → All (λ hist. HasEachSeriesOnce (samples hist)) hists
    → HasEachSeriesOnce (flat_map samples hists)
all-once line_labels samples hists line read labels own =
    AllPairs-flat_map AreApart samples hists own
    (AllPairs-with (λ hist. is_name hist.name ≡ true) HaveTwoNames (λ a b. AllBetween AreApart (samples a) (samples b)) hists
    (λ a b name_a name_b differ.
    AllBetween-of (HasLabelsOf (labels_of line_labels a)) (HasLabelsOf (labels_of line_labels b)) AreApart (samples a) (samples b)
    (λ u v of_u of_v. two-hists line_labels a b u v line name_a name_b differ of_u of_v) (labels a) (labels b))
    read.names read.differ)

-- ---- the names of their metrics

units-begin : (prefix : List ℕ) (labels : List KeyAndValue) (hist : Histogram) → All (BeginsSo prefix 117 110) (units_lines (prefix ++ codes "_units") labels hist)
units-begin prefix labels hist =
    let name = prefix ++ codes "_units" in
    let P = BeginsSo prefix 117 110 in
    let infinite = infinite_sample name labels hist in
    let sum = total_sample (name ++ codes "_sum") labels (signed_decimal hist.sum) in
    let count = total_sample (name ++ codes "_count") labels (decimal (units_of hist)) in
    All-append P (map (bucket_sample name labels) (rows_of hist)) (total_samples name labels hist)
    (All-map P (bucket_sample name labels) (rows_of hist) (λ k d h. record { rest = codes "its_bucket"; is = append_assoc prefix (codes "_units") (codes "_bucket") }))
    (All-cons P infinite (sum ∷ count ∷ []) (record { rest = codes "its_bucket"; is = append_assoc prefix (codes "_units") (codes "_bucket") })
    (All-cons P sum (count ∷ []) (record { rest = codes "its_sum"; is = append_assoc prefix (codes "_units") (codes "_sum") })
    (All-cons P count [] (record { rest = codes "its_count"; is = append_assoc prefix (codes "_units") (codes "_count") })
    (λ k d h. absurd (omega (arith, h))))))

ranged-begin : (prefix : List ℕ) (line_labels : List KeyAndValue) (hist : Histogram)
    → All (BeginsSo prefix 117 110) (ranged_samples (prefix ++ codes "_units") line_labels hist)
ranged-begin prefix line_labels hist =
    (of-either (BeginsSo prefix 117 110) (is_sparse hist.spec) (units_lines (prefix ++ codes "_units") (labels_of line_labels hist) hist)
    (units-begin prefix (labels_of line_labels hist) hist)).0

sparse-begin : (prefix : List ℕ) (line_labels : List KeyAndValue) (hist : Histogram)
    → All (BeginsSo prefix 115 112) (sparse_samples (prefix ++ codes "_sparse_total") line_labels hist)
sparse-begin prefix line_labels hist =
    let name = prefix ++ codes "_sparse_total" in
    let P = BeginsSo prefix 115 112 in
    (of-either P (is_sparse hist.spec) (map (value_sample name (labels_of line_labels hist)) (rows_of hist))
    (All-map P (value_sample name (labels_of line_labels hist)) (rows_of hist) (λ k d h. record { rest = codes "arse_total"; is = refl }))).1

-- ---- the flags

-- a flag's label is not that of another
flags-apart : (name : List ℕ) (line_labels : List KeyAndValue) (corrupt full : Bool) → All IsOfLine line_labels
    → AreApart (flag_sample name line_labels (codes "corrupt") corrupt) (flag_sample name line_labels (codes "full") full)
flags-apart name line_labels corrupt full line one =
    let mine : KeyAndValue = (codes "flag", codes "corrupt") in
    ⊎_elim (λ is. let at = ap (λ (l : KeyAndValue). get_or l.1 0 0) is in omega (arith, at))
    (λ late. let no : bytes_eq (codes "flag") (codes "flag") ≡ false = (All-contains IsOfLine line_labels mine line late).flag in absurd (cc))
    (in-cases (codes "flag", codes "full") mine line_labels ((one.labels mine).0 (in-first mine line_labels)))

-- the lines of the segment
abbrev pub segment_lines : List ℕ → List KeyAndValue → Reading → List MetricSample
segment_lines prefix line_labels reading =
    total_sample (prefix ++ codes "_bad_records") line_labels (decimal (bad_records reading))
    ∷ flag_sample (prefix ++ codes "_segment_flag") line_labels (codes "corrupt") reading.corrupt
    ∷ flag_sample (prefix ++ codes "_segment_flag") line_labels (codes "full") reading.full ∷ []

pub segment-once : (prefix : List ℕ) (line_labels : List KeyAndValue) (reading : Reading) → All IsOfLine line_labels
    → HasEachSeriesOnce (segment_lines prefix line_labels reading)
segment-once prefix line_labels reading line =
    let bad = total_sample (prefix ++ codes "_bad_records") line_labels (decimal (bad_records reading)) in
    let first = flag_sample (prefix ++ codes "_segment_flag") line_labels (codes "corrupt") reading.corrupt in
    let second = flag_sample (prefix ++ codes "_segment_flag") line_labels (codes "full") reading.full in
    let of_bad : BeginsSo prefix 98 97 bad = record { rest = codes "d_records"; is = refl } in
    let of_first : BeginsSo prefix 115 101 first = record { rest = codes "gment_flag"; is = refl } in
    let of_second : BeginsSo prefix 115 101 second = record { rest = codes "gment_flag"; is = refl } in
    AllPairs-cons AreApart bad (first ∷ second ∷ [])
    (All-cons (AreApart bad) first (second ∷ []) (begin-apart prefix 98 97 115 101 bad first (λ e f. omega (arith, e)) of_bad of_first)
    (All-cons (AreApart bad) second [] (begin-apart prefix 98 97 115 101 bad second (λ e f. omega (arith, e)) of_bad of_second)
    (λ k d h. absurd (omega (arith, h)))))
    (AllPairs-cons AreApart first (second ∷ [])
    (All-cons (AreApart first) second [] (flags-apart (prefix ++ codes "_segment_flag") line_labels reading.corrupt reading.full line) (λ k d h. absurd (omega (arith, h))))
    (AllPairs-cons AreApart second [] (λ k d h. absurd (omega (arith, h))) (AllPairs-nil AreApart)))

-- what begins with other bytes than the metrics of the segment is apart from these
segment-apart : (prefix : List ℕ) (line_labels : List KeyAndValue) (reading : Reading) (a b : ℕ) (u : MetricSample) → (a ≡ 98 → b ≡ 97 → ⊥)
    → (a ≡ 115 → b ≡ 101 → ⊥) → BeginsSo prefix a b u → All (AreApart u) (segment_lines prefix line_labels reading)
segment-apart prefix line_labels reading a b u no_bad no_flag of_u =
    let bad = total_sample (prefix ++ codes "_bad_records") line_labels (decimal (bad_records reading)) in
    let first = flag_sample (prefix ++ codes "_segment_flag") line_labels (codes "corrupt") reading.corrupt in
    let second = flag_sample (prefix ++ codes "_segment_flag") line_labels (codes "full") reading.full in
    All-cons (AreApart u) bad (first ∷ second ∷ []) (begin-apart prefix a b 98 97 u bad no_bad of_u (record { rest = codes "d_records"; is = refl }))
    (All-cons (AreApart u) first (second ∷ []) (begin-apart prefix a b 115 101 u first no_flag of_u (record { rest = codes "gment_flag"; is = refl }))
    (All-cons (AreApart u) second [] (begin-apart prefix a b 115 101 u second no_flag of_u (record { rest = codes "gment_flag"; is = refl }))
    (λ k d h. absurd (omega (arith, h)))))

-- ---- all lines

pub export-once : (prefix : List ℕ) (line_labels : List KeyAndValue) (hists : List Histogram) (reading : Reading) → are_line_labels line_labels ≡ true
    → AreRead hists → All IsReadable hists → HasEachSeriesOnce (all_samples (families_of prefix line_labels hists reading))
export-once prefix line_labels hists reading lawful read readable =
    let line : All IsOfLine line_labels = all-of_line line_labels lawful in
    let units : List MetricSample = flat_map (ranged_samples (prefix ++ codes "_units") line_labels) hists in
    let values : List MetricSample = flat_map (sparse_samples (prefix ++ codes "_sparse_total") line_labels) hists in
    let segment : List MetricSample = segment_lines prefix line_labels reading in
    let first : HasEachSeriesOnce units =
    all-once line_labels (ranged_samples (prefix ++ codes "_units") line_labels) hists line read (ranged-labels (prefix ++ codes "_units") line_labels)
    (λ k d h. ranged-step (prefix ++ codes "_units") line_labels (get_or hists k d) (is_sparse (get_or hists k d).spec) refl (readable k d h) line) in
    let second : HasEachSeriesOnce values =
    all-once line_labels (sparse_samples (prefix ++ codes "_sparse_total") line_labels) hists line read (sparse-labels (prefix ++ codes "_sparse_total") line_labels)
    (λ k d h. sparse-step (prefix ++ codes "_sparse_total") line_labels (get_or hists k d) (is_sparse (get_or hists k d).spec) refl (read.values k d h) line) in
    let of_units : All (BeginsSo prefix 117 110) units =
    All-flat_map (BeginsSo prefix 117 110) (ranged_samples (prefix ++ codes "_units") line_labels) hists (λ k d h. ranged-begin prefix line_labels (get_or hists k d)) in
    let of_values : All (BeginsSo prefix 115 112) values =
    All-flat_map (BeginsSo prefix 115 112) (sparse_samples (prefix ++ codes "_sparse_total") line_labels) hists (λ k d h. sparse-begin prefix line_labels (get_or hists k d)) in
    let behind : HasEachSeriesOnce (values ++ segment) =
    AllPairs-append AreApart values segment second (segment-once prefix line_labels reading line)
    (λ k d h. segment-apart prefix line_labels reading 115 112 (get_or values k d) (λ e f. omega (arith, e)) (λ e f. omega (arith, f)) (of_values k d h)) in
    let between : AllBetween AreApart units (values ++ segment) =
    λ k d h.
    All-append (AreApart (get_or units k d)) values segment
    (λ j e there.
    begin-apart prefix 117 110 115 112 (get_or units k d) (get_or values j e) (λ p q. omega (arith, p)) (of_units k d h) (of_values j e there))
    (segment-apart prefix line_labels reading 117 110 (get_or units k d) (λ e f. omega (arith, e)) (λ e f. omega (arith, e)) (of_units k d h)) in
    AllPairs-append AreApart units (values ++ segment) first behind between
