-- The text of a reading for programs that scrape metrics: families of samples in the Prometheus text format, version 0.0.4.
use Rattle.std.specs.Prelude.{◌≡◌, Bool, true, false, if◌then◌else◌, ℕ, ◌+◌, pos, ◌-ℤ◌, List, [], ◌∷◌, ◌++◌, map, length, codes, Option, Some, None}
use Rattle.std.specs.Fmt.{decimal, signed_decimal}
use Rattle.std.specs.List.{flat_map}
use Rattle.segment_image.specs.declared.fault.ImageFault.{ImageFault}
use Rattle.bucket_ranges.specs.declared.spec.Spec.{Spec}
use Rattle.bucket_ranges.specs.declared.spec.Spec.TheVariants.{Linear, Boolean, Custom, Sparse}
use Rattle.bucket_ranges.specs.Reading.{Histogram, Reading}
use Rattle.reading_texts.specs.declared.rows.HistRow.{HistRow}
use Rattle.reading_texts.specs.Rows.{units_of, rows_of, AreSortedByName}
use Rattle.reading_texts.specs.Labels.{named_by, own_labels, text_of_name, quoted}

-- parts, one after the other
abbrev pub joined : List (List ℕ) → List ℕ
joined parts = flat_map (λ part. part) parts

-- ---- samples and families

-- a sample: the name of its metric, its labels, each a key and a value, and its number
pub record MetricSample : Type 0 where
  pub metric : List ℕ
  pub labels : List (List ℕ × List ℕ)
  pub number : List ℕ

-- a family of metrics: its name, what it counts, its type, and its samples
pub record MetricFamily : Type 0 where
  pub name : List ℕ
  pub help : List ℕ
  pub kind : List ℕ
  pub samples : List MetricSample

-- ---- their text

-- a label
abbrev pub label_text : List ℕ × List ℕ → List ℕ
label_text label = joined (label.0 ∷ codes "=\"" ∷ quoted label.1 ∷ codes "\"" ∷ [])

-- a label after another
abbrev pub next_label_text : List ℕ × List ℕ → List ℕ
next_label_text label = codes "," ++ label_text label

-- labels with commas between them
abbrev pub inner_text : List (List ℕ × List ℕ) → List ℕ
inner_text [] = []
inner_text (label ∷ more) = label_text label ++ flat_map next_label_text more

-- labels in braces; nothing if there are none
abbrev pub labels_text : List (List ℕ × List ℕ) → List ℕ
labels_text [] = []
labels_text (label ∷ more) = joined (codes "{" ∷ inner_text (label ∷ more) ∷ codes "}" ∷ [])

-- the line of a sample
abbrev pub sample_text : MetricSample → List ℕ
sample_text sample = joined (sample.metric ∷ labels_text sample.labels ∷ codes " " ∷ sample.number ∷ codes "\n" ∷ [])

-- the lines before the samples of a family: what it counts, and its type
abbrev pub heading_text : List ℕ → List ℕ → List ℕ → List ℕ
heading_text name help kind =
    joined (codes "# HELP " ∷ name ∷ codes " " ∷ help ∷ codes "\n# TYPE " ∷ name ∷ codes " " ∷ kind ∷ codes "\n" ∷ [])

-- a family: what it counts, its type, and a line for each sample
abbrev pub family_text : MetricFamily → List ℕ
family_text one = heading_text one.name one.help one.kind ++ flat_map sample_text one.samples

-- ---- the samples of a histogram

-- the labels of a histogram: the name that it gets, its own labels, and those of all lines
abbrev pub labels_of : List (List ℕ × List ℕ) → Histogram → List (List ℕ × List ℕ)
labels_of line_labels hist =
    (codes "histogram", named_by line_labels (text_of_name hist.name)) ∷ (own_labels line_labels (text_of_name hist.name) ++ line_labels)

-- a bucket: the units up to its greatest value, which is one less than the boundary after it
abbrev pub bucket_sample : List ℕ → List (List ℕ × List ℕ) → HistRow → MetricSample
bucket_sample name labels row = record {
  metric = name ++ codes "_bucket";
  labels = labels ++ (codes "le", signed_decimal (row.high -ℤ pos 1)) ∷ [];
  number = decimal row.up_to;
}

-- all units, as the last bucket
abbrev pub infinite_sample : List ℕ → List (List ℕ × List ℕ) → Histogram → MetricSample
infinite_sample name labels hist = record {
  metric = name ++ codes "_bucket";
  labels = labels ++ (codes "le", codes "+Inf") ∷ [];
  number = decimal (units_of hist);
}

-- a number of a histogram as a whole
abbrev pub total_sample : List ℕ → List (List ℕ × List ℕ) → List ℕ → MetricSample
total_sample name labels number = record { metric = name; labels = labels; number = number }

-- a value of a sparse histogram: its units
abbrev pub value_sample : List ℕ → List (List ℕ × List ℕ) → HistRow → MetricSample
value_sample name labels row = record {
  metric = name;
  labels = labels ++ (codes "value", signed_decimal row.low) ∷ [];
  number = decimal row.units;
}

-- whether a spec is sparse
abbrev pub is_sparse : Spec → Bool
is_sparse Sparse = true
is_sparse (Linear min max n) = false
is_sparse Boolean = false
is_sparse (Custom values) = false

-- all units, the sum and the count, which is the number of all units again
abbrev pub total_samples : List ℕ → List (List ℕ × List ℕ) → Histogram → List MetricSample
total_samples name labels hist =
    infinite_sample name labels hist ∷ total_sample (name ++ codes "_sum") labels (signed_decimal hist.sum)
    ∷ total_sample (name ++ codes "_count") labels (decimal (units_of hist)) ∷ []

-- the samples of a histogram that has ranges: each of its buckets, including those without units, and its totals
abbrev pub ranged_samples : List ℕ → List (List ℕ × List ℕ) → Histogram → List MetricSample
ranged_samples name line_labels hist =
    if is_sparse hist.spec then []
    else (map (bucket_sample name (labels_of line_labels hist)) (rows_of hist) ++ total_samples name (labels_of line_labels hist) hist)

-- the samples of a sparse histogram: each value that has a record
abbrev pub sparse_samples : List ℕ → List (List ℕ × List ℕ) → Histogram → List MetricSample
sparse_samples name line_labels hist =
    if is_sparse hist.spec then map (value_sample name (labels_of line_labels hist)) (rows_of hist) else []

-- ---- the samples of the segment

-- how many records are bad; a list that stops counts as one more
abbrev pub bad_records : Reading → ℕ
bad_records reading = stops reading.stopped + length reading.bad
  where
    stops : Option ImageFault → ℕ
    stops None = 0
    stops (Some fault) = 1

-- the value of a flag: 1 if it is set, else 0
abbrev pub flag_value : Bool → List ℕ
flag_value flag = if flag then codes "1" else codes "0"

-- a flag
abbrev pub flag_sample : List ℕ → List (List ℕ × List ℕ) → List ℕ → Bool → MetricSample
flag_sample name line_labels word flag = record {
  metric = name;
  labels = (codes "flag", word) ∷ line_labels;
  number = flag_value flag;
}

-- ---- the families

-- the histograms that have ranges
abbrev pub units_family : List ℕ → List (List ℕ × List ℕ) → List Histogram → MetricFamily
units_family prefix line_labels hists = record {
  name = prefix ++ codes "_units";
  help = codes "Units of a histogram up to the greatest value of each bucket.";
  kind = codes "histogram";
  samples = flat_map (ranged_samples (prefix ++ codes "_units") line_labels) hists;
}

-- the sparse histograms
abbrev pub sparse_family : List ℕ → List (List ℕ × List ℕ) → List Histogram → MetricFamily
sparse_family prefix line_labels hists = record {
  name = prefix ++ codes "_sparse_total";
  help = codes "Units of each value of a sparse histogram.";
  kind = codes "counter";
  samples = flat_map (sparse_samples (prefix ++ codes "_sparse_total") line_labels) hists;
}

-- the bad records
abbrev pub bad_family : List ℕ → List (List ℕ × List ℕ) → Reading → MetricFamily
bad_family prefix line_labels reading = record {
  name = prefix ++ codes "_bad_records";
  help = codes "Records that could not be read, and one more where their list stops early.";
  kind = codes "gauge";
  samples = total_sample (prefix ++ codes "_bad_records") line_labels (decimal (bad_records reading)) ∷ [];
}

-- the flags
abbrev pub flag_family : List ℕ → List (List ℕ × List ℕ) → Reading → MetricFamily
flag_family prefix line_labels reading = record {
  name = prefix ++ codes "_segment_flag";
  help = codes "Whether a flag of the segment is set.";
  kind = codes "gauge";
  samples = flag_sample (prefix ++ codes "_segment_flag") line_labels (codes "corrupt") reading.corrupt
      ∷ flag_sample (prefix ++ codes "_segment_flag") line_labels (codes "full") reading.full ∷ [];
}

-- the families of a reading, whose histograms are given in the order of the text
abbrev pub families_of : List ℕ → List (List ℕ × List ℕ) → List Histogram → Reading → List MetricFamily
families_of prefix line_labels hists reading =
    units_family prefix line_labels hists ∷ sparse_family prefix line_labels hists ∷ bad_family prefix line_labels reading
    ∷ flag_family prefix line_labels reading ∷ []

-- these are the families of a reading, with this prefix of the names of metrics and these labels on all lines
abbrev pub AreFamiliesOf : List ℕ → List (List ℕ × List ℕ) → Reading → List MetricFamily → Type 0
AreFamiliesOf prefix line_labels reading families =
    (hists : List Histogram) × AreSortedByName hists reading × (families ≡ families_of prefix line_labels hists reading)

-- the text of a reading: that of its families
abbrev pub IsExportOf : List ℕ → List (List ℕ × List ℕ) → Reading → List ℕ → Type 0
IsExportOf prefix line_labels reading text =
    (families : List MetricFamily) × AreFamiliesOf prefix line_labels reading families × (text ≡ flat_map family_text families)
