-- An export that has a family for each histogram, named after it, and which histograms cannot both be families.
use Rattle.std.specs.Prelude.{◌≡◌, Bool, not, ◌||◌, ◌&&◌, if◌then◌else◌, ℕ, List, [], ◌∷◌, ◌++◌, map, codes, Option, Some, None}
use Rattle.std.specs.Fmt.{signed_decimal}
use Rattle.std.specs.List.{flat_map, filter}
use Rattle.std.specs.Str.{bytes_eq}
use Rattle.bucket_ranges.specs.Reading.{Histogram, Reading, first_of_each}
use Rattle.reading_texts.specs.Rows.{rows_of, AreSortedByName}
use Rattle.reading_texts.specs.Text.{kind_word}
use Rattle.reading_texts.specs.Labels.{is_later_byte, named_by, own_labels, text_of_name}
use Rattle.reading_texts.specs.Exporting.{MetricFamily, MetricSample, joined, label_text, bucket_sample, total_sample, total_samples, value_sample, is_sparse, bad_family, flag_family, family_text}

-- ---- names of families

-- what a byte of a name becomes in the name of a family: an underscore for all but ASCII letters and digits
abbrev pub family_byte : ℕ → ℕ
family_byte byte = if is_later_byte byte then byte else 95

-- the family of a histogram, without the prefix: its name without its labels, made a valid one
abbrev pub family_of : List (List ℕ × List ℕ) → Histogram → List ℕ
family_of line_labels hist = map family_byte (named_by line_labels (text_of_name hist.name))

-- the labels of its lines: its own, and those of all lines
abbrev pub labels_in_family : List (List ℕ × List ℕ) → Histogram → List (List ℕ × List ℕ)
labels_in_family line_labels hist = own_labels line_labels (text_of_name hist.name) ++ line_labels

-- a label followed by a comma
abbrev pub led_label_text : List ℕ × List ℕ → List ℕ
led_label_text label = label_text label ++ codes ","

-- a histogram with the name of its family and the text of its labels, each followed by a comma
pub record FamilyMember : Type 0 where
  pub hist : Histogram
  pub family : List ℕ
  pub labels : List ℕ

-- a histogram as a member of its family
abbrev pub member_of : List (List ℕ × List ℕ) → Histogram → FamilyMember
member_of line_labels hist = record {
  hist = hist;
  family = family_of line_labels hist;
  labels = flat_map led_label_text (labels_in_family line_labels hist);
}

-- ---- which histograms cannot both be families

-- whether two histograms are of one family
abbrev pub same_family : FamilyMember → FamilyMember → Bool
same_family a b = bytes_eq a.family b.family

-- whether they are of one kind
abbrev pub same_kind : FamilyMember → FamilyMember → Bool
same_kind a b = bytes_eq (kind_word a.hist.spec) (kind_word b.hist.spec)

-- whether the name of a family is that of another, followed by `_bucket`, `_sum` or `_count`
abbrev pub is_part_of : List ℕ → List ℕ → Bool
is_part_of family other =
    bytes_eq family (other ++ codes "_bucket") || bytes_eq family (other ++ codes "_sum") || bytes_eq family (other ++ codes "_count")

-- whether two histograms clash: they are of one family, and of two kinds or with the same labels; or a metric of one has the
-- name of the other's family
abbrev pub clashes : FamilyMember → FamilyMember → Bool
clashes a b =
    (same_family a b && (not (same_kind a b) || bytes_eq a.labels b.labels)) || is_part_of a.family b.family || is_part_of b.family a.family

-- whether a family is one of the segment itself
abbrev pub is_of_segment : List ℕ → Bool
is_of_segment family = bytes_eq family (codes "bad_records") || bytes_eq family (codes "segment_flag")

-- the first of these with which one clashes: both names
abbrev pub clash_among : FamilyMember → List FamilyMember → Option (List ℕ × List ℕ)
clash_among one [] = None
clash_among one (other ∷ more) = if clashes one other then Some (one.hist.name, other.hist.name) else clash_among one more

-- with what a histogram clashes: with a family of the segment, or with one of these
abbrev pub clash_of : FamilyMember → List FamilyMember → Option (List ℕ × List ℕ)
clash_of one more = if is_of_segment one.family then Some (one.hist.name, one.family) else clash_among one more

-- the first of two, if there is one
abbrev pub or_else : {X : Type 0} → Option X → Option X → Option X
or_else None other = other
or_else (Some one) other = Some one

-- the first that clashes with a family of the segment or with a later one: its name, and that of the other
abbrev pub first_clash : List FamilyMember → Option (List ℕ × List ℕ)
first_clash [] = None
first_clash (one ∷ more) = or_else (clash_of one more) (first_clash more)

-- ---- the families

-- the name of a family's metrics
abbrev pub metric_of : List ℕ → FamilyMember → List ℕ
metric_of prefix one = joined (prefix ∷ codes "_" ∷ one.family ∷ [])

-- the buckets and the totals of a histogram that has ranges; none for a sparse one
abbrev pub units_in_family : List ℕ → List (List ℕ × List ℕ) → FamilyMember → List MetricSample
units_in_family name line_labels member =
    if is_sparse member.hist.spec then []
    else (map (bucket_sample name (labels_in_family line_labels member.hist)) (rows_of member.hist)
    ++ total_samples name (labels_in_family line_labels member.hist) member.hist)

-- the values of a sparse histogram that have a record
abbrev pub values_in_family : List ℕ → List (List ℕ × List ℕ) → FamilyMember → List MetricSample
values_in_family name line_labels member = map (value_sample name (labels_in_family line_labels member.hist)) (rows_of member.hist)

-- the sum of a sparse histogram
abbrev pub sum_in_family : List ℕ → List (List ℕ × List ℕ) → FamilyMember → List MetricSample
sum_in_family name line_labels member =
    total_sample name (labels_in_family line_labels member.hist) (signed_decimal member.hist.sum) ∷ []

-- the family of histograms that have ranges and are in one family
abbrev pub ranged_family : List ℕ → List (List ℕ × List ℕ) → List FamilyMember → MetricFamily
ranged_family name line_labels members = record {
  name = name;
  help = codes "Units of a histogram up to the greatest value of each bucket.";
  kind = codes "histogram";
  samples = flat_map (units_in_family name line_labels) members;
}

-- the family of sparse histograms; a sum may fall, so it is in a family of its own
abbrev pub value_family : List ℕ → List (List ℕ × List ℕ) → List FamilyMember → MetricFamily
value_family name line_labels members = record {
  name = name;
  help = codes "Units of each value of a sparse histogram.";
  kind = codes "untyped";
  samples = flat_map (values_in_family name line_labels) members;
}

abbrev pub sum_family : List ℕ → List (List ℕ × List ℕ) → List FamilyMember → MetricFamily
sum_family name line_labels members = record {
  name = name;
  help = codes "Sum of the values of a sparse histogram, which may fall.";
  kind = codes "untyped";
  samples = flat_map (sum_in_family name line_labels) members;
}

-- the family of one of these histograms, with all others in it
abbrev pub families_with : List ℕ → List (List ℕ × List ℕ) → List FamilyMember → FamilyMember → List MetricFamily
families_with prefix line_labels members one =
    if is_sparse one.hist.spec
    then (value_family (metric_of prefix one) line_labels (filter (same_family one) members)
    ∷ sum_family (metric_of prefix one ++ codes "_sum") line_labels (filter (same_family one) members) ∷ [])
    else (ranged_family (metric_of prefix one) line_labels (filter (same_family one) members) ∷ [])

-- the families of histograms, each at the place of its first one, and those of the segment
abbrev pub families_by_name : List ℕ → List (List ℕ × List ℕ) → List FamilyMember → Reading → List MetricFamily
families_by_name prefix line_labels members reading =
    flat_map (families_with prefix line_labels members) (first_of_each same_family members)
    ++ bad_family prefix line_labels reading ∷ flag_family prefix line_labels reading ∷ []

-- these are the families of a reading, with this prefix of the names of metrics and these labels on all lines
abbrev pub AreFamiliesByName : List ℕ → List (List ℕ × List ℕ) → Reading → List MetricFamily → Type 0
AreFamiliesByName prefix line_labels reading families =
    (hists : List Histogram) × AreSortedByName hists reading
    × (families ≡ families_by_name prefix line_labels (map (member_of line_labels) hists) reading)

-- the text of a reading, with this prefix of the names of metrics and these labels on all lines: that of its families, if no two clash
pub record IsFamiliesTextOf (prefix : List ℕ) (line_labels : List (List ℕ × List ℕ)) (reading : Reading) (text : List ℕ) : Type 0 where
  pub hists : List Histogram
  pub sorted : AreSortedByName hists reading
  pub none_clashes : first_clash (map (member_of line_labels) hists) ≡ None
  pub is : text ≡ flat_map family_text (families_by_name prefix line_labels (map (member_of line_labels) hists) reading)

-- the first clash of a reading: both names
pub record IsFirstClashOf (line_labels : List (List ℕ × List ℕ)) (reading : Reading) (first second : List ℕ) : Type 0 where
  pub hists : List Histogram
  pub sorted : AreSortedByName hists reading
  pub is : first_clash (map (member_of line_labels) hists) ≡ Some (first, second)
