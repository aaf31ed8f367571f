-- To which series the lines of an export belong. A scrape distinguishes series by the name of a metric and a set of labels.
use Rattle.std.specs.Prelude.{◌≡◌, ◌↔◌, ℕ, List}
use Rattle.std.specs.List.{flat_map, Contains, AllPairs}
use Rattle.reading_texts.specs.Exporting.{MetricSample, MetricFamily, family_text}

-- two samples are of one series: their metrics have one name, and both have the same labels, in whatever order
pub record AreOfOneSeries (a b : MetricSample) : Type 0 where
  pub metric : a.metric ≡ b.metric
  pub labels : (label : List ℕ × List ℕ) → Contains a.labels label ↔ Contains b.labels label

-- no two of these samples are of one series
abbrev pub HasEachSeriesOnce : List MetricSample → Type 0
HasEachSeriesOnce samples = AllPairs (λ a b. ¬ AreOfOneSeries a b) samples

-- the samples of families, one for each line
abbrev pub all_samples : List MetricFamily → List MetricSample
all_samples families = flat_map (λ family. family.samples) families

-- a text is that of families such as these, and no two of its lines are of one series
abbrev pub IsTextOfDistinctSeries : (List MetricFamily → Type 0) → List ℕ → Type 0
IsTextOfDistinctSeries AreFamilies text =
    (families : List MetricFamily) × AreFamilies families × (text ≡ flat_map family_text families) × HasEachSeriesOnce (all_samples families)
