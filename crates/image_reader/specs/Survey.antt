-- What is known of a list, without the counts of its histograms.
use Rattle.std.specs.Prelude.{◌≡◌, ℕ, List, map, length}
use Rattle.std.specs.List.{filter_map}
use Rattle.segment_image.specs.declared.head.SegmentHead.{SegmentHead}
use Rattle.bucket_ranges.specs.Reading.{Histogram, IsListed, bad_record, histogram_of, lawful_samples, read_records, stop_of, with_earlier}
use Rattle.image_reader.specs.declared.survey.Survey.{Survey}
use Rattle.image_reader.specs.Later.{later_samples}
use Rattle.image_reader.specs.Samples.{AreSamples, HoldsSamples}
use Rattle.image_reader.specs.Views.{bad_view}

-- the list of the words, why it stops, which of its histograms are read, which of its records are bad, and its samples
pub record IsSurvey (words : List ℕ) (head : SegmentHead) (survey : Survey) : Type 0 where
  pub listed : IsListed words head survey.references.items
  pub stopped_is : survey.stopped ≡ stop_of words head survey.references.items
  pub hists_are : survey.hists.items ≡ read_records words head survey.references.items
  pub later_are : survey.later.items ≡ later_samples words head survey.references.items
  pub bad_are : map bad_view survey.bad.items ≡ filter_map (bad_record words head) (with_earlier survey.references.items)
  pub samples_are : HoldsSamples words (lawful_samples words head survey.references.items) survey.samples
  pub ordered : AreSamples survey.samples

-- the histogram of a record, with the samples of a list
abbrev pub hist_at : List ℕ → SegmentHead → List ℕ → ℕ → Histogram
hist_at words head references at = histogram_of head.version words (lawful_samples words head references) at

-- how many keys it has
abbrev pub keys_at : List ℕ → SegmentHead → List ℕ → ℕ → ℕ
keys_at words head references at = length (hist_at words head references at).counts
