-- What a reader has gathered along the list of records.
use Rattle.std.specs.Prelude.{◌≡◌, ℕ, List, map, length, get_or, false}
use Rattle.std.specs.List.{filter_map, list_any}
use Rattle.std.specs.Str.{bytes_eq}
use Rattle.segment_image.specs.declared.head.SegmentHead.{SegmentHead}
use Rattle.bucket_ranges.specs.Reading.{read_records, lawful_records, lawful_samples, is_sparse_read, bad_record, with_earlier, name_of}
use Rattle.image_reader.specs.declared.gathering.Gathering.{Gathering}
use Rattle.image_reader.specs.Views.{bad_view}
use Rattle.image_reader.specs.Names.{holds, AreKeys}
use Rattle.image_reader.specs.Samples.{AreSamples, HoldsSamples}
use Rattle.image_reader.specs.Later.{later_samples}

-- what is gathered from these references: which histograms are read, the bad records, the names of the valid histograms,
-- where a sparse histogram is read, the samples, and those samples that are not the first of their histogram and value
pub record IsGathered (words : List ℕ) (head : SegmentHead) (references : List ℕ) (gathering : Gathering) : Type 0 where
  pub hists_are : gathering.hists.items ≡ read_records words head references
  pub bad_are : map bad_view gathering.bad.items ≡ filter_map (bad_record words head) (with_earlier references)
  pub names_are : (name : List ℕ) → holds gathering.names name
      ≡ list_any (λ reference. bytes_eq name (name_of words reference)) (lawful_records words head references)
  pub sparse_are : (reference : ℕ) → get_or gathering.sparse.items reference false ≡ is_sparse_read words head references reference
  pub samples_are : HoldsSamples words (lawful_samples words head references) gathering.samples
  pub later_are : gathering.later.items ≡ later_samples words head references

-- what holds of a gathering at every step
pub record IsGatheringOf (words : List ℕ) (gathering : Gathering) : Type 0 where
  pub keys : AreKeys gathering.names
  pub samples : AreSamples gathering.samples
  pub long : length gathering.sparse.items ≡ length words
