use Rattle.bucket_ranges.proofs.Distinct.{distinct-are, distinct-unique}
use Rattle.bucket_ranges.proofs.Customs.{custom_boundaries-of_ascending}
use Rattle.bucket_ranges.proofs.custom.distinct_values_stand_once.Goals as goal

pub returns : goal.returns
returns c = record {
  stand = distinct-are;
  only = distinct-unique;
  in_order = custom_boundaries-of_ascending;
}
