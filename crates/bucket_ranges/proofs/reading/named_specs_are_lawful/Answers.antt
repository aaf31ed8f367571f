use Rattle.bucket_ranges.proofs.Named.{named-lawful, named-buckets}
use Rattle.bucket_ranges.proofs.reading.named_specs_are_lawful.Goals as goal

pub returns : goal.returns
returns c = record { lawful = named-lawful; buckets = named-buckets }
