use Rattle.bucket_ranges.proofs.Named.{custom-boundaries}
use Rattle.bucket_ranges.proofs.reading.inner_ranges_are_boundaries.Goals as goal

pub returns : goal.returns
returns c = custom-boundaries
