use Rattle.bucket_ranges.proofs.Walks.{listed_agree}
use Rattle.bucket_ranges.proofs.reading.one_list.Goals as goal

pub returns : goal.returns
returns c = listed_agree
