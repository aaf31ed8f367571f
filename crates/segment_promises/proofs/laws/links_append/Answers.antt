use Rattle.segment_promises.proofs.Links.{links_append}
use Rattle.segment_promises.proofs.laws.links_append.Goals as goal

pub returns : goal.returns
returns c = links_append
