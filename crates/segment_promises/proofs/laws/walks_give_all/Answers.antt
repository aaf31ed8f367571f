use Rattle.segment_promises.proofs.Lists.{walks_give_all}
use Rattle.segment_promises.proofs.laws.walks_give_all.Goals as goal

pub returns : goal.returns
returns c = walks_give_all
