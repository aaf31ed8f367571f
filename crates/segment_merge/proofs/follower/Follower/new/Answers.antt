use Rattle.segment_merge.proofs.Fallen.{none_in_order}
use Rattle.segment_merge.proofs.follower.Follower.new.Goals as goal

pub returns-clause-order : goal.returns-clause-order
returns-clause-order c = none_in_order c.new.result.items c.new.ensures.items
