use Rattle.segment_merge.proofs.InOrder.{words_in_order}
use Rattle.segment_merge.proofs.laws.words_are_in_order.Goals as goal

pub returns : goal.returns
returns c = words_in_order
