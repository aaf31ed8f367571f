use Rattle.std.proofs.Common.{rules, arith}
use Rattle.segment_machine.specs.Event.{packing_event}
use Rattle.segment_machine.specs.Packing.{purge_block}
use Rattle.live_segment.proofs.lemmas.Steps.Allowed.{allows_at}
use Rattle.live_segment.proofs.lemmas.Steps.Reported.{stepped}
use Rattle.live_segment.proofs.segment.Segment.purge_block.Goals as goal

pub store-requires : goal.store-requires
store-requires c = (search rules, search rules, allows_at _ (λ x. packing_event (purge_block x)) c.args.at c.requires.may (omega arith) (λ y e. omega arith))

pub returns : goal.returns
returns c = stepped c.store.ensures.0 c.store.ensures.1 (c.store.ensures.2 c.args.at (omega arith))
