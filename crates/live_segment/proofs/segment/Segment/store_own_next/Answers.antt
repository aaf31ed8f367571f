use Rattle.std.proofs.Common.{rules, arith}
use Rattle.segment_machine.specs.Event.{publishing_event}
use Rattle.segment_machine.specs.Publishing.{store_own_next}
use Rattle.live_segment.proofs.lemmas.Steps.Allowed.{allows_at}
use Rattle.live_segment.proofs.lemmas.Steps.Reported.{stepped}
use Rattle.live_segment.proofs.segment.Segment.store_own_next.Goals as goal

pub store-requires : goal.store-requires
store-requires c = (search rules, search rules, allows_at _ (λ x. publishing_event (store_own_next x)) c.args.at c.requires.may (omega arith) (λ y e. omega arith))

pub returns : goal.returns
returns c = stepped c.store.ensures.0 c.store.ensures.1 (c.store.ensures.2 c.args.at (omega arith))
