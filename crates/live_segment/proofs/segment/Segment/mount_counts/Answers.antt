use Rattle.std.proofs.Common.{rules, arith}
use Rattle.segment_machine.specs.Event.{packing_event}
use Rattle.segment_machine.specs.Packing.{mount_counts}
use Rattle.live_segment.proofs.lemmas.Steps.Allowed.{allows_at}
use Rattle.live_segment.proofs.lemmas.Steps.Reported.{stepped}
use Rattle.live_segment.proofs.segment.Segment.mount_counts.Goals as goal

pub compare_exchange-requires : goal.compare_exchange-requires
compare_exchange-requires c = (search rules, search rules, allows_at _ (λ x. packing_event (mount_counts x c.args.at)) c.args.histogram c.requires.may (omega arith) (λ y e. omega arith))

pub returns : goal.returns
returns c = stepped c.compare_exchange.ensures.0 c.compare_exchange.ensures.1 (c.compare_exchange.ensures.2 c.args.histogram (omega arith))
