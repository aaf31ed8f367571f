use Rattle.std.proofs.Common.{rules, arith}
use Rattle.segment_machine.specs.Event.{packing_event}
use Rattle.segment_machine.specs.Packing.{load_single}
use Rattle.live_segment.proofs.lemmas.Steps.Allowed.{allows_at}
use Rattle.live_segment.proofs.lemmas.Steps.Reported.{stepped}
use Rattle.live_segment.proofs.segment.Segment.load_single.Goals as goal

pub load-requires : goal.load-requires
load-requires c = (search rules, search rules, allows_at _ (λ x. packing_event (load_single x)) c.args.histogram c.requires.may (omega arith) (λ y e. omega arith))

pub returns : goal.returns
returns c = stepped c.load.ensures.0 c.load.ensures.1 (c.load.ensures.2 c.args.histogram (omega arith))
