use Rattle.std.proofs.Common.{rules, arith}
use Rattle.segment_machine.specs.Event.{taking_event}
use Rattle.segment_machine.specs.Taking.{load_count}
use Rattle.live_segment.proofs.lemmas.Steps.Allowed.{allows_at}
use Rattle.live_segment.proofs.lemmas.Steps.Reported.{stepped}
use Rattle.live_segment.proofs.segment.Segment.load_count.Goals as goal

pub load-requires : goal.load-requires
load-requires c = (search rules, search rules, allows_at _ (λ x. taking_event (load_count x)) c.args.at c.requires.may (omega arith) (λ y e. omega arith))

pub returns : goal.returns
returns c = stepped c.load.ensures.0 c.load.ensures.1 (c.load.ensures.2 c.args.at (omega arith))
