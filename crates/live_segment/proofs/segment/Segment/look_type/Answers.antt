use Rattle.std.proofs.Common.{rules, arith}
use Rattle.segment_machine.specs.Event.{walking_event}
use Rattle.segment_machine.specs.Walking.{load_published}
use Rattle.live_segment.proofs.lemmas.Steps.GhostNoted.{tells_at}
use Rattle.live_segment.proofs.lemmas.Steps.Reported.{noted}
use Rattle.live_segment.proofs.segment.Segment.look_type.Goals as goal

pub load-requires : goal.load-requires
load-requires c = (search rules, search rules, tells_at c.args.self.now _ 2 (λ y. walking_event (load_published y 2)) c.args.histogram (omega arith) c.requires.may (omega arith))

pub returns : goal.returns
returns c = (c.load.result, noted c.load.ensures.0 c.load.ensures.1 (c.load.ensures.2 c.args.histogram (omega arith)))
