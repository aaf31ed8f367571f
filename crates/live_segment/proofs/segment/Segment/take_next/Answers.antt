use Rattle.std.proofs.Common.{rules, arith}
use Rattle.segment_machine.specs.Event.{walking_event}
use Rattle.segment_machine.specs.Walking.{load_next}
use Rattle.live_segment.proofs.lemmas.Steps.GhostNoted.{begins_delta}
use Rattle.live_segment.proofs.lemmas.Steps.Reported.{noted}
use Rattle.live_segment.proofs.segment.Segment.take_next.Goals as goal

pub load-requires : goal.load-requires
load-requires c = (search rules, search rules, begins_delta c.args.self.now _ 3 (λ y. walking_event (load_next y)) c.args.histogram (omega arith) c.requires.may (let e = c.requires.may.1.0 in omega arith))

pub returns : goal.returns
returns c = λ x fits. noted c.load.ensures.0 c.load.ensures.1 (c.load.ensures.2 x (let e = fits.0 in omega arith, fits.1))
