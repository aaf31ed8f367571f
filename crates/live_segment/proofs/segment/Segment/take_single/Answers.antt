use Rattle.std.proofs.Common.{rules, arith}
use Rattle.segment_machine.specs.Event.{packing_event}
use Rattle.segment_machine.specs.Packing.{load_single}
use Rattle.live_segment.proofs.lemmas.Steps.GhostNoted.{begins_delta}
use Rattle.live_segment.proofs.lemmas.Steps.Reported.{noted}
use Rattle.live_segment.proofs.segment.Segment.take_single.Goals as goal

pub load-requires : goal.load-requires
load-requires c = (search rules, search rules, begins_delta c.args.self.now _ 9 (λ y. packing_event (load_single y)) c.args.histogram (omega arith) c.requires.may (let e = c.requires.may.1.0 in omega arith))

pub returns : goal.returns
returns c = λ x fits. noted c.load.ensures.0 c.load.ensures.1 (c.load.ensures.2 x (let e = fits.0 in omega arith, fits.1))
