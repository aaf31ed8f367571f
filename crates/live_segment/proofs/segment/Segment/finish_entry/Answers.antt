use Rattle.std.proofs.Common.{rules, arith}
use Rattle.segment_machine.specs.Event.{counting_event}
use Rattle.segment_machine.specs.Counting.{add_redundant}
use Rattle.live_segment.proofs.lemmas.Steps.GhostNoted.{tells_at}
use Rattle.live_segment.proofs.lemmas.Steps.Reported.{noted}
use Rattle.live_segment.proofs.segment.Segment.finish_entry.Goals as goal

pub fetch_add-requires : goal.fetch_add-requires
fetch_add-requires c =
    (search rules, search rules, tells_at c.args.self.now _ 13 (λ y. counting_event (add_redundant y c.args.units)) c.args.histogram (omega arith) c.requires.may (omega arith))

pub returns : goal.returns
returns c = noted c.fetch_add.ensures.0 c.fetch_add.ensures.1 (c.fetch_add.ensures.2 c.args.histogram (omega arith))
