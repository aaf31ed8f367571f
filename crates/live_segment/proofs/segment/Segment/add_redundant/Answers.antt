use Rattle.std.proofs.Common.{rules, arith}
use Rattle.segment_machine.specs.Event.{counting_event}
use Rattle.segment_machine.specs.Counting.{add_redundant}
use Rattle.live_segment.proofs.lemmas.Steps.Allowed.{allows_at}
use Rattle.live_segment.proofs.lemmas.Steps.Reported.{stepped}
use Rattle.live_segment.proofs.segment.Segment.add_redundant.Goals as goal

pub fetch_add-requires : goal.fetch_add-requires
fetch_add-requires c = (search rules, search rules, allows_at _ (λ x. counting_event (add_redundant x c.args.units)) c.args.histogram c.requires.may (omega arith) (λ y e. omega arith))

pub returns : goal.returns
returns c = stepped c.fetch_add.ensures.0 c.fetch_add.ensures.1 (c.fetch_add.ensures.2 c.args.histogram (omega arith))
