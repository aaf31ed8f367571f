use Rattle.std.proofs.Common.{rules, arith}
use Rattle.segment_machine.specs.Event.{taking_event}
use Rattle.segment_machine.specs.Taking.{raise_mark}
use Rattle.live_segment.proofs.lemmas.Steps.Allowed.{allows_at}
use Rattle.live_segment.proofs.lemmas.Steps.Reported.{stepped}
use Rattle.live_segment.proofs.segment.Segment.raise_mark.Goals as goal

pub fetch_max-requires : goal.fetch_max-requires
fetch_max-requires c = (search rules, search rules, allows_at _ (λ x. taking_event (raise_mark x c.args.least)) c.args.at c.requires.may (omega arith) (λ y e. omega arith))

pub returns : goal.returns
returns c = stepped c.fetch_max.ensures.0 c.fetch_max.ensures.1 (c.fetch_max.ensures.2 c.args.at (omega arith))
