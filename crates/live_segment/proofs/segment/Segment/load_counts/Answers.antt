use Rattle.std.proofs.Common.{rules, arith}
use Rattle.live_segment.proofs.lemmas.Add.Mounted.{loads_counts}
use Rattle.live_segment.proofs.lemmas.Steps.Reported.{stepped}
use Rattle.live_segment.proofs.segment.Segment.load_counts.Goals as goal

pub load-requires : goal.load-requires
load-requires c = (
  search rules,
  search rules,
  loads_counts c.args.self.now.table.shared.key _ _ _ _ c.requires.may.recorder c.args.histogram (omega arith) c.requires.may.ready,
)

pub returns-clause-step : goal.returns-clause-step
returns-clause-step c = stepped c.load.ensures.0 c.load.ensures.1 ((c.load.ensures.2 c.args.histogram (omega arith)).0)

pub returns-clause-seen : goal.returns-clause-seen
returns-clause-seen c = (c.load.ensures.2 c.args.histogram (omega arith)).1
