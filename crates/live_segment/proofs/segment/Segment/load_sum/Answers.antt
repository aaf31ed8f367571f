use Rattle.std.proofs.Common.{rules, arith}
use Rattle.live_segment.proofs.lemmas.List.SamplesBehind.{loads_sum}
use Rattle.live_segment.proofs.lemmas.Steps.Reported.{stepped}
use Rattle.live_segment.proofs.segment.Segment.load_sum.Goals as goal

pub load-requires : goal.load-requires
load-requires c = (
  search rules,
  search rules,
  loads_sum c.args.self.now.table.shared.key _ _ _ _ c.requires.may.recorder c.args.histogram (omega arith) c.requires.may.ready,
)

pub returns-clause-step : goal.returns-clause-step
returns-clause-step c = stepped c.load.ensures.0 c.load.ensures.1 (c.load.ensures.2.0 c.args.histogram (omega arith))

pub returns-clause-behind : goal.returns-clause-behind
returns-clause-behind c = c.load.ensures.2.1

pub returns-clause-once : goal.returns-clause-once
returns-clause-once c = c.load.ensures.2.2
