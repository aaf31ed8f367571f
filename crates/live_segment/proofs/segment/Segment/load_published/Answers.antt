use Rattle.std.proofs.Common.{rules, arith}
use Rattle.live_segment.proofs.lemmas.Steps.Listed.{loads_published}
use Rattle.live_segment.proofs.lemmas.Steps.Reported.{stepped}
use Rattle.live_segment.proofs.segment.Segment.load_published.Goals as goal

pub load-requires : goal.load-requires
load-requires c = (
  search rules,
  search rules,
  loads_published c.args.self.now.table.shared.key _ _ _ _ c.requires.may.recorder c.args.at c.args.index (omega arith) c.requires.may.ready,
)

pub returns : goal.returns
returns c = stepped c.load.ensures.0 c.load.ensures.1 (c.load.ensures.2 c.args.at c.args.index (omega arith) c.requires.may.ready)
