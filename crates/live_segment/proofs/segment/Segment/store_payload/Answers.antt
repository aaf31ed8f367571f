use Rattle.std.proofs.Common.{rules, arith}
use Rattle.live_segment.proofs.lemmas.Steps.Listed.{stores_payload}
use Rattle.live_segment.proofs.lemmas.Steps.Reported.{stepped}
use Rattle.live_segment.proofs.segment.Segment.store_payload.Goals as goal

pub store-requires : goal.store-requires
store-requires c = (
  search rules,
  search rules,
  stores_payload c.args.self.now.table.shared.key _ _ _ _ c.requires.may.recorder c.args.at c.args.index c.args.value (omega arith) c.requires.may.ready,
)

pub returns-clause-stepped : goal.returns-clause-stepped
returns-clause-stepped c =
    stepped c.store.ensures.0 c.store.ensures.1 (c.store.ensures.2 c.args.at c.args.index (omega arith) c.requires.may.ready).0

pub returns-clause-apart : goal.returns-clause-apart
returns-clause-apart c = (c.store.ensures.2 c.args.at c.args.index (omega arith) c.requires.may.ready).1
