use Rattle.std.proofs.Common.{rules, arith}
use Rattle.live_segment.proofs.lemmas.List.FewSamples.{counts_sample}
use Rattle.live_segment.proofs.lemmas.Steps.Reported.{stepped}
use Rattle.live_segment.proofs.segment.Segment.load_count_of_sample.Goals as goal

pub load-requires : goal.load-requires
load-requires c = (search rules, search rules, counts_sample c.args.self.now.table.shared.key _ _ _ _ c.requires.may.recorder c.args.at (omega arith) c.requires.may.ready)

pub returns-clause-step : goal.returns-clause-step
returns-clause-step c = stepped c.load.ensures.0 c.load.ensures.1 (c.load.ensures.2.0 c.args.at (omega arith))

pub returns-clause-few : goal.returns-clause-few
returns-clause-few c = c.load.ensures.2.1
