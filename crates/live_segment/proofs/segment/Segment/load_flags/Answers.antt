use Rattle.std.proofs.Common.{rules, refl}
use Rattle.live_segment.proofs.lemmas.Add.Refusing.{loads_flags}
use Rattle.live_segment.proofs.lemmas.Steps.Reported.{noted}
use Rattle.live_segment.proofs.segment.Segment.load_flags.Goals as goal

pub load-requires : goal.load-requires
load-requires c = (search rules, search rules, loads_flags c.args.self.now.table.shared.key _ _ _ _ c.requires.may.recorder c.requires.closes refl c.requires.may.ready)

pub returns : goal.returns
returns c = noted c.load.ensures.0 c.load.ensures.1 c.load.ensures.2
