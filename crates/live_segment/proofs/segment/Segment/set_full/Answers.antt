use Rattle.std.proofs.Common.{rules, refl}
use Rattle.live_segment.proofs.lemmas.Add.Refusing.{sets_full}
use Rattle.live_segment.proofs.lemmas.Steps.Reported.{noted}
use Rattle.live_segment.proofs.segment.Segment.set_full.Goals as goal

pub fetch_or-requires : goal.fetch_or-requires
fetch_or-requires c = (
  search rules,
  search rules,
  sets_full c.args.self.now.table.shared.key _ _ _ _ c.requires.may.1.recorder c.requires.closes c.requires.may.0 refl c.requires.may.1.ready,
)

pub returns : goal.returns
returns c = noted c.fetch_or.ensures.0 c.fetch_or.ensures.1 c.fetch_or.ensures.2
