use Rattle.std.proofs.Common.{rules, refl}
use Rattle.live_segment.proofs.lemmas.Steps.Allowed.{raises}
use Rattle.live_segment.proofs.lemmas.Steps.Reported.{stepped}
use Rattle.live_segment.proofs.segment.Segment.exchange_free.Goals as goal

pub compare_exchange_with-requires : goal.compare_exchange_with-requires
compare_exchange_with-requires c = (search rules, search rules, raises c.args.self.now.table.shared.key _ _ _ _ c.requires.recorder c.args.old c.args.new c.args.words refl c.requires.ready)

pub returns : goal.returns
returns c = stepped c.compare_exchange_with.ensures.0 c.compare_exchange_with.ensures.1 (c.compare_exchange_with.ensures.2 c.args.words refl)
