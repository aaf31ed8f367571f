use Rattle.std.proofs.Common.{rules, refl}
use Rattle.segment_machine.specs.Event.{allocating_event}
use Rattle.segment_machine.specs.Allocating.{set_corrupt}
use Rattle.live_segment.proofs.lemmas.Steps.Allowed.{does}
use Rattle.live_segment.proofs.segment.Segment.set_corrupt.Goals as goal

pub fetch_or-requires : goal.fetch_or-requires
fetch_or-requires c = (search rules, search rules, does c.args.self.now.table.shared.key _ _ _ _ c.requires.recorder (allocating_event set_corrupt) refl c.requires.ready)
