use Rattle.std.proofs.Common.{rules, refl}
use Rattle.segment_machine.specs.Event.{allocating_event}
use Rattle.segment_machine.specs.Allocating.{load_free}
use Rattle.live_segment.proofs.lemmas.Steps.Allowed.{does}
use Rattle.live_segment.proofs.segment.Segment.load_free.Goals as goal

pub load-requires : goal.load-requires
load-requires c = (search rules, search rules, does c.args.self.now.table.shared.key _ _ _ _ c.requires.recorder (allocating_event load_free) refl c.requires.ready)
