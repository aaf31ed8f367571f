use Rattle.std.proofs.Common.{rules, refl}
use Rattle.segment_machine.specs.Event.{publishing_event}
use Rattle.segment_machine.specs.Publishing.{load_tail}
use Rattle.live_segment.proofs.lemmas.Steps.Allowed.{does}
use Rattle.live_segment.proofs.segment.Segment.load_tail.Goals as goal

pub load-requires : goal.load-requires
load-requires c = (search rules, search rules, does c.args.self.now.table.shared.key _ _ _ _ c.requires.recorder (publishing_event load_tail) refl c.requires.ready)
