use Rattle.std.proofs.Common.{rules, refl}
use Rattle.segment_machine.specs.Event.{publishing_event}
use Rattle.segment_machine.specs.Publishing.{move_tail}
use Rattle.live_segment.proofs.lemmas.Steps.Allowed.{does}
use Rattle.live_segment.proofs.segment.Segment.move_tail.Goals as goal

pub compare_exchange-requires : goal.compare_exchange-requires
compare_exchange-requires c = (
  search rules,
  search rules,
  does c.args.self.now.table.shared.key _ _ _ _ c.requires.recorder (publishing_event (move_tail c.args.old c.args.new)) refl c.requires.ready,
)
