-- What every private step of a recorder relies on.
use Rattle.std.specs.Prelude.{◌≡◌, false}
use Rattle.segment_machine.specs.Actor.{is_opener}
use Rattle.live_segment.specs.declared.segment.Segment.{Segment}
use Rattle.live_segment.specs.Rule.{IsOf}
use Rattle.live_segment.specs.Steps.{Pass}

-- a recorder's seat at a segment: it is one of the segment's table, and its recorder has the segment's setting
pub record IsSeated (segment : Segment) (seat : Pass) : Type 0 where
  pub table : seat.table_id ≡ segment.table.shared.table_id
  pub recorder : is_opener seat.me.0.role ≡ false
  pub of : IsOf segment.setting seat.me.0
