-- Each event keeps what holds: one line for each family.
use Rattle.segment_machine.specs.Event.{allocating_event, publishing_event, walking_event, counting_event, packing_event, taking_event, cursor_event}
use Rattle.segment_invariant.specs.Keeps.{EventsKeep}
use Rattle.segment_invariant.proofs.Allocating.Keeps.{allocating_keeps}
use Rattle.segment_invariant.proofs.Publishing.Keeps.{publishing_keeps}
use Rattle.segment_invariant.proofs.Walking.Keeps.{walking_keeps}
use Rattle.segment_invariant.proofs.Counting.Keeps.{counting_keeps}
use Rattle.segment_invariant.proofs.Packing.Keeps.{packing_keeps}
use Rattle.segment_invariant.proofs.Taking.Keeps.{taking_keeps}
use Rattle.segment_invariant.proofs.Cursors.Keeps.{cursors_keep}

pub events_keep : EventsKeep
events_keep (allocating_event event) = allocating_keeps event
events_keep (publishing_event event) = publishing_keeps event
events_keep (walking_event event) = walking_keeps event
events_keep (counting_event event) = counting_keeps event
events_keep (packing_event event) = packing_keeps event
events_keep (taking_event event) = taking_keeps event
events_keep (cursor_event event) = cursors_keep event
