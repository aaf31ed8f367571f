-- The words that the clauses in `src/alloc.rt` take.
pub use Rattle.live_segment.specs.Add.Refusal.{MayGiveUp}
pub use Rattle.live_segment.specs.Alloc.Allocation.{Allocates, IsLost, Wastes, claimed, raised_on}
pub use Rattle.live_segment.specs.Holders.{MayStep}
pub use Rattle.live_segment.specs.Seated.{IsSeated}
pub use Rattle.live_segment.specs.Steps.{IsSame}
pub use Rattle.segment_image.specs.declared.layout.TheConstants.{BLOCK_HEADER}
pub use Rattle.segment_machine.specs.Actor.{is_bound}
pub use Rattle.segment_machine.specs.Allocating.{exchange_free}
pub use Rattle.segment_machine.specs.Event.{allocating_event}
