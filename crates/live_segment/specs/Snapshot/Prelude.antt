-- The words that the clauses in `src/snapshot` take.
pub use Rattle.bucket_ranges.specs.Spec.{buckets_of}
pub use Rattle.bucket_ranges.specs.declared.spec.Spec.TheVariants.{Sparse}
pub use Rattle.live_segment.specs.Delta.Outcome.{AreUnits}
pub use Rattle.live_segment.specs.Holders.{MayStep, opened_with, table_of}
pub use Rattle.live_segment.specs.Known.{KnowsRight, known_view}
pub use Rattle.live_segment.specs.List.IndexedValues.{AreOwn, ListsIndexed, ListsThrough}
pub use Rattle.live_segment.specs.List.SampleRecords.{SamplesStandBehind}
pub use Rattle.live_segment.specs.List.Values.{AreFewKeys, ListsAlong, BeginsWithTotals}
pub use Rattle.live_segment.specs.List.Values.SampleCall.{OfSnapshot}
pub use Rattle.live_segment.specs.Ready.{IsReadyFor, LooksAtValues}
pub use Rattle.live_segment.specs.Seated.{IsSeated}
pub use Rattle.live_segment.specs.Snapshot.Outcome.{HasLookedAtAll, HasSeenBuckets, HasSnapshot, HavePacked, saw_sum}
pub use Rattle.live_segment.specs.Standing.{Standing}
pub use Rattle.live_segment.specs.Steps.{IsAtRest, IsSame}
pub use Rattle.live_segment.specs.Steps.GhostNotes.{KnowsAlone}
pub use Rattle.live_segment.specs.Steps.Taking.{answered_as}
pub use Rattle.live_segment.specs.declared.rule.Announcement.TheVariants.{Answer}
pub use Rattle.live_segment.specs.declared.rule.Setting.{Setting}
pub use Rattle.segment_calls.specs.declared.answer.Snapshot.{Snapshot}
pub use Rattle.segment_machine.specs.Actor.{has_buckets, is_opener}
pub use Rattle.segment_machine.specs.Calls.{IsUnits}
pub use Rattle.segment_machine.specs.Event.{taking_event}
pub use Rattle.segment_machine.specs.Note.{MayNote, answers, noted}
pub use Rattle.segment_machine.specs.Taking.{load_sum}
pub use Rattle.segment_machine.specs.declared.actor.Actor.{Actor}
pub use Rattle.segment_promises.specs.Totals.{blank_totals}
pub use Rattle.segment_promises.specs.Values.{ComesTo, NoRepeats}
pub use Rattle.std.specs.List.{All}
