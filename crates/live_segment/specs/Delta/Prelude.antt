-- The words that the clauses in `src/delta` take.
pub use Rattle.bucket_ranges.specs.Spec.{buckets_of}
pub use Rattle.bucket_ranges.specs.declared.spec.Spec.TheVariants.{Sparse}
pub use Rattle.live_segment.specs.Delta.Outcome.{AreUnits, HasTaken, HasTakenBuckets, HasTakenSample, HasTakenSum, MayTakeSample, MayTakeSum, TakesAt, TakesOn, TakesValues, TakesWord, units_of_key}
pub use Rattle.live_segment.specs.Holders.{opened_with}
pub use Rattle.live_segment.specs.Known.{KnowsRight, known_view}
pub use Rattle.live_segment.specs.List.IndexedValues.{AreOwn, ListsIndexed, ListsThrough}
pub use Rattle.live_segment.specs.List.SampleRecords.{SamplesStandBehind}
pub use Rattle.live_segment.specs.List.Values.{AreFewKeys, AreMostKeys, HoldsKeys, ListsAlong, TakesValue}
pub use Rattle.live_segment.specs.List.Values.SampleCall.{OfDelta}
pub use Rattle.live_segment.specs.Ready.{IsReadyFor}
pub use Rattle.live_segment.specs.Seated.{IsSeated}
pub use Rattle.live_segment.specs.Standing.{Standing}
pub use Rattle.live_segment.specs.Steps.{IsAtRest, IsSame}
pub use Rattle.live_segment.specs.declared.rule.Setting.{Setting}
pub use Rattle.segment_machine.specs.Actor.{bucket_key, has_buckets}
pub use Rattle.segment_machine.specs.Form.{SaysPacked, is_off}
pub use Rattle.segment_machine.specs.Note.{TookBucket}
pub use Rattle.segment_machine.specs.declared.actor.Actor.{Actor}
pub use Rattle.segment_machine.specs.declared.actor.Known.{Known}
pub use Rattle.segment_promises.specs.Values.{ComesTo, NoRepeats}
pub use Rattle.std.specs.List.{Contains}
