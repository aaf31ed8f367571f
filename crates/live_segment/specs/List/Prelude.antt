-- The words that the clauses in `src/list` take.
pub use Rattle.bucket_ranges.specs.Reading.{name_words}
pub use Rattle.bucket_ranges.specs.declared.spec.Spec.TheVariants.{Sparse}
pub use Rattle.list_index.specs.Firsts.{Holds, is_grouping}
pub use Rattle.live_segment.specs.Hist.ListSearch.{HasReadWords, MayLoadRecord}
pub use Rattle.live_segment.specs.Hist.Search.{HasSearched}
pub use Rattle.live_segment.specs.Holders.{opened_with}
pub use Rattle.live_segment.specs.Known.{KnowsRight, known_view}
pub use Rattle.live_segment.specs.List.Index.{Enters, IsIndexed}
pub use Rattle.live_segment.specs.List.IndexedValues.{HasPassedAll, own_samples}
pub use Rattle.live_segment.specs.List.Keys.{HasLookedForKey, seen_key}
pub use Rattle.live_segment.specs.List.Publish.{HasPublishedFor, IsFilledFor}
pub use Rattle.live_segment.specs.List.SampleRecords.{CountsSample, SamplesAreFew, SamplesStandBehind, SeesSample, ShowsSample}
pub use Rattle.live_segment.specs.List.SharedCursors.{AnswersNext, gift}
pub use Rattle.live_segment.specs.List.Walk.{HasCome, WalksOn}
pub use Rattle.live_segment.specs.Ready.{HasMetRecord, LooksAtValues, WalksWith}
pub use Rattle.live_segment.specs.Seated.{IsSeated}
pub use Rattle.live_segment.specs.Standing.{HasList, HasShared}
pub use Rattle.live_segment.specs.Steps.{IsSame}
pub use Rattle.live_segment.specs.declared.list.index.KeyKind.TheVariants.{Name, Sample}
pub use Rattle.live_segment.specs.declared.rule.Setting.{Setting}
pub use Rattle.segment_machine.specs.Actor.{has_buckets, is_bound, word_seen}
pub use Rattle.segment_machine.specs.Calls.{MayTurn}
pub use Rattle.segment_machine.specs.declared.actor.Actor.{Actor}
pub use Rattle.segment_machine.specs.declared.seen.Seen.{Seen}
pub use Rattle.segment_promises.specs.Onward.{is_holding}
pub use Rattle.segment_promises.specs.Values.{NoRepeats}
pub use Rattle.std.specs.Int.{cast_unsigned, w64}
pub use Rattle.std.specs.List.{Contains}
