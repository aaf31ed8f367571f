-- The words that the clauses in `src/add` take.
pub use Rattle.bucket_ranges.specs.Ranges.{boundaries_of}
pub use Rattle.bucket_ranges.specs.Spec.{buckets_of, spec_fault}
pub use Rattle.bucket_ranges.specs.Tally.{units_of}
pub use Rattle.bucket_ranges.specs.declared.spec.Spec.TheVariants.{Sparse}
pub use Rattle.list_index.specs.Firsts.{first_of}
pub use Rattle.live_segment.specs.Add.Batch.{HasItems, HasNoted, IsBatched, IsCutShort, StopsAtItem, batch_checks}
pub use Rattle.live_segment.specs.Add.Counts.{HasBlank, HasDisabled, HasMounted, HasNotMounted, LooksAtCounts, MayMount, MountsAt, MountsAtMostOne}
pub use Rattle.live_segment.specs.Add.Finish.{HasEnded, HasCountedSample, IsSummed, item_of, item_with, sample_of}
pub use Rattle.live_segment.specs.Add.Progress.{CountsAlone, CountsWithin, HasCounted, MayCountInBucket, Tries}
pub use Rattle.live_segment.specs.Add.Refusal.{IsNotCounted, IsTurnedAway, MayGiveUp}
pub use Rattle.live_segment.specs.Add.Sample.{AnswersSample, add_checks, block_words}
pub use Rattle.live_segment.specs.Add.SampleSearch.{FindsSample, FoundEnd, HasMadeSample, HasNotMadeSample, HasSampleOf, LacksSampleOf, ShowsValue, WalksBehind}
pub use Rattle.live_segment.specs.Alloc.Claims.{ClaimsFor, ClaimsForAll, ClaimsForEach}
pub use Rattle.live_segment.specs.Hist.ListSearch.{HasReadWords}
pub use Rattle.live_segment.specs.Hist.Search.{HasSearched}
pub use Rattle.live_segment.specs.Holders.{table_of}
pub use Rattle.live_segment.specs.Known.{KnowsRight, known_view}
pub use Rattle.live_segment.specs.List.Index.{IsIndexed}
pub use Rattle.live_segment.specs.List.Keys.{sample_key}
pub use Rattle.live_segment.specs.Ready.{CountsFor, HasMetRecord, IsReadyFor, IsSeatedAt, MayReach}
pub use Rattle.live_segment.specs.Seated.{IsSeated}
pub use Rattle.live_segment.specs.Steps.{IsAtRest, IsSame}
pub use Rattle.live_segment.specs.Steps.GhostNotes.{HasAddedTo, MayAddTo, bucket_entry}
pub use Rattle.segment_image.specs.Checks.{first_fault}
pub use Rattle.segment_machine.specs.Actor.{is_bound}
pub use Rattle.segment_machine.specs.Calls.{MayTurn}
pub use Rattle.segment_machine.specs.Entry.{batch_cost}
pub use Rattle.segment_machine.specs.declared.actor.Actor.{Actor}
pub use Rattle.segment_machine.specs.declared.actor.Known.{Known}
pub use Rattle.segment_promises.specs.Calls.{SamplesStandBehind}
pub use Rattle.segment_promises.specs.Onward.{GoesOn}
pub use Rattle.segment_promises.specs.Values.{NoRepeats}
pub use Rattle.std.specs.Int.{cast_unsigned, w64}
pub use Rattle.std.specs.List.{All, list_any}
