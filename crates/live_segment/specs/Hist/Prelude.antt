-- The words that the clauses in `src/hist` take.
pub use Rattle.list_index.specs.Firsts.{first_of}
pub use Rattle.list_index.specs.Keys.{byte_key_of, key_of}
pub use Rattle.live_segment.specs.Hist.Answer.{IsKnownAt, NoneHasName}
pub use Rattle.live_segment.specs.Hist.KnownNames.{HasNames}
pub use Rattle.live_segment.specs.Hist.ListSearch.{HasReadWords, IsAsked, MayLoadRecord, ShowsName, ShowsSpec, ShowsWords}
pub use Rattle.live_segment.specs.Hist.NewRecord.{HasBlock, HasFilled, MakesRecord, SaysAsked}
pub use Rattle.live_segment.specs.Hist.Opened.{IsNotRead, MeetsRecord, number_read, ReadsName, ReadsRecord, ReadsSpec, Recognizes, SawLongName, SawNoSpec, SawOtherType}
pub use Rattle.live_segment.specs.Hist.Outcome.{IsAnnouncedOf, LooksUp, MakesFor, Settles}
pub use Rattle.live_segment.specs.Hist.Search.{FoundEnd, HasSearched, Searches, SearchesAt}
pub use Rattle.live_segment.specs.Holders.{opened_with, table_of}
pub use Rattle.live_segment.specs.List.Index.{IsIndexed}
pub use Rattle.live_segment.specs.List.Keys.{IsNameKey}
pub use Rattle.live_segment.specs.Ready.{AsksFor, HasMetRecord, WalksWith}
pub use Rattle.live_segment.specs.Seated.{IsSeated}
pub use Rattle.live_segment.specs.Standing.{Standing}
pub use Rattle.live_segment.specs.Steps.{IsSame}
pub use Rattle.live_segment.specs.declared.list.index.KeyKind.TheVariants.{Name}
pub use Rattle.live_segment.specs.declared.recorder.KnownHistogram.{KnownHistogram}
pub use Rattle.segment_calls.specs.declared.refusal.Refusal.TheVariants.{OtherSpec}
pub use Rattle.segment_image.specs.Shape.{Dimensions}
pub use Rattle.segment_image.specs.Words.{bytes_of_words}
pub use Rattle.bucket_ranges.specs.Reading.{name_words}
pub use Rattle.segment_machine.specs.Actor.{is_opener, word_seen}
pub use Rattle.segment_machine.specs.Calls.{MayTurn}
pub use Rattle.segment_machine.specs.Walking.{IsFixed}
pub use Rattle.std.specs.List.{All}
