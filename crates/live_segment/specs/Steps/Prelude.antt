-- The words that the clauses in `src/steps` take.
pub use Rattle.live_segment.specs.Add.Counts.{LoadsCounts, SawNoNone}
pub use Rattle.live_segment.specs.Add.Refusal.{LoadsFlags, MayGiveUp, SetsFull, flags_notes, refusing_notes}
pub use Rattle.live_segment.specs.Holders.{MayStep, opened_with, table_of}
pub use Rattle.live_segment.specs.List.Records.{KnowsOwnNames, KnowsOwnSamples, LoadsNext, LoadsType}
pub use Rattle.live_segment.specs.List.SampleRecords.{LoadsCountOfSample, LoadsSum, SamplesAreFew}
pub use Rattle.live_segment.specs.List.SharedCursors.{LoadsCursor, MovesCursor, CursorMovesOn}
pub use Rattle.live_segment.specs.Ready.{MayReach}
pub use Rattle.live_segment.specs.Standing.{SeesNext}
pub use Rattle.live_segment.specs.Steps.{Does, DoesAt, IsSame, Raises, Stepped}
pub use Rattle.live_segment.specs.Steps.Answering.{Declines, HasKnown, NotesKnown, MayKnow}
pub use Rattle.live_segment.specs.Steps.GhostNotes.{AddsAmount, AddsLast, AddsMoved, AddsSum, AddsToCount, AddsToSample, HasAddedTo, HasAmount, HasPacked, HasSampled, HasSum, MayAddTo, MayAmount, MayDo, MayPack, MaySample, MaySum, Noted, Packs}
pub use Rattle.live_segment.specs.Steps.Listing.{HasLinked, Links, LoadsPublished, MayLink, StoresPayload}
pub use Rattle.live_segment.specs.Steps.Taking.{NotesAnswer, IsFirstOfDelta, IsFirstOfSnapshot, EndsDelta, HasAnswered, HasBegunDelta, MayAnswer, MayBeginDelta}
pub use Rattle.segment_machine.specs.Actor.{AreOwnBlocksApart, is_opener}
pub use Rattle.segment_machine.specs.Allocating.{exchange_free, load_flags, load_free, set_corrupt, set_full, store_cookie, store_payload, store_size, store_type}
pub use Rattle.segment_machine.specs.Counting.{add_redundant, load_counts}
pub use Rattle.segment_machine.specs.Cursors.{load_cursor, move_cursor}
pub use Rattle.segment_machine.specs.Event.{allocating_event, counting_event, cursor_event, packing_event, publishing_event, taking_event, walking_event}
pub use Rattle.segment_machine.specs.Form.{off_word}
pub use Rattle.segment_machine.specs.Note.{declines, ends, has_taken, looks}
pub use Rattle.segment_machine.specs.Packing.{add_moved, disable, load_single, mount_counts, purge_block}
pub use Rattle.segment_machine.specs.Publishing.{load_tail, move_tail, store_own_next}
pub use Rattle.segment_machine.specs.Taking.{load_count, load_redundant, load_sum, raise_mark, raise_single_mark, swap_sum_mark}
pub use Rattle.segment_machine.specs.Walking.{load_next, load_published}
pub use Rattle.segment_promises.specs.Follows.{MayNoteAll, noted_by}
pub use Rattle.segment_promises.specs.Values.{NoRepeats}
