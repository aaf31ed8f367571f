-- The words of the invariant that most proofs about it take.
pub use Rattle.segment_invariant.specs.Body.{Anatomy, Body, Counts, Listed, Piece, Record, Sample, claims_of, counts, extent_of, free_of, held, histogram, is_claimed, layout_of, listed, order_of, other, plain, queue, record_words, sample, words_of}
pub use Rattle.segment_invariant.specs.Consistent.{IsHistogram, IsWithinCounts}
pub use Rattle.segment_invariant.specs.Invariant.{CallsRight, ClaimedRight, CountsNothing, FinalsAreExact, Fits, HasKey, HoldsOwn, Invariant, IsAhead, IsAlone, IsCountsOf, IsLawfulRecord, IsPassedOver, IsQuiet, IsSetBy, IsSumOf, LooksBack, RecordsAreKept, RolesAreKept, StandStill, StandsAs, StandsRight, SumsAreNear, is_beaten, is_living, summed_cost}
pub use Rattle.segment_invariant.specs.Keeps.{EventKeeps, KeptOn, NoteKeeps, found_at}
pub use Rattle.segment_invariant.specs.Ledger.{all_held, at_bucket, form_at, key_of_bucket, keyed, marks_held, moving_at, noted_held, of_name, units_held}
pub use Rattle.segment_invariant.specs.Seen.{HasCounts, HasRecord, HasSample, IsFirst, IsFirstOf, IsRecordNamed, IsNoLater, IsValued, IsRightlyKnown, Sees, Stands, WasCounter, WasFixed, WasInUse, WasMet, WasSingle}
