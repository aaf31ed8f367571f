-- What the functions of a recorder's calls rely on, with a record for each context.
use Rattle.std.specs.Prelude.{◌≡◌, false, ℕ, ◌+◌, ◌≤◌, [], length}
use Rattle.bucket_ranges.specs.declared.spec.Spec.TheVariants.{Sparse}
use Rattle.segment_calls.specs.declared.asked.Asked.{Asked}
use Rattle.segment_machine.specs.declared.actor.Known.{Known}
use Rattle.segment_machine.specs.Actor.{is_bound}
use Rattle.segment_machine.specs.Calls.{MayTurn}
use Rattle.segment_promises.specs.Onward.{is_holding}
use Rattle.live_segment.specs.declared.list.index.KeyKind.{KeyKind}
use Rattle.live_segment.specs.declared.list.index.KeyKind.TheVariants.{Name, Sample}
use Rattle.live_segment.specs.declared.list.index.RecordIndex.{RecordIndex}
use Rattle.live_segment.specs.declared.recorder.KnownHistogram.{KnownHistogram}
use Rattle.live_segment.specs.declared.segment.Segment.{Segment}
use Rattle.live_segment.specs.Hist.ListSearch.{IsAsked, MayLoadRecord}
use Rattle.live_segment.specs.Holders.{table_of}
use Rattle.live_segment.specs.Known.{KnowsRight}
use Rattle.live_segment.specs.List.Index.{IsIndexed}
use Rattle.live_segment.specs.Seated.{IsSeated}
use Rattle.live_segment.specs.Steps.{IsAtRest, Pass}
use Rattle.live_segment.specs.Steps.GhostNotes.{KnowsAlone}

-- a recorder's seat in no call, and a histogram that it knows: a call on the histogram may begin
pub record IsReadyFor (segment : Segment) (histogram : KnownHistogram) (seat : Pass) : Type 0 where
  pub seated : IsSeated segment seat
  pub rests : IsAtRest seat.me.0
  pub right : KnowsRight segment.setting seat.me.0 histogram

-- a recorder's seat whose call looks at the samples of a sparse histogram that it knows
pub record LooksAtValues (segment : Segment) (known : Known) (seat : Pass) : Type 0 where
  pub seated : IsSeated segment seat
  pub alone : KnowsAlone seat.me.0 known
  pub sparse : known.spec ≡ Sparse
  pub free : is_bound seat.me.0.hand.place ≡ false
  pub apart : is_holding seat.me.0.hand.place ≡ false
  pub singles : seat.me.0.since.singles ≤ length seat.me.0.seen.singles
  pub counts : seat.me.0.since.counts ≤ length seat.me.0.seen.counts

-- a recorder's seat whose call counts values of a histogram that it knows, and its index of samples
pub record CountsFor (segment : Segment) (histogram : KnownHistogram) (samples : RecordIndex) (seat : Pass) : Type 0 where
  pub seated : IsSeated segment seat
  pub right : KnowsRight segment.setting seat.me.0 histogram
  pub indexed : IsIndexed Sample segment.setting.shape.size seat.me.0.seen samples

-- a seat of the segment's table, whose words up to this one lie within the segment
pub record MayReach (segment : Segment) (seat : Pass) (end : ℕ) : Type 0 where
  pub table : seat.table_id ≡ table_of segment
  pub room : end ≤ segment.setting.shape.size

-- a recorder's seat, and a histogram whose record lies within the segment
pub record IsSeatedAt (segment : Segment) (histogram : KnownHistogram) (seat : Pass) : Type 0 where
  pub seated : IsSeated segment seat
  pub room : histogram.reference + 15 ≤ segment.setting.shape.size

-- a recorder's seat that has visited a record on the list, which lies within the segment
pub record HasMetRecord (segment : Segment) (at : ℕ) (seat : Pass) : Type 0 where
  pub seated : IsSeated segment seat
  pub met : MayLoadRecord at seat.me.0
  pub room : at + 5 ≤ segment.setting.shape.size

-- a recorder's seat that may walk along the list, and its index of records of a kind
pub record WalksWith (kind : KeyKind) (segment : Segment) (index : RecordIndex) (seat : Pass) : Type 0 where
  pub seated : IsSeated segment seat
  pub free : MayTurn seat.me.0
  pub indexed : IsIndexed kind segment.setting.shape.size seat.me.0.seen index

-- a recorder's seat in no call, its index of names, and what a `hist` asks for
pub record AsksFor (segment : Segment) (request : Asked) (names : RecordIndex) (seat : Pass) : Type 0 where
  pub seated : IsSeated segment seat
  pub indexed : IsIndexed Name segment.setting.shape.size seat.me.0.seen names
  pub rests : MayTurn seat.me.0 × (seat.me.0.entries.running ≡ []) × (seat.me.0.answers.owed ≡ [])
  pub asked : IsAsked segment.setting.shape request
