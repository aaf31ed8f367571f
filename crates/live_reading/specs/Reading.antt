-- What a reading of a running segment has, by what `records`, `open` and `snapshot` of its recorder returned.
use Rattle.std.specs.Prelude.{◌≡◌, ◌≢◌, ℕ, List, [], ◌∷◌, map, Option, Some, None, MatchOption}
use Rattle.std.specs.List.{All, AllPairs, Contains, filter_map}
use Rattle.bucket_ranges.specs.declared.spec.Spec.TheVariants.{Sparse}
use Rattle.segment_machine.specs.declared.actor.Actor.{Actor}
use Rattle.segment_machine.specs.declared.actor.Known.{Known}
use Rattle.segment_promises.specs.Onward.{Grows, SeesOn}
use Rattle.live_segment.specs.declared.recorder.Hist.{Hist}
use Rattle.live_segment.specs.declared.recorder.state.RecorderState.{RecorderState}
use Rattle.live_segment.specs.declared.segment.Segment.{Segment}
use Rattle.live_segment.specs.Delta.Outcome.{AreUnits}
use Rattle.live_segment.specs.Delta.Owed.{HasEnough, HasNoMore}
use Rattle.live_segment.specs.Hist.Opened.{OpensRecord}
use Rattle.live_segment.specs.Holders.{opened_with}
use Rattle.live_segment.specs.List.Records.{HasWalked}
use Rattle.live_segment.specs.List.Values.{AreFewKeys}
use Rattle.live_segment.specs.RecorderState.{KnowsOn, Means, view_of_state}
use Rattle.live_segment.specs.Snapshot.Outcome.{HasSnapshot}
use Rattle.live_segment.specs.Standing.{HasList}
use Rattle.live_reading.specs.declared.live_reading.LiveHistogram.{LiveHistogram}

-- ---- between its calls

-- A recorder looks: it has seen no less, may know more histograms, and has noted snapshots after the earlier ones. What it is, what it may
-- spend, its entries, what it has done to the segment and what its deltas took are unchanged.
pub record OnlyLooks (old new : Actor) : Type 0 where
  pub same : new ≡ record old {
    hand = new.hand;
    seen = new.seen;
    since = new.since;
    answers = new.answers;
    deltas = record old.deltas { snapshots = new.deltas.snapshots };
  }
  pub seen : SeesOn old.seen new.seen
  pub snapshots : Grows old.deltas.snapshots new.deltas.snapshots

-- it records into the same segment, knows what it knew at the same places, and has only looked
pub record GoesOnLooking (old new : RecorderState) : Type 0 where
  pub knows : KnowsOn old new
  pub looks : OnlyLooks (view_of_state old) (view_of_state new)

-- ---- a record

-- `open` of a record returned none
pub record OpensNone (reference : ℕ) (old new : RecorderState) : Type 0 where
  pub asked : RecorderState
  pub opened : RecorderState
  pub before : GoesOnLooking old asked
  pub opens : OpensRecord reference (view_of_state asked) None (view_of_state opened)
  pub behind : GoesOnLooking opened new

-- `open` of a record returned a histogram, and this one has its name, its spec, and what `snapshot` of it returned: of each key at least
-- what the recorder had accepted or seen before, and at most what was counted in a state to which the segment came before the call returned;
-- no more keys than it may have, and of a sparse one values that ascend, each once and with units.
pub record IsReadOf (segment : Segment) (old new : RecorderState) (reference : ℕ) (histogram : LiveHistogram) : Type 0 where
  pub asked : RecorderState
  pub opened : RecorderState
  pub shown : RecorderState
  pub place : Hist
  pub known : Known
  pub before : GoesOnLooking old asked
  pub opens : OpensRecord reference (view_of_state asked) (Some place) (view_of_state opened)
  pub means : Means opened place known
  pub of_record : known.reference ≡ reference
  pub named : known.name ≡ histogram.name.items
  pub same : known.spec ≡ histogram.spec
  pub shows : HasSnapshot known (view_of_state opened) histogram.snapshot (view_of_state shown)
  pub enough : HasEnough known (view_of_state old) histogram.snapshot (view_of_state shown)
  pub most : HasNoMore (opened_with segment) shown.seat.id known histogram.snapshot (view_of_state shown)
  pub few : AreFewKeys segment known histogram.snapshot.counts.items
  pub values : known.spec ≡ Sparse → AreUnits histogram.snapshot.counts.items
  pub behind : GoesOnLooking shown new

-- what was read of a record: its histogram, or none
abbrev pub IsOutcome : Segment → RecorderState → RecorderState → ℕ → Option LiveHistogram → Type 0
IsOutcome segment old new reference outcome =
    MatchOption outcome (OpensNone reference old new) (λ histogram. IsReadOf segment old new reference histogram)

-- as a list of one, or of none
abbrev pub read_of : Option LiveHistogram → List LiveHistogram
read_of (Some histogram) = histogram ∷ []
read_of None = []

-- ---- a reading

-- Its recorder has found the records of the list, which were exactly these in a kept state of the segment. Of each, in order, it has read the
-- histogram or none, and these are the histograms.
pub record ReadsList (segment : Segment) (old : RecorderState) (hists : List LiveHistogram) (new : RecorderState) : Type 0 where
  pub records : List ℕ
  pub listed : RecorderState
  pub walked : HasWalked (view_of_state old) records (view_of_state listed)
  pub list : HasList (opened_with segment) listed.seat.id (view_of_state listed) records
  pub outcomes : List (ℕ × Option LiveHistogram)
  pub of_records : map (λ outcome. outcome.0) outcomes ≡ records
  pub each : All (λ outcome. IsOutcome segment listed new outcome.0 outcome.1) outcomes
  pub these : hists ≡ filter_map (λ outcome. outcome.1) outcomes

-- a recorder knows a histogram of this name and this spec
abbrev pub KnowsRead : RecorderState → LiveHistogram → Type 0
KnowsRead state histogram =
    (known : Known) × Contains (view_of_state state).answers.names known × (known.name ≡ histogram.name.items) × (known.spec ≡ histogram.spec)

-- a recorder knows each of these histograms, and no two of them have the same name
pub record KnowsEachOnce (hists : List LiveHistogram) (new : RecorderState) : Type 0 where
  pub known : All (KnowsRead new) hists
  pub once : AllPairs (λ one other. one.name.items ≢ other.name.items) hists
