-- What a recorder and a follower make of a reading, and what is returned of that.
use Rattle.std.specs.Prelude.{◌≡◌, ◌≤◌, ◌<◌, ◌-◌, min, ℕ, List, [], ◌∷◌, length, sum_by, Option, Some, None, Result, Ok, Err, MatchOption, MatchResult}
use Rattle.segment_image.specs.declared.head.SegmentHead.{SegmentHead}
use Rattle.image_reader.specs.Views.{reading_view}
use Rattle.image_reader.specs.declared.reading.Reading.{Reading}
use Rattle.live_segment.specs.RecorderState.{KnowsOn}
use Rattle.owned_recorder.specs.Holders.{view_of_owned}
use Rattle.owned_recorder.specs.declared.owned.OwnedRecorder.{OwnedRecorder}
use Rattle.segment_merge.specs.Follow.{IsFollowed}
use Rattle.segment_merge.specs.Noted.{AreNotesInOrder, IsReadingInOrder}
use Rattle.segment_merge.specs.Follower.{IsNotFollowedFor, noted_of}
use Rattle.segment_merge.specs.declared.follow_fault.FollowFault.{FollowFault}
use Rattle.segment_merge.specs.declared.follow_fault.FollowFault.TheVariants.{OtherSegment, Fell, TooMany, NoMemory}
use Rattle.segment_merge.specs.declared.follower.Follower.{Follower}
use Rattle.segment_merge.specs.declared.following.FollowReport.{FollowReport}
use Rattle.segment_merge.specs.declared.merging.MergeStop.{MergeStop}
use Rattle.povundiri_c.specs.declared.types.MergeTotals.{MergeTotals}
use Rattle.povundiri_c.specs.Merging.{IsNamePut, units_unspent}
use Rattle.povundiri_c.specs.Status.{status_of_refusal}

-- two headers are of one segment: they have its id, its size, its page and its version
pub record AreHeadsOfOneSegment (one other : SegmentHead) : Type 0 where
  pub id : one.id ≡ other.id
  pub size : one.shape.size ≡ other.shape.size
  pub page : one.shape.page ≡ other.shape.page
  pub version : one.version ≡ other.version

-- ---- a reading is followed

-- of a reading that is not followed
abbrev pub status_of_follow_fault : FollowFault → ℕ
status_of_follow_fault OtherSegment = 6
status_of_follow_fault Fell = 21
status_of_follow_fault (TooMany cost) = 22
status_of_follow_fault NoMemory = 13

-- what is noted after a reading in order is in order
abbrev pub KeepsOrder : Reading → Follower → Type 0
KeepsOrder reading follower = IsReadingInOrder (reading_view reading).hists → AreNotesInOrder (noted_of follower)

-- A recorder adds what came of a reading for at most so many units, as `Follower::merge` says; or the fault says why not, and the follower
-- and the recorder are unchanged.
abbrev pub FollowsReading : Reading → ℕ → Follower → OwnedRecorder → Result FollowReport FollowFault → Follower → OwnedRecorder → Type 0
FollowsReading reading most follower owned answer follower' owned' =
    (owned'.segment ≡ owned.segment) × KnowsOn owned.state owned'.state
    × MatchResult answer
    (λ report. KeepsOrder reading follower'
    × IsFollowed (noted_of follower) (reading_view reading) most report (noted_of follower') (view_of_owned owned) (view_of_owned owned'))
    (λ fault. (follower' ≡ follower) × (owned'.state ≡ owned.state) × IsNotFollowedFor follower (reading_view reading) most fault)

-- the units that were added to the histograms that were reached, or the greatest `u64` if these are more
abbrev pub units_followed : FollowReport → ℕ
units_followed report = min (sum_by (λ line. line.1) report.added.items) 18446744073709551615

-- what is returned of a reading of which nothing was added
abbrev pub follow_totals : Reading → MergeTotals
follow_totals reading = record {
  added = 0;
  left = 0;
  cost = 0;
  unspent = units_unspent reading.hists.items;
  items = 0;
  passed = 0;
  name_length = 0;
  full = reading.full;
  corrupt = reading.corrupt;
}

-- the same when it was followed: this many items were counted of the histogram that is reported, and its name is so long
abbrev pub followed_totals : MergeTotals → FollowReport → ℕ → ℕ → MergeTotals
followed_totals totals report items length_of_name = record totals {
  added = units_followed report;
  left = report.units - units_followed report;
  cost = report.cost;
  items = items;
  passed = length report.passed.items;
  name_length = length_of_name;
}

-- the first of these, if there is one
abbrev pub first_of : Option MergeStop → List MergeStop → Option MergeStop
first_of (Some stop) stops = Some stop
first_of None [] = None
first_of None (stop ∷ stops) = Some stop

-- the histogram that is reported: the one that stopped the merge, or else the first that was passed over
abbrev pub stop_of : FollowReport → Option MergeStop
stop_of report = first_of report.stopped report.passed.items

-- A report is returned: 0, or why that histogram was cut short, with its name and how many of its items were counted.
abbrev pub IsFollowReported : MergeTotals → FollowReport → ℕ → MergeTotals → List ℕ → List ℕ → Type 0
IsFollowReported totals report status totals' name name' =
    MatchOption (stop_of report) ((status ≡ 0) × (totals' ≡ followed_totals totals report 0 0) × (name' ≡ name))
    (λ stop. (status ≡ status_of_refusal stop.why) × (totals' ≡ followed_totals totals report stop.items (length stop.name.items))
    × IsNamePut stop.name.items name name')

-- What came costs too much: more than the caller allows, or more than the recorder may spend. What it costs is returned.
pub record IsTooCostly (totals : MergeTotals) (most cost status : ℕ) (totals' : MergeTotals) : Type 0 where
  pub says : totals' ≡ record totals { cost = cost }
  pub more : most < cost → status ≡ 22
  pub no_units : cost ≤ most → status ≡ 104

-- what is returned of a reading: its report, or why it was not followed
abbrev pub IsFollowReturned : MergeTotals → ℕ → Result FollowReport FollowFault → ℕ → MergeTotals → List ℕ → List ℕ → Type 0
IsFollowReturned totals most (Ok report) status totals' name name' = IsFollowReported totals report status totals' name name'
IsFollowReturned totals most (Err (TooMany cost)) status totals' name name' = IsTooCostly totals most cost status totals' × (name' ≡ name)
IsFollowReturned totals most (Err fault) status totals' name name' = (status ≡ status_of_follow_fault fault) × (totals' ≡ totals) × (name' ≡ name)
