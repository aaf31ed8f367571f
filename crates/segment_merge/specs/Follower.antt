-- What a follower has noted, what its calls make of that, and why they are refused.
use Rattle.std.specs.Prelude.{◌≡◌, ◌≢◌, min, ℕ, ◌<◌, ◌≤◌, List, [], map, sum_by, Option, Some, None, MatchOption, vec_capacity, vec_len}
use Rattle.std.specs.List.{All}
use Rattle.bucket_ranges.specs.Reading.{Histogram, Reading}
use Rattle.image_reader.specs.Views.{histogram_view}
use Rattle.segment_merge.specs.declared.follow_fault.FollowFault.{FollowFault}
use Rattle.segment_merge.specs.declared.follow_fault.FollowFault.TheVariants.{OtherSegment, Fell, TooMany, NoMemory}
use Rattle.segment_merge.specs.declared.follower.Follower.{Follower}
use Rattle.segment_merge.specs.declared.follower.Prepared.{Prepared}
use Rattle.segment_merge.specs.Follow.{TellsWhatIsNew}
use Rattle.segment_merge.specs.Merge.{cost_left, units_left}
use Rattle.segment_merge.specs.Noted.{AreNotesInOrder, HasFallenBelow, HaveNotes, IsReadingInOrder}
use Rattle.segment_merge.specs.Steps.{HasItsPart, HasRoomFor, hists_of}

-- what is noted: histograms, of which the units of each key and the sum were added or skipped
abbrev pub noted_of : Follower → List Histogram
noted_of follower = map histogram_view follower.noted.items

-- the id of the segment that it follows, once it has followed a reading
abbrev pub followed_id : Follower → Option ℕ
followed_id follower = follower.id

-- a reading is of that segment
abbrev pub IsOfSegment : Follower → Reading → Type 0
IsOfSegment follower reading = MatchOption (followed_id follower) (Unit {0}) (λ id. id ≡ reading.id)

-- A reading is skipped: it is noted, whatever was noted before; and these are the units that it has above what was noted, or the greatest
-- `u64` if there are more.
pub record IsSkipped (noted : List Histogram) (reading : Reading) (units : ℕ) (later : List Histogram) : Type 0 where
  pub have : HaveNotes noted reading.hists later
  pub units_are : units ≡ min (sum_by units_left later) 18446744073709551615

-- What is new of a reading costs this, or, if it costs more than the greatest `u64`, this is that, and it is more than is allowed.
pub record CostsTooMany (noted : List Histogram) (reading : Reading) (most cost : ℕ) : Type 0 where
  pub hists : List Histogram
  pub have : HaveNotes noted reading.hists hists
  pub cost_is : cost ≡ min (sum_by cost_left hists) 18446744073709551615
  pub more : most < cost

-- A reading fell, if it and what is noted are in order: it has not all that is noted.
abbrev pub HasFallenIfInOrder : List Histogram → Reading → Type 0
HasFallenIfInOrder noted reading = AreNotesInOrder noted → IsReadingInOrder reading.hists → HasFallenBelow noted reading.hists

-- why a reading is not followed
abbrev pub IsNotFollowedFor : Follower → Reading → ℕ → FollowFault → Type 0
IsNotFollowedFor follower reading most OtherSegment = (id : ℕ) × (followed_id follower ≡ Some id) × (id ≢ reading.id)
IsNotFollowedFor follower reading most Fell = HasFallenIfInOrder (noted_of follower) reading
IsNotFollowedFor follower reading most (TooMany cost) = CostsTooMany (noted_of follower) reading most cost
IsNotFollowedFor follower reading most NoMemory = Unit {0}

-- and why it is not skipped: for no cost
abbrev pub IsNotSkippedFor : Follower → Reading → FollowFault → Type 0
IsNotSkippedFor follower reading OtherSegment = (id : ℕ) × (followed_id follower ≡ Some id) × (id ≢ reading.id)
IsNotSkippedFor follower reading Fell = HasFallenIfInOrder (noted_of follower) reading
IsNotSkippedFor follower reading (TooMany cost) = ⊥
IsNotSkippedFor follower reading NoMemory = Unit {0}

-- What a merge needs is there: the steps of the histograms; a report that tells what is new, which costs no more than is allowed; and a list of
-- notes. Both have room for the histograms, and nothing is in them yet.
pub record IsPrepared (noted : List Histogram) (reading : Reading) (most : ℕ) (prepared : Prepared) : Type 0 where
  pub have : HaveNotes noted reading.hists (hists_of prepared.steps.items)
  pub tells : TellsWhatIsNew noted reading (hists_of prepared.steps.items) prepared.report
  pub cheap : prepared.report.cost ≤ most
  pub steps : All HasItsPart prepared.steps.items
  pub room : HasRoomFor (vec_len prepared.steps) prepared.report
  pub added : prepared.report.added.items ≡ []
  pub passed : prepared.report.passed.items ≡ []
  pub stopped : prepared.report.stopped ≡ None
  pub notes : prepared.noted.items ≡ []
  pub notes_room : vec_len prepared.steps ≤ vec_capacity prepared.noted
