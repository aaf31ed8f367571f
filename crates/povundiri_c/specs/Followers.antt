-- What C's calls of a follower make of it and of a recorder, and what they return.
use Rattle.std.specs.Prelude.{◌≡◌, ◌⊎◌, min, ℕ, IsPermutation, List, [], map, Option, Some, None, Result, Ok, Err, MatchOption, MatchResult}
use Rattle.segment_image.specs.Head.{header_of}
use Rattle.segment_image.specs.declared.head.SegmentHead.{SegmentHead}
use Rattle.image_reader.specs.Views.{reading_view}
use Rattle.image_reader.specs.declared.reading.Reading.{Reading}
use Rattle.live_segment.specs.RecorderState.{view_of_state}
use Rattle.owned_recorder.specs.declared.owned.OwnedRecorder.{OwnedRecorder}
use Rattle.segment_merge.specs.Noted.{AreNotesInOrder}
use Rattle.segment_merge.specs.Follower.{IsNotSkippedFor, IsSkipped, followed_id, noted_of}
use Rattle.segment_merge.specs.Taken.{taken}
use Rattle.segment_merge.specs.declared.follow_fault.FollowFault.{FollowFault}
use Rattle.segment_merge.specs.declared.following.FollowReport.{FollowReport}
use Rattle.povundiri_c.specs.declared.contents.Contents.{Contents}
use Rattle.povundiri_c.specs.declared.contents.Contents.TheVariants as contents
use Rattle.povundiri_c.specs.declared.held_follower.HeldFollower.{HeldFollower}
use Rattle.povundiri_c.specs.declared.joinable_recorder.JoinableRecorder.{JoinableRecorder}
use Rattle.povundiri_c.specs.declared.types.MergeTotals.{MergeTotals}
use Rattle.povundiri_c.specs.Calls.{ByHandle, IsWritten}
use Rattle.povundiri_c.specs.Following.{AreHeadsOfOneSegment, FollowsReading, IsFollowReturned, KeepsOrder, follow_totals, status_of_follow_fault}
use Rattle.povundiri_c.specs.Joins.{recorder_in}
use Rattle.povundiri_c.specs.Merging.{AreNotRead, IsReadWithin}
use Rattle.povundiri_c.specs.Status.{status_of_image_fault}

-- ---- a follower that C holds

-- one that has followed nothing yet, and reads images of this many keys at most
pub record IsNewFollower (most_keys : ℕ) (held : HeldFollower) : Type 0 where
  pub most_keys_are : held.most_keys ≡ most_keys
  pub no_head : held.head ≡ None
  pub no_id : followed_id held.follower ≡ None
  pub none : noted_of held.follower ≡ []
  pub order : AreNotesInOrder (noted_of held.follower)

-- a handle is filled with such a follower; or memory ran out, and it is unchanged
abbrev pub IsFollowerMade : ℕ → ℕ → Option Contents → Option Contents → Type 0
IsFollowerMade most_keys status old new =
    ((status ≡ 0) × (held : HeldFollower) × (new ≡ Some (contents.Follower held)) × IsNewFollower most_keys held) ⊎ ((status ≡ 13) × (new ≡ old))

-- one that has noted what deltas took of the image in these words, follows its segment, and reads images of this many keys at most
pub record IsFollowerOfMarks (words : List ℕ) (most_keys : ℕ) (held : HeldFollower) : Type 0 where
  pub reading : Reading
  pub read : IsReadWithin words most_keys reading
  pub follows : held.head ≡ Some read.head
  pub most_keys_are : held.most_keys ≡ most_keys
  pub id : followed_id held.follower ≡ Some reading.id
  pub noted : IsPermutation (map taken (reading_view reading).hists) (noted_of held.follower)
  pub order : KeepsOrder reading held.follower

-- why there is none: memory ran out, or the words are not read
abbrev pub IsNoFollowerOfMarks : List ℕ → ℕ → ℕ → Type 0
IsNoFollowerOfMarks words most_keys status = (status ≡ 13) ⊎ AreNotRead words most_keys status

-- a handle is filled with such a follower; or the status says why not, and it is unchanged
abbrev pub IsFollowerOfMarksMade : List ℕ → ℕ → ℕ → Option Contents → Option Contents → Type 0
IsFollowerOfMarksMade words most_keys status old new =
    ((status ≡ 0) × (held : HeldFollower) × (new ≡ Some (contents.Follower held)) × IsFollowerOfMarks words most_keys held)
    ⊎ (IsNoFollowerOfMarks words most_keys status × (new ≡ old))

-- ---- the words of an image

-- the header of the words is of the segment that is followed, if one is
abbrev pub IsHeadFor : Option SegmentHead → List ℕ → SegmentHead → Type 0
IsHeadFor known words head = (header_of words ≡ Ok head) × MatchOption known (Unit {0}) (λ it. AreHeadsOfOneSegment it head)

-- it is of another one
abbrev pub IsOfOtherSegment : Option SegmentHead → SegmentHead → Type 0
IsOfOtherSegment known head = (it : SegmentHead) × (known ≡ Some it) × (AreHeadsOfOneSegment it head → ⊥)

-- Why there is no such header: it has this fault, or is of another segment.
abbrev pub IsNoHeadFor : Option SegmentHead → List ℕ → ℕ → Type 0
IsNoHeadFor known words status =
    MatchResult (header_of words) (λ head. (status ≡ 6) × IsOfOtherSegment known head) (λ fault. status ≡ status_of_image_fault fault)

-- what the words read as, for this follower
abbrev pub IsReadFor : HeldFollower → List ℕ → SegmentHead → Reading → Type 0
IsReadFor held words head reading = IsHeadFor held.head words head × IsReadWithin words held.most_keys reading

-- why they are not read
abbrev pub AreNotReadFor : HeldFollower → List ℕ → ℕ → Type 0
AreNotReadFor held words status = IsNoHeadFor held.head words status ⊎ AreNotRead words held.most_keys status

-- ---- a follower and a recorder

-- A follower that C holds does that, and then follows the segment of this header.
abbrev pub FollowsWith : SegmentHead → Reading → ℕ → HeldFollower → OwnedRecorder → Result FollowReport FollowFault → HeldFollower → OwnedRecorder → Type 0
FollowsWith head reading most held owned answer held' owned' =
    FollowsReading reading most held.follower owned answer held'.follower owned'
    × MatchResult answer (λ _. (held'.head ≡ Some head) × (held'.most_keys ≡ held.most_keys)) (λ _. held' ≡ held)

-- The reading of the words is followed, for what the caller allows and the recorder may spend. Or the words are not read: the status says so,
-- and all is unchanged.
abbrev pub FollowsWords : List ℕ → ℕ → HeldFollower → OwnedRecorder → ℕ → MergeTotals → MergeTotals → List ℕ → List ℕ → HeldFollower → OwnedRecorder → Type 0
FollowsWords words most held owned status totals totals' name name' held' owned' =
    (AreNotReadFor held words status × (held' ≡ held) × (owned' ≡ owned) × (totals' ≡ totals) × (name' ≡ name))
    ⊎ ((head : SegmentHead) × (reading : Reading) × IsReadFor held words head reading × (answer : Result FollowReport FollowFault)
    × FollowsWith head reading (min most (view_of_state owned.state).units.share) held owned answer held' owned'
    × IsFollowReturned (follow_totals reading) most answer status totals' name name')

-- the follower that contents are, if they are one
abbrev pub follower_in : Contents → Option HeldFollower
follower_in (contents.Follower held) = Some held
follower_in (contents.Segment owned) = None
follower_in (contents.Recorder joinable) = None
follower_in (contents.Sums sums) = None
follower_in contents.Nothing = None

-- A follower does that with a recorder, which keeps its mailbox. If they are of another kind, that is returned, and all is unchanged.
abbrev pub FollowsInto : List ℕ → ℕ → Contents → Contents → ℕ → MergeTotals → MergeTotals → List ℕ → List ℕ → Contents → Contents → Type 0
FollowsInto words most it other status totals totals' name name' it' other' =
    ((status ≡ 5) × ((follower_in it ≡ None) ⊎ (recorder_in other ≡ None)) × (it' ≡ it) × (other' ≡ other) × (totals' ≡ totals) × (name' ≡ name))
    ⊎ ((held : HeldFollower) × (joinable : JoinableRecorder) × (it ≡ contents.Follower held) × (other ≡ contents.Recorder joinable)
    × (held' : HeldFollower) × (joinable' : JoinableRecorder) × (it' ≡ contents.Follower held') × (other' ≡ contents.Recorder joinable')
    × (joinable'.mailbox ≡ joinable.mailbox)
    × FollowsWords words most held joinable.owned status totals totals' name name' held' joinable'.owned)

-- nothing is written, and both handles hold the same
abbrev pub AreUntouched : Option Contents → Option Contents → MergeTotals → MergeTotals → List ℕ → List ℕ → Option Contents → Option Contents → Type 0
AreUntouched follower recorder totals totals' name name' follower' recorder' =
    (follower' ≡ follower) × (recorder' ≡ recorder) × (totals' ≡ totals) × (name' ≡ name)

-- the same of two handles, either of which may be empty
abbrev pub AnswersFollowCall : List ℕ → ℕ → Option Contents → Option Contents → ℕ → MergeTotals → MergeTotals → List ℕ → List ℕ → Option Contents → Option Contents → Type 0
AnswersFollowCall words most None recorder status totals totals' name name' follower' recorder' =
    (status ≡ 3) × AreUntouched None recorder totals totals' name name' follower' recorder'
AnswersFollowCall words most (Some it) None status totals totals' name name' follower' recorder' =
    (status ≡ 3) × AreUntouched (Some it) None totals totals' name name' follower' recorder'
AnswersFollowCall words most (Some it) (Some other) status totals totals' name name' follower' recorder' =
    (it' : Contents) × (other' : Contents) × (follower' ≡ Some it') × (recorder' ≡ Some other')
    × FollowsInto words most it other status totals totals' name name' it' other'

-- ---- an image is skipped

-- The reading of the words is noted, and its units above what was noted are returned; or the status says why not, and the follower is unchanged.
abbrev pub SkipsWords : List ℕ → HeldFollower → Result ℕ ℕ → HeldFollower → Type 0
SkipsWords words held (Ok units) held' =
    (head : SegmentHead) × (reading : Reading) × IsReadFor held words head reading
    × IsSkipped (noted_of held.follower) (reading_view reading) units (noted_of held'.follower) × KeepsOrder reading held'.follower × (held'.head ≡ Some head) × (held'.most_keys ≡ held.most_keys)
SkipsWords words held (Err status) held' =
    (held' ≡ held)
    × (AreNotReadFor held words status
    ⊎ ((head : SegmentHead) × (reading : Reading) × IsReadFor held words head reading × (fault : FollowFault)
    × IsNotSkippedFor held.follower (reading_view reading) fault × (status ≡ status_of_follow_fault fault)))

-- If it is no follower, that is returned, and it is unchanged; else the call is of the follower.
abbrev pub ByFollower : {A : Type 0} → A → (HeldFollower → A → HeldFollower → Type 0) → Contents → A → Contents → Type 0
ByFollower other Calls (contents.Follower held) answer new = (after : HeldFollower) × (new ≡ contents.Follower after) × Calls held answer after
ByFollower other Calls (contents.Segment owned) answer new = (answer ≡ other) × (new ≡ contents.Segment owned)
ByFollower other Calls (contents.Recorder joinable) answer new = (answer ≡ other) × (new ≡ contents.Recorder joinable)
ByFollower other Calls (contents.Sums sums) answer new = (answer ≡ other) × (new ≡ contents.Sums sums)
ByFollower other Calls contents.Nothing answer new = (answer ≡ other) × (new ≡ contents.Nothing)

-- the same of a handle, which may be empty: the units are written where C asked for them
abbrev pub AnswersSkipCall : List ℕ → Option Contents → ℕ → ℕ → ℕ → Option Contents → Type 0
AnswersSkipCall words held status units units' held' =
    (answer : Result ℕ ℕ) × ByHandle (Err 3) (ByFollower (Err 5) (SkipsWords words)) held answer held' × IsWritten answer status units units'
