-- What C's calls make of a segment, and what a handle holds after them.
use Rattle.std.specs.Prelude.{◌≡◌, ◌⊎◌, ◌<◌, ◌≤◌, ◌++◌, false, ℕ, List, drop, length, Option, Some, None, Result, Ok, Err, MatchOption}
use Rattle.std.specs.Arc.{arc_value}
use Rattle.segment_image.specs.Checks.{first_fault}
use Rattle.segment_machine.specs.Actor.{outstanding_of}
use Rattle.segment_calls.specs.declared.adopt_fault.AdoptFault.{AdoptFault}
use Rattle.image_adoption.specs.Checking.{IsFaultOf}
use Rattle.segment_calls.specs.declared.open_fault.OpenFault.TheVariants.{NoMemory}
use Rattle.live_segment.specs.declared.opener.Opener.{Opener}
use Rattle.live_segment.specs.declared.rule.Setting.{Setting}
use Rattle.live_segment.specs.declared.segment.Segment.{Segment}
use Rattle.live_segment.specs.Adopted.{IsAdopted, MayGoOn}
use Rattle.live_segment.specs.Closing.{DeltasAddUp, GaveFronts, IsImageOf, IsRisenBy, ReadsJoined, ReadsStopped, SnapshotsAgree}
use Rattle.live_segment.specs.Holders.{IsNew, opened_with, view_of_opener}
use Rattle.live_segment.specs.Rule.{open_checks}
use Rattle.povundiri_c.specs.declared.contents.Contents.{Contents}
use Rattle.povundiri_c.specs.declared.contents.Contents.TheVariants as contents
use Rattle.povundiri_c.specs.declared.owned_segment.OwnedSegment.{OwnedSegment}
use Rattle.povundiri_c.specs.declared.status.Refused.{Refused}
use Rattle.povundiri_c.specs.declared.types.SegmentShape.{SegmentShape}
use Rattle.povundiri_c.specs.Status.{status_of_adopt_fault, status_of_open_fault}

-- ---- a handle that is filled

-- a handle holds a segment and its opener
abbrev pub HoldsSegment : Segment → Opener → Option Contents → Type 0
HoldsSegment segment opener new =
    (owned : OwnedSegment) × (new ≡ Some (contents.Segment owned)) × (arc_value owned.segment ≡ segment) × (owned.opener ≡ opener)

-- a handle is filled with these two; or memory ran out, and it is unchanged
abbrev pub IsFilledWith : Segment → Opener → ℕ → Option Contents → Option Contents → Type 0
IsFilledWith segment opener status old new = ((status ≡ 0) × HoldsSegment segment opener new) ⊎ ((status ≡ 13) × (new ≡ old))

-- a segment and an opener of this sort were made, and a handle is filled with them, or memory ran out for that
abbrev pub IsHandleFilled : (Segment → Opener → Type 0) → ℕ → Option Contents → Option Contents → Type 0
IsHandleFilled Is status old new = (segment : Segment) × (opener : Opener) × Is segment opener × IsFilledWith segment opener status old new

-- a handle is filled so, by a segment in a room; or memory ran out for what lends the room, and it is unchanged
abbrev pub InLentRoom : (ℕ → Option Contents → Option Contents → Type 0) → ℕ → Option Contents → Option Contents → Type 0
InLentRoom Fills status old new = Fills status old new ⊎ ((status ≡ 13) × (new ≡ old))

-- An empty handle is filled so. One that holds something is unchanged, and that is returned.
abbrev pub IntoEmpty : (ℕ → Option Contents → Option Contents → Type 0) → Option Contents → ℕ → Option Contents → Type 0
IntoEmpty Fills None status new = Fills status None new
IntoEmpty Fills (Some it) status new = (status ≡ 4) × (new ≡ Some it)

-- ---- `create` and `adopt`

-- how a segment is made
abbrev pub setting_asked : SegmentShape → Setting
setting_asked asked =
    record { shape = record { size = asked.size; page = asked.page }; version = asked.version; id = asked.id; cursors = asked.cursors; full = false }

-- The first fault of the shape is returned, and the handle is unchanged. If there is none, a new segment is made so; or memory ran out for
-- its words.
abbrev pub IsCreated : SegmentShape → ℕ → Option Contents → Option Contents → Type 0
IsCreated asked status old new =
    MatchOption (first_fault (open_checks asked.size asked.page asked.cursors asked.version))
    (IsHandleFilled (IsNew (setting_asked asked)) status old new ⊎ ((status ≡ status_of_open_fault NoMemory) × (new ≡ old)))
    (λ why. (status ≡ status_of_open_fault why) × (new ≡ old))

-- a segment continues from the image; or the right fault is returned, and the handle is unchanged
abbrev pub IsTakenUp : List ℕ → ℕ → ℕ → Option Contents → Option Contents → Type 0
IsTakenUp words cursors status old new =
    IsHandleFilled (IsAdopted words cursors) status old new
    ⊎ ((why : AdoptFault) × IsFaultOf words cursors why × (status ≡ status_of_adopt_fault why) × (new ≡ old))

-- ---- `close`

-- how many words a segment has
abbrev pub size_of : OwnedSegment → ℕ
size_of owned = (arc_value owned.segment).setting.shape.size

-- the image of a segment that has ended, for the opener that was made with it: what `Segment::close` says of it; and it is whole
pub record IsImageFrom (segment : Segment) (opener : Opener) (image : List ℕ) : Type 0 where
  pub image_of : IsImageOf segment.setting image
  pub joined : outstanding_of (view_of_opener opener).role ≡ 0 → ReadsJoined segment.setting (view_of_opener opener) image
  pub deltas : outstanding_of (view_of_opener opener).role ≡ 0 → DeltasAddUp (view_of_opener opener)
  pub snapshots : outstanding_of (view_of_opener opener).role ≡ 0 → SnapshotsAgree (view_of_opener opener)
  pub given : outstanding_of (view_of_opener opener).role ≡ 0 → GaveFronts (view_of_opener opener) image
  pub risen : IsRisenBy (opened_with segment) (view_of_opener opener) image
  pub stopped : ReadsStopped (opened_with segment) (view_of_opener opener) image
  pub goes_on : MayGoOn image
  pub whole : length image ≡ segment.setting.shape.size

-- Why contents were not closed: the image does not fit in this many words, and its length is returned; or recorders are left. Contents that
-- are no segment are of another kind.
abbrev pub IsNotClosed : ℕ → Contents → Refused → Type 0
IsNotClosed room (contents.Segment owned) why =
    ((room < size_of owned) × (why.status ≡ 7) × (why.length ≡ size_of owned)) ⊎ ((size_of owned ≤ room) × (why.status ≡ 11) × (why.length ≡ 0))
IsNotClosed room (contents.Recorder joinable) why = (why.status ≡ 5) × (why.length ≡ 0)
IsNotClosed room (contents.Sums sums) why = (why.status ≡ 5) × (why.length ≡ 0)
IsNotClosed room (contents.Follower held) why = (why.status ≡ 5) × (why.length ≡ 0)
IsNotClosed room contents.Nothing why = (why.status ≡ 5) × (why.length ≡ 0)

-- the contents are a segment whose image fits in this many words, and it is returned; or why not
abbrev pub AnswersClose : ℕ → Contents → Result (List ℕ) Refused → Type 0
AnswersClose room it (Ok image) =
    (owned : OwnedSegment) × (it ≡ contents.Segment owned) × (size_of owned ≤ room) × IsImageFrom (arc_value owned.segment) owned.opener image
AnswersClose room it (Err why) = IsNotClosed room it why

-- The image is at the front of the array, what comes after it there is unchanged, its length is returned, and the handle is empty. Or the
-- status and the length say why not, and the array and what the handle holds are unchanged.
abbrev pub IsClosedWith : Contents → Result (List ℕ) Refused → ℕ → ℕ → List ℕ → List ℕ → Option Contents → Type 0
IsClosedWith it (Ok image) status needed words words' new =
    (status ≡ 0) × (needed ≡ length image) × (words' ≡ image ++ drop (length image) words) × (new ≡ None)
IsClosedWith it (Err why) status needed words words' new = (status ≡ why.status) × (needed ≡ why.length) × (words' ≡ words) × (new ≡ Some it)

-- If the handle is empty, that is returned, and all is unchanged; else what it holds is closed so.
abbrev pub AnswersCloseCall : Option Contents → ℕ → ℕ → ℕ → List ℕ → List ℕ → Option Contents → Type 0
AnswersCloseCall None status needed needed' words words' new = (status ≡ 3) × (needed' ≡ needed) × (words' ≡ words) × (new ≡ None)
AnswersCloseCall (Some it) status needed needed' words words' new =
    (answer : Result (List ℕ) Refused) × AnswersClose (length words) it answer × IsClosedWith it answer status needed' words words' new
