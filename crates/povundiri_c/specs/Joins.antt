-- How a segment that C holds makes recorders, lends them units and takes them back.
use Rattle.std.specs.Prelude.{◌≡◌, ◌≢◌, ◌⊎◌, ◌<◌, ◌≤◌, ℕ, Option, Some, None, Result, Ok, Err, MatchOption, MatchResult, option_map}
use Rattle.std.specs.Arc.{arc_value}
use Rattle.atomic_table.specs.Seated.{TableId}
use Rattle.segment_calls.specs.declared.refusal.Refusal.{Refusal}
use Rattle.segment_calls.specs.declared.refusal.Refusal.TheVariants.{NoUnits}
use Rattle.segment_image.specs.Checks.{first_fault}
use Rattle.segment_machine.specs.Seats.{getter, giver, joined, newcomer, offering, parent}
use Rattle.live_segment.specs.Holders.{IsSameOpener, view_of_opener}
use Rattle.live_segment.specs.Steps.{recorder_checks}
use Rattle.live_segment.specs.RecorderState.{given_fresh, IsSameRecorder}
use Rattle.owned_recorder.specs.Holders.{IsRecorderOf, view_of_owned}
use Rattle.owned_recorder.specs.declared.owned.OwnedRecorder.{OwnedRecorder}
use Rattle.povundiri_c.specs.declared.contents.Contents.{Contents}
use Rattle.povundiri_c.specs.declared.contents.Contents.TheVariants as contents
use Rattle.povundiri_c.specs.declared.owned_segment.OwnedSegment.{OwnedSegment}
use Rattle.povundiri_c.specs.declared.owned_segment.JoinOrLend.{JoinOrLend}
use Rattle.povundiri_c.specs.declared.owned_segment.JoinOrLend.TheVariants.{Join, Lend}
use Rattle.povundiri_c.specs.declared.joinable_recorder.JoinableRecorder.{JoinableRecorder}
use Rattle.povundiri_c.specs.Calls.{ByHandle}
use Rattle.povundiri_c.specs.Status.{status_of_refusal}
use Rattle.povundiri_c.specs.Mailbox.{BelongsTo, HasMetRecorder}

-- ---- a call of a segment

-- If it is no segment, that is returned, and it is unchanged; else the call is of the segment.
abbrev pub BySegment : {A : Type 0} → A → (OwnedSegment → A → OwnedSegment → Type 0) → Contents → A → Contents → Type 0
BySegment other Calls (contents.Segment owned) answer new = (after : OwnedSegment) × (new ≡ contents.Segment after) × Calls owned answer after
BySegment other Calls (contents.Recorder joinable) answer new = (answer ≡ other) × (new ≡ contents.Recorder joinable)
BySegment other Calls (contents.Sums sums) answer new = (answer ≡ other) × (new ≡ contents.Sums sums)
BySegment other Calls (contents.Follower held) answer new = (answer ≡ other) × (new ≡ contents.Follower held)
BySegment other Calls contents.Nothing answer new = (answer ≡ other) × (new ≡ contents.Nothing)

-- one that returns a value or a status
abbrev pub GivesOfSegment : {A : Type 0} → (OwnedSegment → Result A ℕ → OwnedSegment → Type 0) → Option Contents → Result A ℕ → Option Contents → Type 0
GivesOfSegment Calls = ByHandle (Err 3) (BySegment (Err 5) Calls)

-- it keeps its segment and its mailbox
abbrev pub KeepsSegment : OwnedSegment → OwnedSegment → Type 0
KeepsSegment old new = (new.segment ≡ old.segment) × (new.mailbox ≡ old.mailbox) × (new.cursors ≡ old.cursors) × IsSameOpener old.opener new.opener

-- ---- a recorder is made

-- why there is no recorder with this many units, if anything
abbrev pub fault_of_recorder : OwnedSegment → ℕ → Option Refusal
fault_of_recorder owned units = first_fault (recorder_checks (view_of_opener owned.opener) units)

-- A recorder of the segment has those units of its opener, as `owned_recorder` says.
abbrev pub HasMadeJoinable : ℕ → OwnedSegment → JoinableRecorder → OwnedSegment → Type 0
HasMadeJoinable units old joinable new =
    (fault_of_recorder old units ≡ None) × KeepsSegment old new × IsRecorderOf joinable.owned new.opener × (arc_value joinable.mailbox ≡ arc_value new.mailbox)
    × (view_of_opener new.opener ≡ parent (offering (view_of_opener old.opener) units))
    × (view_of_owned joinable.owned ≡ newcomer (offering (view_of_opener old.opener) units)) × (given_fresh joinable.owned.state ≡ 0)

-- There is none because of the first check that fails, or because memory ran out.
abbrev pub IsNoRecorder : ℕ → OwnedSegment → ℕ → Type 0
IsNoRecorder units owned status = ((why : Refusal) × (fault_of_recorder owned units ≡ Some why) × (status ≡ status_of_refusal why)) ⊎ (status ≡ 13)

-- a recorder is made; or the status says why not, and the segment is unchanged
abbrev pub GivesRecorder : ℕ → OwnedSegment → Result JoinableRecorder ℕ → OwnedSegment → Type 0
GivesRecorder units old answer new = MatchResult answer (λ joinable. HasMadeJoinable units old joinable new) (λ status. (new ≡ old) × IsNoRecorder units old status)

-- a recorder is in the handle that was empty; or the status says why not, and it is still empty
abbrev pub IsHanded : Result JoinableRecorder ℕ → ℕ → Option Contents → Type 0
IsHanded (Ok joinable) status out = (status ≡ 0) × (out ≡ Some (contents.Recorder joinable))
IsHanded (Err why) status out = (status ≡ why) × (out ≡ None)

-- A recorder of the segment is returned, or the status says why not. Or memory ran out for it, and the segment is unchanged.
abbrev pub AnswersRecorderCall : ℕ → Option Contents → ℕ → Option Contents → Option Contents → Type 0
AnswersRecorderCall units segment status segment' out =
    ((answer : Result JoinableRecorder ℕ) × GivesOfSegment (GivesRecorder units) segment answer segment' × IsHanded answer status out)
    ⊎ ((status ≡ 13) × (segment' ≡ segment) × (out ≡ None))

-- ---- which segment a recorder is of

-- A recorder is of a segment if they have one mailbox: no other segment has the same.
abbrev pub mailbox_of_recorder : JoinableRecorder → TableId
mailbox_of_recorder joinable = (arc_value joinable.mailbox).table.shared.table_id

-- the mailbox of a segment
abbrev pub mailbox_of_segment : OwnedSegment → TableId
mailbox_of_segment owned = (arc_value owned.mailbox).table.shared.table_id

-- ---- a recorder comes back, or does not

-- a segment has its opener still, and all that its recorders share
abbrev pub HasOpener : OwnedSegment → OwnedSegment → Type 0
HasOpener old new = (new.segment ≡ old.segment) × (new.mailbox ≡ old.mailbox) × (new.cursors ≡ old.cursors) × (new.opener ≡ old.opener)

-- a segment has all that it had
abbrev pub IsSameSegment : OwnedSegment → OwnedSegment → Type 0
IsSameSegment old new =
    (new.segment ≡ old.segment) × (new.opener ≡ old.opener) × (new.mailbox ≡ old.mailbox) × (new.keeper ≡ old.keeper) × (new.gone ≡ old.gone)
    × (new.cursors ≡ old.cursors)

-- it comes back unchanged, and the segment is unchanged
abbrev pub IsKept : JoinableRecorder → OwnedSegment → Option JoinableRecorder → OwnedSegment → Type 0
IsKept joinable old back new = (back ≡ Some joinable) × IsSameSegment old new

-- the segment has taken back a recorder of its own
abbrev pub HasJoined : OwnedRecorder → OwnedSegment → OwnedSegment → Type 0
HasJoined owned old new =
    KeepsSegment old new × IsRecorderOf owned old.opener × (view_of_opener new.opener ≡ joined (view_of_opener old.opener) (view_of_owned owned))

-- It comes back, since it is of another segment. One of this segment, which another thread passed to another, may have been taken back.
abbrev pub IsOfOther : JoinableRecorder → OwnedSegment → ℕ → Option JoinableRecorder → OwnedSegment → Type 0
IsOfOther joinable old status back new =
    (status ≡ 6) × (back ≡ Some joinable) × (IsSameSegment old new ⊎ ((owned : OwnedRecorder) × HasJoined owned old new))

-- It was laid in its own mailbox, and that mailbox's keeper has taken it from there: now the segment has the seat that had laid it.
abbrev pub HasGone : JoinableRecorder → OwnedSegment → Type 0
HasGone joinable new = HasMetRecorder (mailbox_of_recorder joinable) joinable.owned new.gone

-- it does not come back, and none was found here
abbrev pub IsElsewhere : OwnedSegment → ℕ → Option JoinableRecorder → OwnedSegment → Type 0
IsElsewhere old status back new = (status ≡ 14) × (back ≡ None) × HasOpener old new

-- ---- how a segment finds a recorder

-- A recorder of the segment is found. If the one that was passed is of this segment, it is that one; else that one has gone.
abbrev pub IsRecorderFound : JoinableRecorder → OwnedRecorder → OwnedSegment → OwnedSegment → Type 0
IsRecorderFound joinable found old new =
    HasOpener old new × BelongsTo found (arc_value old.mailbox).table.shared.key
    × (mailbox_of_recorder joinable ≡ mailbox_of_segment old → found ≡ joinable.owned)
    × (mailbox_of_recorder joinable ≢ mailbox_of_segment old → HasGone joinable new)

-- None is found. One of this segment comes back, since another thread passes one of this segment at the same moment. One of another segment
-- comes back too, unless its own segment took it, in a call of another thread.
abbrev pub IsNotFound : JoinableRecorder → OwnedSegment → ℕ → Option JoinableRecorder → OwnedSegment → Type 0
IsNotFound joinable old status back new =
    (mailbox_of_recorder joinable ≡ mailbox_of_segment old → (status ≡ 15) × IsKept joinable old back new)
    × (mailbox_of_recorder joinable ≢ mailbox_of_segment old
    → IsOfOther joinable old status back new ⊎ ((status ≡ 15) × IsKept joinable old back new) ⊎ (HasGone joinable new × IsElsewhere old status back new))

-- This is done with a recorder of the segment that is found, or one of these statuses says why nothing was done: then it comes back. One
-- of another segment comes back too, unless its own segment took it, in a call of another thread; then none was found here, or this is done
-- with the one that was.
abbrev pub IsPassed : (OwnedRecorder → OwnedSegment → ℕ → Option JoinableRecorder → OwnedSegment → Type 0) → (ℕ → Type 0)
    → JoinableRecorder → OwnedSegment → ℕ → Option JoinableRecorder → OwnedSegment → Type 0
IsPassed Does Refuses joinable old status back new =
    (mailbox_of_recorder joinable ≡ mailbox_of_segment old → Does joinable.owned old status back new ⊎ (Refuses status × IsKept joinable old back new))
    × (mailbox_of_recorder joinable ≢ mailbox_of_segment old
    → IsOfOther joinable old status back new ⊎ (Refuses status × IsKept joinable old back new)
    ⊎ (HasGone joinable new × (IsElsewhere old status back new ⊎ ((owned : OwnedRecorder) × Does owned old status back new))))

-- ---- a recorder is taken back

-- it is joined, and does not come back
abbrev pub IsJoinDone : OwnedRecorder → OwnedSegment → ℕ → Option JoinableRecorder → OwnedSegment → Type 0
IsJoinDone owned old status back new = (status ≡ 0) × (back ≡ None) × HasJoined owned old new

-- What is returned if a segment is given a recorder back. It comes back if another thread passes one of the same segment at the same
-- moment.
abbrev pub Joins : JoinableRecorder → OwnedSegment → ℕ → Option JoinableRecorder → OwnedSegment → Type 0
Joins = IsPassed IsJoinDone (λ status. status ≡ 15)

-- ---- a recorder is lent units

-- a recorder of the segment was lent units of its opener, as `lend` says, and this is what C then holds of it
abbrev pub HasLent : ℕ → OwnedRecorder → OwnedSegment → JoinableRecorder → OwnedSegment → Type 0
HasLent units owned old joinable new =
    KeepsSegment old new × IsRecorderOf owned old.opener × (arc_value joinable.mailbox ≡ arc_value new.mailbox) × (joinable.owned.segment ≡ owned.segment)
    × (view_of_opener new.opener ≡ giver (view_of_opener old.opener) units)
    × (view_of_owned joinable.owned ≡ getter (view_of_owned owned) units) × IsSameRecorder owned.state joinable.owned.state

-- it is lent them, and comes back
abbrev pub IsLendDone : ℕ → OwnedRecorder → OwnedSegment → ℕ → Option JoinableRecorder → OwnedSegment → Type 0
IsLendDone units owned old status back new = (status ≡ 0) × ((after : JoinableRecorder) × (back ≡ Some after) × HasLent units owned old after new)

-- the units that a segment has left to give
abbrev pub units_left : OwnedSegment → ℕ
units_left owned = (view_of_opener owned.opener).units.share

-- What is returned if the segment has the units. It comes back unchanged if no more recorders may share its mailbox, or another thread
-- passes one of the same segment at the same moment.
abbrev pub LendsOrNot : ℕ → JoinableRecorder → OwnedSegment → ℕ → Option JoinableRecorder → OwnedSegment → Type 0
LendsOrNot units = IsPassed (IsLendDone units) (λ status. (status ≡ 13) ⊎ (status ≡ 15))

-- if the segment has fewer, that is returned, whichever segment the recorder is of, and all is unchanged
abbrev pub Lends : ℕ → JoinableRecorder → OwnedSegment → ℕ → Option JoinableRecorder → OwnedSegment → Type 0
Lends units joinable old status back new =
    ((units_left old < units) × (status ≡ status_of_refusal NoUnits) × IsKept joinable old back new)
    ⊎ ((units ≤ units_left old) × LendsOrNot units joinable old status back new)

-- ---- a recorder is passed to a segment

-- what is returned, by what it is passed for
abbrev pub JoinsOrLends : JoinOrLend → JoinableRecorder → OwnedSegment → ℕ → Option JoinableRecorder → OwnedSegment → Type 0
JoinsOrLends Join = Joins
JoinsOrLends (Lend units) = Lends units

-- the recorder that contents are, if they are one
abbrev pub recorder_in : Contents → Option JoinableRecorder
recorder_in (contents.Recorder joinable) = Some joinable
recorder_in (contents.Segment owned) = None
recorder_in (contents.Sums sums) = None
recorder_in (contents.Follower held) = None
recorder_in contents.Nothing = None

-- If what is passed is no recorder, it comes back, and the segment is unchanged; else the recorder is served, and may come back. What is
-- returned is the status, and what was passed if it comes back.
abbrev pub ServesPassed : JoinOrLend → Contents → OwnedSegment → ℕ × Option Contents → OwnedSegment → Type 0
ServesPassed request passed old answer new =
    MatchOption (recorder_in passed) ((answer ≡ (5, Some passed)) × (new ≡ old))
    (λ joinable. (back : Option JoinableRecorder) × (answer.1 ≡ option_map contents.Recorder back) × JoinsOrLends request joinable old answer.0 back new)

-- the same of contents: if these are no segment, what is passed comes back too
abbrev pub ServesContents : JoinOrLend → Contents → Contents → ℕ × Option Contents → Contents → Type 0
ServesContents request passed = BySegment (5, Some passed) (ServesPassed request passed)

-- and of a handle, which may be empty
abbrev pub AnswersPassed : JoinOrLend → Contents → Option Contents → ℕ × Option Contents → Option Contents → Type 0
AnswersPassed request passed = ByHandle (3, Some passed) (ServesContents request passed)

-- a recorder is passed to be taken back
abbrev pub AnswersJoinCall : Contents → Option Contents → ℕ × Option Contents → Option Contents → Type 0
AnswersJoinCall = AnswersPassed Join

-- a recorder is passed to be lent units
abbrev pub AnswersLendCall : ℕ → Contents → Option Contents → ℕ × Option Contents → Option Contents → Type 0
AnswersLendCall units = AnswersPassed (Lend units)
