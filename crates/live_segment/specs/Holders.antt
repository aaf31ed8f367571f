-- The holders of a segment, openers and recorders: what they have done and seen, and which segment that is.
use Rattle.std.specs.Prelude.{◌≡◌, false, ◌<◌, ℕ, List, Err, MatchOption, MatchResult, Result, slice_set}
use Rattle.atomic_table.specs.Seated.{TableId}
use Rattle.segment_image.specs.declared.layout.TheConstants.{VERSION_WORD}
use Rattle.segment_image.specs.Checks.{first_fault}
use Rattle.segment_image.specs.Image.{blank_words}
use Rattle.segment_calls.specs.declared.open_fault.OpenFault.{OpenFault}
use Rattle.segment_calls.specs.declared.open_fault.OpenFault.TheVariants.{NoMemory}
use Rattle.segment_machine.specs.declared.actor.Actor.{Actor}
use Rattle.live_segment.specs.declared.rule.Opening.{Opening}
use Rattle.live_segment.specs.declared.rule.Setting.{Setting}
use Rattle.live_segment.specs.declared.segment.Segment.{Segment}
use Rattle.live_segment.specs.declared.opener.Opener.{Opener}
use Rattle.live_segment.specs.declared.recorder.Recorder.{Recorder}
use Rattle.segment_machine.specs.Actor.{is_opener, outstanding_of}
use Rattle.segment_machine.specs.Event.{Event, Ready}
use Rattle.live_segment.specs.Steps.{Pass}
use Rattle.live_segment.specs.Rule.{first_view, open_checks, words_of, IsOf}
use Rattle.live_segment.specs.RecorderState.{view_of_state}

-- the table that has the words of a segment
abbrev pub table_of : Segment → TableId
table_of segment = segment.table.shared.table_id

-- what a segment was opened as and with
abbrev pub opened_with : Segment → Opening
opened_with segment = segment.table.shared.key

-- what an opener has done and seen
abbrev pub view_of_opener : Opener → Actor
view_of_opener opener = opener.seat.me.0

-- what a recorder has done and seen
abbrev pub view_of_recorder : Recorder → Actor
view_of_recorder recorder = view_of_state recorder.state

-- a recorder's seat at a segment may do an event
pub record MayStep (segment : Segment) (seat : Pass) (event : Event) : Type 0 where
  pub table : seat.table_id ≡ table_of segment
  pub recorder : is_opener seat.me.0.role ≡ false
  pub ready : Ready seat.me.0 event

-- an opener was made with a segment
pub record IsMadeWith (segment : Segment) (opener : Opener) : Type 0 where
  pub table : opener.seat.table_id ≡ table_of segment
  pub of : IsOf segment.setting (view_of_opener opener)

-- a segment with this setting that was opened with these words, and its opener, which has done and seen this
pub record IsOpened (setting : Setting) (words : List ℕ) (first : Actor) (segment : Segment) (opener : Opener) : Type 0 where
  pub setting_is : segment.setting ≡ setting
  pub words_are : words_of (opened_with segment) ≡ words
  pub made : IsMadeWith segment opener
  pub view : view_of_opener opener ≡ first

-- a new segment with this setting, and its opener: its words are those of a blank image, except for the version
abbrev pub IsNew : Setting → Segment → Opener → Type 0
IsNew setting =
    IsOpened setting (slice_set (blank_words setting.shape.size setting.shape.page setting.id) VERSION_WORD setting.version) (first_view setting)

-- `create` returns the fault of the first check that fails; else a new segment with this setting, and its opener, or `NoMemory`
abbrev pub AnswersCreate : (size page id cursors version : ℕ) → Result (Segment × Opener) OpenFault → Type 0
AnswersCreate size page id cursors version result =
    MatchOption (first_fault (open_checks size page cursors version))
    (MatchResult result
    (λ made. IsNew
    (record { shape = record { size = size; page = page }; version = version; id = id; cursors = cursors; full = false }) made.0 made.1)
    (λ fault. fault ≡ NoMemory))
    (λ fault. result ≡ Err fault)

-- an opener has joined all recorders that it made
abbrev pub AllJoined : Opener → Type 0
AllJoined opener = outstanding_of (view_of_opener opener).role ≡ 0

-- an opener continues with the same segment
pub record IsSameOpener (old new : Opener) : Type 0 where
  pub table : new.seat.table_id ≡ old.seat.table_id

-- a recorder is one of the segment that an opener was made with
abbrev pub IsRecorderOf : Recorder → Opener → Type 0
IsRecorderOf recorder opener = recorder.state.seat.table_id ≡ opener.seat.table_id

-- a recorder records into a segment: an opener that was made with the segment may join it
abbrev pub RecordsInto : Segment → Recorder → Type 0
RecordsInto segment recorder = recorder.state.seat.table_id ≡ table_of segment

-- two recorders record into the same segment; or one recorder does before and after a call
abbrev pub SharesSegment : Recorder → Recorder → Type 0
SharesSegment one other = other.state.seat.table_id ≡ one.state.seat.table_id

-- the segment of a recorder has a shared cursor of this number
abbrev pub HasCursor : Recorder → ℕ → Type 0
HasCursor recorder cursor = cursor < (view_of_recorder recorder).segment.cursors
