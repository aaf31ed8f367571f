-- The rule of a mailbox, which has room for one recorder.
use Rattle.std.specs.Arc.{arc_value}
use Rattle.std.specs.Prelude.{◌≡◌, ◌≢◌, ◌⊎◌, ◌≤◌, ◌<◌, ◌+◌, ◌%◌, ◌^◌, ◌∷◌, [], ℕ, Bool, true, false, List, slice_index, length, Option, Some, None, IfSome, MatchOption, Result, MatchResult}
use mathlib.Core.Option.{some}
use mathlib.Core.Option as maybe
use lib.ListN.{get_elem?}
use Rattle.atomic_table.specs.Seated.{TableId}
use Rattle.atomic_table.specs.declared.shared.Seat.{Seat}
use Rattle.atomic_table.specs.Table.{State, Me, rest}
use Rattle.live_segment.specs.declared.opener.Opener.{Opener}
use Rattle.owned_recorder.specs.declared.owned.OwnedRecorder.{OwnedRecorder}
use Rattle.povundiri_c.specs.declared.seat_state.SeatState.{SeatState}
use Rattle.povundiri_c.specs.declared.seat_state.SeatState.TheVariants.{Nothing, Reaches, Laid, Met}
use Rattle.live_segment.specs.Holders.{view_of_opener}
use Rattle.owned_recorder.specs.Holders.{IsRecorderOf}

-- how many cursors the recorders of an opener's segment share
abbrev pub cursors_of : Opener → ℕ
cursors_of opener = (view_of_opener opener).segment.cursors

-- a recorder is of the opener's segment, which has as many shared cursors as the recorder's
abbrev pub BelongsTo : OwnedRecorder → Opener → Type 0
BelongsTo owned opener = IsRecorderOf owned opener × ((arc_value owned.segment).setting.cursors ≡ cursors_of opener)

-- a recorder, if there is one, is of the opener's segment
abbrev pub IsOfOpener : Opener → Option OwnedRecorder → Type 0
IsOfOpener opener value = IfSome value (λ owned. BelongsTo owned opener)

-- ---- what a seat knows of a mailbox

-- an opener of the segment, whether the seat is the keeper's, a number that the mailbox has had, and what the thread has done at that
abbrev pub View : Type 0
View = Opener × Bool × ℕ × SeatState

-- the seat of a mailbox
abbrev pub MailboxSeat : Type 0
MailboxSeat = Seat (Option OwnedRecorder) View

-- a place: in it is a recorder or none, or what was in it was taken out
abbrev pub Home : Type 0
Home = maybe.Option (maybe.Option (Option OwnedRecorder))

-- the keeper's seat at first
abbrev pub begins : Opener → View
begins opener = (opener, true, 0, Nothing)

-- a thread that knows nothing yet
abbrev pub stranger : Opener → View
stranger opener = (opener, false, 0, Nothing)

-- What a seat knows is true: the mailbox's number is that or a later one. Or the thread reaches into the mailbox at that number, and no
-- other does. Or its recorder is there while the mailbox still has that number; and if it is the keeper's seat, the mailbox still has it.
-- Or the mailbox has a later number.
abbrev pub IsSo : ℕ → Home → ℕ → ℕ → Bool → ℕ → SeatState → Type 0
IsSo number home last id keeper at Nothing = at ≤ number
IsSo number home last id keeper at Reaches = (number ≡ at) × (number % 2 ≡ 1) × (id ≡ last)
IsSo number home last id keeper at (Laid recorder) =
    (at ≤ number) × (at % 4 ≡ 2) × (number ≡ at → (home ≡ some (some (Some recorder))) × (id ≡ last)) × (keeper ≡ true → number ≡ at)
IsSo number home last id keeper at (Met recorder) = at < number

-- ---- the rule

-- at an even number, there is no recorder exactly if 4 divides it
abbrev pub IsRight : ℕ → Option OwnedRecorder → Type 0
IsRight number value = MatchOption value (number % 4 ≡ 0) (λ _. number % 4 ≡ 2)

-- while the number is even, a recorder of the segment or none is in its place
abbrev pub IsInPlace : Opener → ℕ → Home → Type 0
IsInPlace opener number home =
    number % 2 ≡ 0 → (value : Option OwnedRecorder) × (home ≡ some (some value)) × IsOfOpener opener value × IsRight number value

-- There is one keeper's seat at most, and what each seat knows is true. One of them was the last that reached into the mailbox.
abbrev pub AreSo : Opener → ℕ → Home → List View → Type 0
AreSo opener number home views =
    (last kept_by : ℕ) × ((id : ℕ) (view : View) → get_elem? views id ≡ some view
    → (view.0 ≡ opener) × (view.1 ≡ true → id ≡ kept_by) × IsSo number home last id view.1 view.2 view.3)

-- the mailbox has one number and one place
abbrev pub IsMailbox : Opener → State (Option OwnedRecorder) View → Type 0
IsMailbox opener s =
    (length s.words ≡ 1) × (length s.homes ≡ 1) × IsInPlace opener (slice_index s.words 0) (get_elem? s.homes 0)
    × AreSo opener (slice_index s.words 0) (get_elem? s.homes 0) s.views

-- ---- steps

-- a number that the mailbox has fits what a seat knows of it
abbrev pub FitsState : ℕ → Bool → ℕ → SeatState → Type 0
FitsState number keeper at Nothing = at ≤ number
FitsState number keeper at Reaches = Unit {0}
FitsState number keeper at (Laid recorder) = keeper ≡ true → number ≡ at
FitsState number keeper at (Met recorder) = at < number

-- the same of what a seat has of the mailbox
abbrev pub FitsNumber : ℕ → View → Type 0
FitsNumber number view = FitsState number view.1 view.2 view.3

-- a seat has laid this recorder in the mailbox, at a number
abbrev pub HasLaid : ℕ → OwnedRecorder → View → Type 0
HasLaid number recorder view = (view.2 ≡ number) × (view.3 ≡ Laid recorder)

-- Any thread may reach into an empty mailbox, and the keeper also if a recorder is there. A thread that has laid a recorder there may reach
-- for that one.
abbrev pub MayReachFrom : ℕ → Bool → ℕ → SeatState → Type 0
MayReachFrom number keeper at Nothing = (number % 4 ≡ 0) ⊎ (keeper ≡ true)
MayReachFrom number keeper at Reaches = ⊥
MayReachFrom number keeper at (Laid recorder) = number ≡ at
MayReachFrom number keeper at (Met recorder) = ⊥

-- the same of what a seat has of the mailbox
abbrev pub MayReachInto : ℕ → View → Type 0
MayReachInto number view = MayReachFrom number view.1 view.2 view.3

-- what was there at a number is the recorder that was laid there at this number
abbrev pub IsOfNote : ℕ → View → Option OwnedRecorder → Type 0
IsOfNote number view value = (recorder : OwnedRecorder) → HasLaid number recorder view → value ≡ Some recorder

-- it was taken from there, at a number
abbrev pub IsTaken : ℕ → View → Me (Option OwnedRecorder) View → Type 0
IsTaken number before after =
    (value : Option OwnedRecorder) × (after.0 ≡ (before.0, before.1, number + 1, Reaches)) × (after.1 ≡ (0, value) ∷ [])
    × IsOfOpener before.0 value × IsOfNote number before value × IsRight number value

-- what it knows if the mailbox had another number
abbrev pub missed_state : SeatState → SeatState
missed_state Nothing = Nothing
missed_state Reaches = Reaches
missed_state (Laid recorder) = Met recorder
missed_state (Met recorder) = Met recorder

abbrev pub missed : Me (Option OwnedRecorder) View → Me (Option OwnedRecorder) View
missed me = ((me.0.0, me.0.1, me.0.2, missed_state me.0.3), me.1)

-- If the mailbox had that number, it was taken from there. Else nothing was done, and a recorder that was laid there was taken by another.
abbrev pub HasReached : ℕ → Me (Option OwnedRecorder) View → ℕ → Me (Option OwnedRecorder) View → Type 0
HasReached number before found after =
    FitsNumber found before.0 × (found ≡ number → IsTaken number before.0 after) × (found ≢ number → after ≡ missed before)

-- what a seat knows when it has put this there at a number
abbrev pub noted : ℕ → Opener → Bool → Option OwnedRecorder → View
noted number opener keeper None = (opener, keeper, number, Nothing)
noted number opener keeper (Some recorder) = (opener, keeper, number, Laid recorder)

-- the same, of the places that it has taken
abbrev pub noted_of : ℕ → View → List (ℕ × Option OwnedRecorder) → View
noted_of number view [] = view
noted_of number view (one ∷ _) = noted number view.0 view.1 one.1

-- it was put there, at a number
abbrev pub IsPut : ℕ → Me (Option OwnedRecorder) View → Me (Option OwnedRecorder) View → Type 0
IsPut number before after = (after.0 ≡ noted_of number before.0 before.1) × (after.1 ≡ rest before.1)

-- ---- calls

-- At a number, this was put there by a seat, and what was there was taken. Or the mailbox had another number: it comes back, and the seat
-- is the same.
abbrev pub Replaces : ℕ → Option OwnedRecorder → MailboxSeat → Result (Option OwnedRecorder) (Option OwnedRecorder) → MailboxSeat → Type 0
Replaces number recorder before result after =
    MatchResult result
    (λ found. (after.table_id ≡ before.table_id) × (after.me ≡ (noted (number + 2) before.me.0.0 before.me.0.1 recorder, []))
    × IsOfOpener before.me.0.0 found × IsOfNote number before.me.0 found × IsRight number found × FitsNumber number before.me.0)
    (λ back. (back ≡ recorder) × (after.table_id ≡ before.table_id) × (after.id ≡ before.id) × (after.me ≡ missed before.me)
    × ((other : ℕ) × (other ≢ number) × FitsNumber other before.me.0))

-- of two seats, the first does so if both are of one mailbox, and else the second; the other one is the same
abbrev pub ReplacesBy : ℕ → Option OwnedRecorder → MailboxSeat × MailboxSeat → Result (Option OwnedRecorder) (Option OwnedRecorder) → MailboxSeat × MailboxSeat → Type 0
ReplacesBy number recorder old result new =
    (old.0.table_id ≡ old.1.table_id → Replaces number recorder old.0 result new.0 × (new.1 ≡ old.1))
    × (old.0.table_id ≢ old.1.table_id → Replaces number recorder old.1 result new.1 × (new.0 ≡ old.0))

-- whichever of the two does so may reach into the mailbox
abbrev pub MayReachBy : ℕ → MailboxSeat × MailboxSeat → Type 0
MayReachBy number seats =
    (seats.0.table_id ≡ seats.1.table_id → MayReachInto number seats.0.me.0) × (seats.0.table_id ≢ seats.1.table_id → MayReachInto number seats.1.me.0)

-- the keeper's seat of a mailbox, which has nothing there
abbrev pub IsKeeper : TableId → Opener → MailboxSeat → Type 0
IsKeeper table opener seat =
    (seat.table_id ≡ table) × (seat.me.1 ≡ []) × (seat.me.0.0 ≡ opener) × (seat.me.0.1 ≡ true) × (seat.me.0.3 ≡ Nothing)

-- a keeper may take what lies there, if its own recorder, if any, was laid at a number that is not too high
abbrev pub MayTake : ℕ → SeatState → Type 0
MayTake at Nothing = Unit {0}
MayTake at Reaches = ⊥
MayTake at (Laid recorder) = (at % 4 ≡ 2) × (at < 2 ^ 60 + 4)
MayTake at (Met recorder) = ⊥

-- The keeper takes what is there, or nothing is and its seat is unchanged. A recorder that it has laid there itself is there.
abbrev pub KeeperTakes : MailboxSeat → Option OwnedRecorder → MailboxSeat → Type 0
KeeperTakes before met after =
    MatchOption met (after ≡ before)
    (λ found. (number : ℕ) × (after.table_id ≡ before.table_id) × (after.me ≡ ((before.me.0.0, true, number + 2, Nothing), []))
    × IsOfOpener before.me.0.0 (Some found) × FitsNumber number before.me.0)
    × ((number : ℕ) (recorder : OwnedRecorder) → HasLaid number recorder before.me.0 → met ≡ Some recorder)

-- a recorder was laid in a mailbox, and that mailbox's keeper has taken it
abbrev pub HasMetRecorder : TableId → OwnedRecorder → MailboxSeat → Type 0
HasMetRecorder table recorder seat = (seat.table_id ≡ table) × (seat.me.0.3 ≡ Met recorder)

-- A recorder is passed from its own mailbox to another, which has a keeper: what was taken from the other one, and the recorder if it is
-- back. If both are one mailbox, the recorder is what was taken; if they are not, and it is not back, its own mailbox's keeper has taken
-- it. Or its mailbox was in use: the recorder is back, and nothing was done.
abbrev pub Passes : TableId → TableId → Opener → OwnedRecorder → MailboxSeat × MailboxSeat
    → Result (Option OwnedRecorder × Option OwnedRecorder) OwnedRecorder → MailboxSeat × MailboxSeat → Type 0
Passes from to opener recorder before result after =
    MatchResult result
    (λ passed. IsOfOpener opener passed.0 × MatchOption passed.1 (from ≢ to → HasMetRecorder from recorder after.1) (λ back. (back ≡ recorder) × (after.1 ≡ before.1))
    × (passed.0 ≡ None → after.0 ≡ before.0) × (from ≡ to → passed ≡ (Some recorder, None)))
    (λ back. (back ≡ recorder) × (after ≡ before))
