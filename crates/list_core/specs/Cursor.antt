-- A cursor along the list: what it does next, what becomes of it and of the word that it shares, and what cursors of one
-- word give.
use Rattle.std.specs.Prelude.{◌≡◌, ◌≢◌, ◌⊎◌, ℕ, ◌+◌, ◌<◌, ◌≤◌, ◌==◌, true, false, List, [], ◌∷◌, ◌++◌, length, slice_index, if◌then◌else◌, ⊤}
use Rattle.segment_image.specs.Words.{word_at}
use Rattle.segment_image.specs.declared.layout.TheConstants.{QUEUE, BLOCK_NEXT}
use Rattle.list_core.specs.declared.cursor.CursorStage.{CursorStage}
use Rattle.list_core.specs.declared.cursor.CursorStage.TheVariants.{LoadCursor, LoadNext, MoveCursor}
use Rattle.list_core.specs.declared.cursor.CursorStep.{CursorStep}
use Rattle.list_core.specs.declared.cursor.CursorStep.TheVariants.{More, Record, End, Stray}
use Rattle.list_core.specs.Chain.{is_reference, stops, IsList}
use Rattle.list_core.specs.Walk.{IsPrefix, stands_behind}

-- ---- one step

-- the number that a step finds: the shared word, or the next of the block that the cursor loaded from it
abbrev pub found_by : List ℕ → ℕ → CursorStage → ℕ
found_by words shared LoadCursor = shared
found_by words shared (LoadNext at) = word_at words (at + BLOCK_NEXT)
found_by words shared (MoveCursor at next) = shared

-- what a step that found a number says, in n words
abbrev pub said_of : ℕ → ℕ → CursorStage → CursorStep
said_of n found LoadCursor = if is_reference n found then More else Stray
said_of n found (LoadNext at) = if found == QUEUE then End else if is_reference n found then More else Stray
said_of n found (MoveCursor at next) = if found == at then Record next else More

-- what the cursor does after that: it starts again after it gave a record, found the end or came too late, and a step that strays
-- leaves it unchanged
abbrev pub stage_after : ℕ → ℕ → CursorStage → CursorStage
stage_after n found LoadCursor = if is_reference n found then LoadNext found else LoadCursor
stage_after n found (LoadNext at) = if found == QUEUE then LoadCursor else if is_reference n found then MoveCursor at found else LoadNext at
stage_after n found (MoveCursor at next) = LoadCursor

-- the shared word after a step that said this: the record that was given, or what it was
abbrev pub shared_after : ℕ → CursorStep → ℕ
shared_after shared (Record reference) = reference
shared_after shared More = shared
shared_after shared End = shared
shared_after shared Stray = shared

-- one step of a cursor, with the word that it shares before and after it
pub record IsStep (old : CursorStage) (words : List ℕ) (shared : ℕ) (new : CursorStage) (new_shared : ℕ) (step : CursorStep) : Type 0 where
  pub says : step ≡ said_of (length words) (found_by words shared old) old
  pub stage : new ≡ stage_after (length words) (found_by words shared old) old
  pub shared_is : new_shared ≡ shared_after shared step

-- a block whose next a cursor loads lies within n words
abbrev pub IsReach : ℕ → CursorStage → Type 0
IsReach n (LoadNext at) = is_reference n at ≡ true
IsReach n _ = ⊤

-- why a step gives a record: the shared word is still what the cursor had loaded, and that record was the next there
abbrev pub IsRecordBy : CursorStage → ℕ → ℕ → Type 0
IsRecordBy old shared reference = old ≡ MoveCursor shared reference

-- why a step says that the list ends: it loaded the next of the block where the cursor was, and that is the queue block
abbrev pub IsEndBy : CursorStage → List ℕ → Type 0
IsEndBy old words = (at : ℕ) × (old ≡ LoadNext at) × (word_at words (at + BLOCK_NEXT) ≡ QUEUE)

-- why a step strays: the shared word, or the next that it loaded, is no reference that a list can have
abbrev pub IsStrayBy : CursorStage → List ℕ → ℕ → Type 0
IsStrayBy old words shared =
    ((old ≡ LoadCursor) × (is_reference (length words) shared ≡ false))
    ⊎ ((at : ℕ) × (old ≡ LoadNext at) × (is_reference (length words) (word_at words (at + BLOCK_NEXT)) ≡ false))

-- ---- cursors of one word

-- The words have a list, the records that cursors gave are a front of its chain, and the word that they share is at the end of that
-- front.
pub record IsShared (words chain given : List ℕ) (shared : ℕ) : Type 0 where
  pub list : IsList words chain
  pub front : IsPrefix given chain
  pub behind : shared ≡ stands_behind given

-- where a cursor is: what it loaded from the shared word is the queue block or a record that was given, and the next that it
-- loaded there is the record after that on the chain
abbrev pub CursorStands : List ℕ → List ℕ → CursorStage → Type 0
CursorStands chain given LoadCursor = ⊤
CursorStands chain given (LoadNext at) = (k : ℕ) × (k ≤ length given) × (slice_index (stops chain) k ≡ at)
CursorStands chain given (MoveCursor at next) =
    (k : ℕ) × (k ≤ length given) × (k < length chain) × (slice_index (stops chain) k ≡ at) × (slice_index chain k ≡ next)

-- what cursors have given after one of them said this
abbrev pub given_after : List ℕ → CursorStep → List ℕ
given_after given (Record reference) = given ++ reference ∷ []
given_after given More = given
given_after given End = given
given_after given Stray = given

-- what a cursor may say when this was given of a chain: the record after it, or the end if that is all of the chain
abbrev pub MaySay : List ℕ → List ℕ → CursorStep → Type 0
MaySay chain given (Record reference) = IsPrefix (given ++ reference ∷ []) chain
MaySay chain given More = ⊤
MaySay chain given End = given ≡ chain
MaySay chain given Stray = ⊥

-- ---- many steps

-- Words with a list along its chain, cursors that share a word, by their numbers and what each does next, and the records that they
-- have given, in the order in which they were given.
pub record Sharing : Type 0 where
  pub words : List ℕ
  pub chain : List ℕ
  pub shared : ℕ
  pub cursors : ℕ → CursorStage
  pub given : List ℕ

-- Cursors share a word that was the queue block at first, when each was at its start. In any order, one of them steps, or the list
-- grows, and with it the chain at its end, as publishes make it.
pub data AreSharing : Sharing → Type 0 where
  opened : (words chain : List ℕ) → IsList words chain
      → AreSharing (record { words = words; chain = chain; shared = QUEUE; cursors = λ id. LoadCursor; given = [] })
  grown : (old : Sharing) (words chain : List ℕ) → AreSharing old → IsList words chain → IsPrefix old.chain chain
      → AreSharing (record old { words = words; chain = chain })
  stepped : (old : Sharing) (id shared : ℕ) (cursors : ℕ → CursorStage) (step : CursorStep) → AreSharing old
      → IsStep (old.cursors id) old.words old.shared (cursors id) shared step → ((other : ℕ) → other ≢ id → cursors other ≡ old.cursors other)
      → AreSharing (record old { shared = shared; cursors = cursors; given = given_after old.given step })

-- What they gave is a front of the chain, each record once, and the word is at the end of that front. None strays, and one that says
-- that the list ends says so when all of the chain was given.
pub record GivesFront (state : Sharing) : Type 0 where
  pub front : IsPrefix state.given state.chain
  pub once : (i j : ℕ) → i < j → j < length state.given → slice_index state.given i ≢ slice_index state.given j
  pub behind : state.shared ≡ stands_behind state.given
  pub says : (id : ℕ) → MaySay state.chain state.given
      (said_of (length state.words) (found_by state.words state.shared (state.cursors id)) (state.cursors id))

-- cursors of one word give a front of the chain, each record once, in any order of their steps, and while the list grows
abbrev pub CursorsGiveFronts : Type 0
CursorsGiveFronts = (state : Sharing) → AreSharing state → GivesFront state
