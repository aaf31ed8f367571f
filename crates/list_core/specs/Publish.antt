-- A publish: what it does next, what becomes of it, and what it does to a list.
use Rattle.std.specs.Prelude.{◌≡◌, ℕ, ◌+◌, ◌≤◌, ◌==◌, ◌⊎◌, Bool, true, false, List, [], ◌∷◌, ◌++◌, length, Option, Some, None, if◌then◌else◌, ⊤}
use Rattle.segment_image.specs.Words.{word_at}
use Rattle.segment_image.specs.declared.layout.TheConstants.{HEADER_WORDS, TAIL_WORD, QUEUE, BLOCK_NEXT, BLOCK_LEAST}
use Rattle.alloc_core.specs.Event.{Access, load, store, exchange, spot, after}
use Rattle.list_core.specs.declared.publish.PubStage.{PubStage}
use Rattle.list_core.specs.declared.publish.PubStage.TheVariants.{StoreOwnNext, LoadTail, Link, MoveTail, Published, Strayed}
use Rattle.list_core.specs.declared.publish.PubStep.{PubStep}
use Rattle.list_core.specs.declared.publish.PubStep.TheVariants as said
use Rattle.list_core.specs.Chain.{is_reference, IsStop, AreNeighbours, IsList}

-- a plain record of a publish: the record that it publishes, and what it does next
pub record Publishing : Type 0 where
  pub reference : ℕ
  pub stage : PubStage

-- the events of a publish
abbrev pub store_own_next : ℕ → Access
store_own_next reference = store (reference + BLOCK_NEXT) QUEUE

abbrev pub load_tail : Access
load_tail = load TAIL_WORD

abbrev pub link : ℕ → ℕ → Access
link tail reference = exchange (tail + BLOCK_NEXT) QUEUE reference

abbrev pub move_tail : ℕ → ℕ → Access
move_tail old new = exchange TAIL_WORD old new

-- the next event at a stage, if the publish has not ended
abbrev pub event_at : ℕ → PubStage → Option Access
event_at reference StoreOwnNext = Some (store_own_next reference)
event_at reference LoadTail = Some load_tail
event_at reference (Link tail) = Some (link tail reference)
event_at reference (MoveTail old new linked) = Some (move_tail old new)
event_at reference Published = None
event_at reference Strayed = None

-- the next event of a publish, or none if it has ended
abbrev pub next_event : Publishing → Option Access
next_event publish = event_at publish.reference publish.stage

-- the stage after the exchange of the tail: a record that is linked is published, and another tries again
abbrev pub stage_of_move : Bool → PubStage
stage_of_move true = Published
stage_of_move false = LoadTail

-- the stage after an event that found a number, in n words
abbrev pub stage_after : ℕ → ℕ → ℕ → PubStage → PubStage
stage_after n reference found StoreOwnNext = LoadTail
stage_after n reference found LoadTail = if is_reference n found then Link found else Strayed
stage_after n reference found (Link tail) =
    if found == QUEUE then MoveTail tail reference true
    else if is_reference n found then MoveTail tail found false
    else Strayed
stage_after n reference found (MoveTail old new linked) = stage_of_move linked
stage_after n reference found Published = Published
stage_after n reference found Strayed = Strayed

-- a publish after its next event, which found a number in n words
abbrev pub moved : ℕ → Publishing → ℕ → Publishing
moved n publish found = record publish { stage = stage_after n publish.reference found publish.stage }

-- what a step that leads to a stage returns
abbrev pub answer : PubStage → PubStep
answer Published = said.Done
answer Strayed = said.Stray
answer _ = said.More

-- one step: the next event happens, the publish becomes what that makes of it, and the answer is that of its new stage
pub record IsStep (old : Publishing) (words : List ℕ) (new : Publishing) (new_words : List ℕ) (step : PubStep) : Type 0 where
  pub event : Access
  pub next : next_event old ≡ Some event
  pub words_are : new_words ≡ after event words
  pub new_is : new ≡ moved (length words) old (word_at words (spot event))
  pub answers : step ≡ answer new.stage

-- why a step strays: the tail that it loaded, or the next that it found, is no reference that a list can have
abbrev pub IsStrayBy : Publishing → List ℕ → Type 0
IsStrayBy old words =
    ((old.stage ≡ LoadTail) × (is_reference (length words) (word_at words TAIL_WORD) ≡ false))
    ⊎ ((tail : ℕ) × (old.stage ≡ Link tail) × (is_reference (length words) (word_at words (tail + BLOCK_NEXT)) ≡ false))

-- what a publish stores into lies within n words
abbrev pub IsWithin : ℕ → PubStage → Type 0
IsWithin n (Link tail) = is_reference n tail ≡ true
IsWithin n _ = ⊤

-- a publish of a record within n words, which are at least the words of a header
pub record IsReach (n : ℕ) (publish : Publishing) : Type 0 where
  pub headed : HEADER_WORDS ≤ n
  pub from : HEADER_WORDS ≤ publish.reference
  pub ends : publish.reference + BLOCK_LEAST ≤ n
  pub within : IsWithin n publish.stage

-- a publish before its first event
abbrev pub started : ℕ → Publishing
started reference = record { reference = reference; stage = StoreOwnNext }

-- the chain after the event of a stage: longer by the record, at its end, if the link succeeds
abbrev pub chain_at : List ℕ → List ℕ → ℕ → PubStage → List ℕ
chain_at words chain reference (Link tail) = if word_at words (tail + BLOCK_NEXT) == QUEUE then chain ++ reference ∷ [] else chain
chain_at words chain reference _ = chain

-- the chain after the next event of a publish
abbrev pub chain_after : List ℕ → List ℕ → Publishing → List ℕ
chain_after words chain publish = chain_at words chain publish.reference publish.stage

-- a record that is not on the chain yet, and whose next is stored
abbrev pub AwaitsLink : List ℕ → List ℕ → ℕ → Type 0
AwaitsLink words chain reference = (¬ (IsStop chain reference)) × (word_at words (reference + BLOCK_NEXT) ≡ QUEUE)

-- where a publish is, by its stage: its record is off the chain until it is linked
abbrev pub PublishStands : List ℕ → List ℕ → ℕ → PubStage → Type 0
PublishStands words chain reference StoreOwnNext = ¬ (IsStop chain reference)
PublishStands words chain reference LoadTail = AwaitsLink words chain reference
PublishStands words chain reference (Link tail) = AwaitsLink words chain reference × IsStop chain tail
PublishStands words chain reference (MoveTail old new true) = AreNeighbours chain old new × (new ≡ reference)
PublishStands words chain reference (MoveTail old new false) = AreNeighbours chain old new × AwaitsLink words chain reference
PublishStands words chain reference Published = IsStop chain reference
PublishStands words chain reference Strayed = ⊥

-- words with a list, and a publish that is where its stage says
pub record StandsOn (words chain : List ℕ) (publish : Publishing) : Type 0 where
  pub list : IsList words chain
  pub stands : PublishStands words chain publish.reference publish.stage

-- the tail of a list is where it was in earlier words, or at the next stop of their chain
abbrev pub TailGoesOn : List ℕ → List ℕ → List ℕ → Type 0
TailGoesOn chain words new_words =
    (word_at new_words TAIL_WORD ≡ word_at words TAIL_WORD) ⊎ AreNeighbours chain (word_at words TAIL_WORD) (word_at new_words TAIL_WORD)
