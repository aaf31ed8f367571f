-- The list: how it grows, what `hist` returns, and what walks and shared cursors give.
use Rattle.std.specs.Prelude.{◌≡◌, ℕ, ◌+◌, ◌<◌, ◌≤◌, List, [], ◌∷◌, ◌++◌, take, length, slice_index, ◌==◌, if◌then◌else◌, IsPermutation, false}
use Rattle.std.specs.List.{Contains}
use mathlib.Core.Option.{some}
use lib.ListN.{get_elem?}
use Rattle.segment_image.specs.declared.layout.TheConstants.{BLOCK_NEXT, QUEUE}
use Rattle.segment_image.specs.Shape.{Dimensions}
use Rattle.segment_image.specs.Words.{word_at}
use Rattle.segment_image.specs.Head.{head_of}
use Rattle.bucket_ranges.specs.declared.spec.Spec.{Spec}
use Rattle.bucket_ranges.specs.Spec.{SameSpec}
use Rattle.bucket_ranges.specs.Reading.{spec_of}
use Rattle.list_core.specs.Chain.{stops, IsChain}
use Rattle.list_core.specs.Walk.{IsPrefix, stands_behind}
use Rattle.segment_machine.specs.declared.place.Place.TheVariants.{CursorLoaded}
use Rattle.segment_machine.specs.declared.actor.Actor.{Actor}
use Rattle.segment_machine.specs.declared.actor.Known.{Known}
use Rattle.segment_machine.specs.Actor.{Each, all_given, given_by, is_opener}
use Rattle.segment_machine.specs.Made.{AreNameWords, IsFirstNamed, SawOtherSpec}
use Rattle.segment_machine.specs.Event.{Event, publishing_event}
use Rattle.segment_machine.specs.Publishing.{link}
use Rattle.segment_machine.specs.Walking.{records_met}
use Rattle.segment_machine.specs.State.{State, IsStep}
use Rattle.segment_machine.specs.Reached.{IsReached, started, stepped, announced, offered, split, lent, returned, purse_filled, purse_poured, joined_in}
use Rattle.segment_invariant.specs.Body.{Anatomy}
use Rattle.segment_invariant.specs.Consistent.{IsHistogram}
use Rattle.segment_invariant.specs.Seen.{IsFirst}
use Rattle.segment_invariant.specs.Invariant.{Invariant}
use Rattle.segment_invariant.specs.Keeps.{found_at}

-- ---- one step

-- the chain after an event that found a number: with one more record at its end if a link succeeds
abbrev pub chain_behind : Event → ℕ → List ℕ → List ℕ
chain_behind (publishing_event (link tail at)) found chain = if found == QUEUE then chain ++ at ∷ [] else chain
chain_behind _ found chain = chain

-- a link puts its record at the end of the chain, and nothing else changes the chain: so records come in the order of their links
abbrev pub LinksAppend : Type 0
LinksAppend = (shape : Dimensions) (opened : Anatomy) (old new : State) (id : ℕ) (event : Event) (chain : List ℕ)
    → Invariant shape opened old → IsStep opened.version old id event new → IsChain old.words (head_of old.words) chain
    → IsChain new.words (head_of new.words) (chain_behind event (found_at old event) chain)

-- ---- any steps

-- the records that were linked on the way from one state to another, in the order of their links
abbrev pub links_of : (version : ℕ) (start state : State) → IsReached version start state → List ℕ
links_of version start state started = []
links_of version start state (stepped old new id event before step) = chain_behind event (found_at old event) (links_of version start old before)
links_of version start state (announced old new id before told) = links_of version start old before
links_of version start state (offered old new id units before made) = links_of version start old before
links_of version start state (split old new id before made) = links_of version start old before
links_of version start state (lent old new id other units before made) = links_of version start old before
links_of version start state (returned old new id other units before made) = links_of version start old before
links_of version start state (purse_filled old new id before made) = links_of version start old before
links_of version start state (purse_poured old new id other before made) = links_of version start old before
links_of version start state (joined_in old new id other before made) = links_of version start old before

-- the chain of a state that is reached is that of the state from which it is reached, followed by the records that were linked since, in
-- the order of their links
abbrev pub ChainsAreLinks : Type 0
ChainsAreLinks = (shape : Dimensions) (opened : Anatomy) (start state : State) (chain : List ℕ) → Invariant shape opened start
    → (reached : IsReached opened.version start state) → IsChain start.words (head_of start.words) chain
    → IsChain state.words (head_of state.words) (chain ++ links_of opened.version start state reached)

-- ---- names

-- a histogram that a `hist` returned is the first of its name on the chain, and has the same spec
abbrev pub NamesAreFirst : Type 0
NamesAreFirst = (shape : Dimensions) (opened : Anatomy) (state : State) (chain : List ℕ) → Invariant shape opened state
    → IsChain state.words (head_of state.words) chain
    → Each state.actors (λ a. (known : Known) → Contains a.answers.names known
    → IsHistogram state.words chain known.name known.reference × SameSpec (spec_of state.words known.reference) known.spec)

-- a `hist` that sees another spec in the first record of its name, and so refuses with OtherSpec, is right: that record has another spec
abbrev pub OthersDiffer : Type 0
OthersDiffer = (shape : Dimensions) (opened : Anatomy) (state : State) → (kept : Invariant shape opened state)
    → Each state.actors (λ a. (name letters : List ℕ) (spec : Spec) (at : ℕ) → AreNameWords name letters
    → IsFirstNamed a.seen name at → SawOtherSpec a.seen spec (length letters) at
    → (kind : Spec) × IsFirst kept.anatomy.records name kind at × (¬ (SameSpec kind spec)))

-- ---- what is visited and given

-- a record that an actor has seen on the list, has made, was given, or saw as the tail or at a shared cursor
abbrev pub HasMet : Actor → ℕ → Type 0
HasMet a reference = Contains (a.seen.chain ++ records_met a) reference

-- A walk along the list gives the records of the chain in their order; at its end it has given all that its caller had made,
-- been given or seen. So does `records`, which gives them all, and so do the answers of `fresh_records` together, each from where the one
-- before it ended.
abbrev pub WalksGiveAll : Type 0
WalksGiveAll = (shape : Dimensions) (opened : Anatomy) (state : State) (chain : List ℕ) → Invariant shape opened state
    → IsChain state.words (head_of state.words) chain
    → Each state.actors (λ a. IsPrefix a.seen.chain chain × (word_at state.words (stands_behind a.seen.chain + BLOCK_NEXT) ≡ QUEUE
    → (reference : ℕ) → HasMet a reference → Contains a.seen.chain reference))

-- what a shared cursor gave one recorder is in the order of the chain
abbrev pub CursorsKeepOrder : Type 0
CursorsKeepOrder = (shape : Dimensions) (opened : Anatomy) (state : State) (chain : List ℕ) → Invariant shape opened state
    → IsChain state.words (head_of state.words) chain
    → Each state.actors (λ a. (cursor i j k l x y : ℕ) → is_opener a.role ≡ false → i < j
    → get_elem? (given_by cursor a.done.given) i ≡ some x → get_elem? (given_by cursor a.done.given) j ≡ some y
    → get_elem? chain k ≡ some x → get_elem? chain l ≡ some y → k < l)

-- what a shared cursor gave all actors is the front of the chain, each record once
abbrev pub CursorsGiveFronts : Type 0
CursorsGiveFronts = (shape : Dimensions) (opened : Anatomy) (state : State) (chain : List ℕ) (cursor : ℕ) → Invariant shape opened state
    → IsChain state.words (head_of state.words) chain → cursor < length state.cursors
    → (place : ℕ) × (place ≤ length chain) × (slice_index (stops chain) place ≡ slice_index state.cursors cursor)
    × IsPermutation (all_given state.actors cursor) (take place chain)

-- a shared cursor returns None only if it found the end of the list after the block that it loaded; then all that its caller had made,
-- been given or seen was given
abbrev pub CursorsGiveAll : Type 0
CursorsGiveAll = (shape : Dimensions) (opened : Anatomy) (state : State) → Invariant shape opened state
    → Each state.actors (λ a. (cursor at : ℕ) → a.hand.place ≡ CursorLoaded cursor at → word_at state.words (at + BLOCK_NEXT) ≡ QUEUE
    → (reference : ℕ) → HasMet a reference → Contains (all_given state.actors cursor) reference)
