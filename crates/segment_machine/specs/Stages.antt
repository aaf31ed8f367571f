-- An allocation, a publish and a walk are stepped by themselves, one event at a time. Here an actor follows each: while the two agree, the
-- next event is one that the actor may do, and after it they agree again.
use Rattle.std.specs.Prelude.{◌≡◌, true, false, ℕ, ◌+◌, ◌≤◌, List, Option, Some, None}
use Rattle.std.specs.List.{Contains}
use Rattle.segment_image.specs.declared.layout.TheConstants.{BLOCK_NEXT, QUEUE, TYPE_HISTOGRAM, TYPE_SAMPLE}
use Rattle.alloc_core.specs.declared.alloc.AllocStage.{AllocStage}
use Rattle.alloc_core.specs.declared.alloc.AllocStage.TheVariants.{LoadFlags, LoadFree, ExchangeFree, StoreSize, StoreCookie, StoreType, SetFull, Claimed, Full, Corrupt}
use Rattle.alloc_core.specs.Alloc.{Allocation, cookie_of, stage_of_plan, IsLawful}
use Rattle.alloc_core.specs.Alloc as alloc
use Rattle.alloc_core.specs.Event as atomic
use Rattle.alloc_core.specs.Planned.{planned, is_pointer}
use Rattle.list_core.specs.declared.publish.PubStage.{PubStage}
use Rattle.list_core.specs.declared.publish.PubStage.TheVariants.{StoreOwnNext, LoadTail, Link, MoveTail, Published, Strayed}
use Rattle.list_core.specs.Publish.{Publishing}
use Rattle.list_core.specs.Publish as publish
use Rattle.list_core.specs.Walk.{IsPrefix, said_of, given_after, stands_behind}
use Rattle.segment_machine.specs.declared.actor.Actor.{Actor}
use Rattle.segment_machine.specs.declared.actor.Made.{Made}
use Rattle.segment_machine.specs.declared.actor.Own.{Own}
use Rattle.segment_machine.specs.declared.place.Place.TheVariants.{Idle, FlagsLoaded, FreeLoaded, Raised, Sized, Marked, TailLoaded, Beaten, Linked}
use Rattle.segment_machine.specs.Operation.{single}
use Rattle.segment_machine.specs.Calls.{MayTurn}
use Rattle.segment_machine.specs.Made.{IsPayload}
use Rattle.segment_machine.specs.Allocating.{AllocatingEvent, load_flags, load_free, exchange_free, store_size, store_cookie, store_type, set_full, new_own}
use Rattle.segment_machine.specs.Allocating as allocating
use Rattle.segment_machine.specs.Publishing.{PublishingEvent, store_own_next, load_tail, link, move_tail, own_at, MayPublish}
use Rattle.segment_machine.specs.Publishing as publishing
use Rattle.segment_machine.specs.Walking.{load_next}
use Rattle.segment_machine.specs.Walking as walking

-- ---- an allocation

-- the event that is next at a stage
abbrev pub allocates : Allocation → AllocStage → Option AllocatingEvent
allocates allocation LoadFlags = Some load_flags
allocates allocation LoadFree = Some load_free
allocates allocation (ExchangeFree next purpose) = Some (exchange_free allocation.seen next allocation.size)
allocates allocation (StoreSize at size purpose) = Some (store_size at size)
allocates allocation (StoreCookie at size purpose) = Some (store_cookie at (cookie_of purpose))
allocates allocation (StoreType at size) = Some (store_type at allocation.tag)
allocates allocation SetFull = Some (set_full allocation.size)
allocates allocation (Claimed at size) = None
allocates allocation Full = None
allocates allocation Corrupt = None

-- where the actor is at a stage: it has loaded and stored what the allocation has; in the end it has a block of its own, or has set the
-- full flag, or has seen the corrupt one
abbrev pub StandsAtAllocStage : Actor → Allocation → AllocStage → Type 0
StandsAtAllocStage a allocation LoadFlags = MayTurn a
StandsAtAllocStage a allocation LoadFree = a.hand.place ≡ FlagsLoaded
StandsAtAllocStage a allocation (ExchangeFree next purpose) =
    (a.hand.place ≡ FreeLoaded allocation.seen) × (is_pointer a.segment.shape allocation.seen ≡ true)
    × (stage_of_plan allocation.seen (planned allocation.seen allocation.size a.segment.shape) ≡ ExchangeFree next purpose)
StandsAtAllocStage a allocation (StoreSize at size purpose) = a.hand.place ≡ Raised at size allocation.size
StandsAtAllocStage a allocation (StoreCookie at size purpose) = a.hand.place ≡ Sized at size allocation.size
StandsAtAllocStage a allocation (StoreType at size) = a.hand.place ≡ Marked at size
StandsAtAllocStage a allocation SetFull = a.hand.place ≡ FreeLoaded allocation.seen
StandsAtAllocStage a allocation (Claimed at size) = (a.hand.place ≡ Idle) × Contains a.hand.own (new_own at size allocation.tag)
StandsAtAllocStage a allocation Full = (a.hand.place ≡ Idle) × (a.done.filled ≡ true)
StandsAtAllocStage a allocation Corrupt = (a.hand.place ≡ Idle) × (a.seen.corrupt ≡ true)

-- an actor follows an allocation of a block of a type that it may claim
pub record FollowsAllocation (a : Actor) (allocation : Allocation) : Type 0 where
  pub lawful : IsLawful allocation
  pub shape : allocation.shape ≡ a.segment.shape
  pub least : TYPE_HISTOGRAM ≤ allocation.tag
  pub most : allocation.tag ≤ TYPE_SAMPLE
  pub stands : StandsAtAllocStage a allocation allocation.stage

-- while an actor agrees with an allocation, the next event is one that it may do, and they agree again
abbrev pub AllocationsAgree : Type 0
AllocationsAgree = (size version : ℕ) (a : Actor) (allocation : Allocation) (event : atomic.Access)
    → FollowsAllocation a allocation → alloc.next_event allocation ≡ Some event
    → (act : AllocatingEvent) × (allocates allocation allocation.stage ≡ Some act) × (allocating.operation size version act ≡ single event)
    × allocating.Ready a act
    × ((found : ℕ) → allocating.Learned a act found → FollowsAllocation (allocating.next a act found) (alloc.moved allocation found))

-- ---- a publish

-- the event that is next at a stage
abbrev pub publishes : ℕ → PubStage → Option PublishingEvent
publishes reference StoreOwnNext = Some (store_own_next reference)
publishes reference LoadTail = Some load_tail
publishes reference (Link tail) = Some (link tail reference)
publishes reference (MoveTail old new linked) = Some (move_tail old new)
publishes reference Published = None
publishes reference Strayed = None

-- the actor's own block at a reference is to hold this, and may be published as this; its next is this
abbrev pub OffersBlock : Actor → ℕ → Made → ℕ → Type 0
OffersBlock a reference made next =
    (own : Own) × (own_at a.hand.own reference ≡ Some own) × (own.next ≡ next) × (own.made ≡ Some made) × IsPayload made own.payload
    × MayPublish a own made

-- Where the actor is at a stage: its block waits until it is linked, and the tail that it loaded, or the record that beat it, is that of
-- the publish; in the end it has published. It never strays.
abbrev pub PublishesAt : Actor → ℕ → Made → PubStage → Type 0
PublishesAt a reference made StoreOwnNext = MayTurn a × OffersBlock a reference made 0
PublishesAt a reference made LoadTail = MayTurn a × OffersBlock a reference made QUEUE
PublishesAt a reference made (Link tail) = (a.hand.place ≡ TailLoaded tail) × OffersBlock a reference made QUEUE
PublishesAt a reference made (MoveTail old new true) =
    (a.hand.place ≡ Linked new old) × Contains a.done.published (record { reference = reference; made = made })
PublishesAt a reference made (MoveTail old new false) = (a.hand.place ≡ Beaten old new) × OffersBlock a reference made QUEUE
PublishesAt a reference made Published = (a.hand.place ≡ Idle) × Contains a.done.published (record { reference = reference; made = made })
PublishesAt a reference made Strayed = ⊥

-- the same of a publish
abbrev pub PublishesAgree : Type 0
PublishesAgree = (size version : ℕ) (a : Actor) (made : Made) (p : Publishing) (event : atomic.Access)
    → PublishesAt a p.reference made p.stage → publish.next_event p ≡ Some event
    → (act : PublishingEvent) × (publishes p.reference p.stage ≡ Some act) × (publishing.operation size version act ≡ single event)
    × publishing.Ready a act
    × ((found : ℕ) → publishing.Learned a act found
    → let then_is = publish.moved a.segment.shape.size p found in PublishesAt (publishing.next a act found) then_is.reference made then_is.stage)

-- ---- a walk

-- a walk has given these records: the front of the chain that the actor has seen
abbrev pub Walks : Actor → List ℕ → Type 0
Walks a given = MayTurn a × IsPrefix given a.seen.chain

-- the same of a walk
abbrev pub WalksAgree : Type 0
WalksAgree = (size version : ℕ) (a : Actor) (given : List ℕ) → Walks a given
    → let act = load_next (stands_behind given) in
    (walking.operation size version act ≡ single (atomic.load (stands_behind given + BLOCK_NEXT))) × walking.Ready a act
    × ((found : ℕ) → walking.Learned a act found
    → Walks (walking.next a act found) (given_after given (said_of a.segment.shape.size found)))
