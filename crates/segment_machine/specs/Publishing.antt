-- The events of a publish, on the next of the actor's own record, the tail, and the next of the record after which it links.
-- All about an event is here in one place: what it acts on, when it is ready, what becomes of its actor, and what this learns.
use Rattle.std.specs.Prelude.{◌≡◌, ◌≢◌, ◌⊎◌, Bool, true, false, ℕ, ◌+◌, ◌*◌, ◌≤◌, List, [], ◌∷◌, ◌++◌, Some, None, ◌==◌, if◌then◌else◌, Option, ⊤}
use Rattle.std.specs.List.{Contains}
use Rattle.bucket_ranges.specs.Spec.{buckets_of, spec_fault}
use Rattle.bucket_ranges.specs.Reading.{is_name, is_i32}
use Rattle.segment_image.specs.declared.layout.TheConstants.{BLOCK_HEADER, BLOCK_LEAST, HEADER_WORDS, QUEUE, SAMPLE_LEAST, TYPE_HISTOGRAM, TYPE_SAMPLE}
use Rattle.segment_machine.specs.declared.actor.Made.TheVariants.{Histogram, Sample}
use Rattle.segment_machine.specs.declared.place.Place.TheVariants.{TailLoaded, Beaten, Linked, Idle}
use Rattle.segment_machine.specs.declared.actor.Actor.{Actor}
use Rattle.segment_machine.specs.declared.actor.Known.{Known}
use Rattle.segment_machine.specs.declared.actor.Made.{Made}
use Rattle.segment_machine.specs.declared.actor.Own.{Own}
use Rattle.segment_machine.specs.Actor.{Sparse}
use Rattle.segment_machine.specs.Made.{IsPayload}
use Rattle.segment_machine.specs.declared.actor.Published.{Published}
use Rattle.list_core.specs.Publish as publish
use Rattle.segment_machine.specs.Operation.{Operation, single}
use Rattle.segment_machine.specs.Calls.{MayTurn, Fills, change_own, without, IsReference}

-- the events of a publish
pub data PublishingEvent : Type 0 where
  store_own_next : (at : ℕ) → PublishingEvent
  load_tail : PublishingEvent
  link : (tail at : ℕ) → PublishingEvent
  move_tail : (old new : ℕ) → PublishingEvent

-- ---- what they act on

abbrev pub operation : ℕ → ℕ → PublishingEvent → Operation
operation size version (store_own_next at) = single (publish.store_own_next at)
operation size version load_tail = single publish.load_tail
operation size version (link tail at) = single (publish.link tail at)
operation size version (move_tail old new) = single (publish.move_tail old new)

-- ---- when they are ready

-- a block of its own whose next is stored
abbrev pub Waits : Actor → Own → Type 0
Waits a own = Contains a.hand.own own × (own.next ≡ QUEUE)

-- A block of its own may be published as what it is to hold. A histogram has a valid name and a valid spec, whose counts fit in a
-- page. A sample has a value of an `i32`, and names a known sparse histogram.
abbrev pub MayPublish : Actor → Own → Made → Type 0
MayPublish a own (Histogram name spec) =
    (own.tag ≡ TYPE_HISTOGRAM) × (is_name name ≡ true) × (spec_fault spec ≡ None) × (BLOCK_HEADER + 2 * buckets_of spec ≤ a.segment.shape.page)
MayPublish a own (Sample histogram value) =
    (own.tag ≡ TYPE_SAMPLE) × (SAMPLE_LEAST ≤ own.size) × (is_i32 value ≡ true) × ((known : Known) × Sparse a histogram known)

abbrev pub Ready : Actor → PublishingEvent → Type 0
Ready a (store_own_next at) = (own : Own) × Fills a own × (own.at ≡ at)
Ready a load_tail = MayTurn a × ((own : Own) × Waits a own)
Ready a (link tail at) =
    (own : Own) × (made : Made) × (a.hand.place ≡ TailLoaded tail) × Waits a own × (own.at ≡ at) × (own.made ≡ Some made)
    × IsPayload made own.payload × MayPublish a own made
Ready a (move_tail old new) = (a.hand.place ≡ Linked new old) ⊎ (a.hand.place ≡ Beaten old new)

-- ---- what becomes of the actor

-- the block at a word
abbrev pub own_at : List Own → ℕ → Option Own
own_at [] at = None
own_at (own ∷ rest) at = if own.at == at then Some own else own_at rest at

-- the record as which a block of its own is published
abbrev pub published_as : Option Own → ℕ → List Published
published_as None at = []
published_as (Some own) at = published_made own.made at
  where
    published_made : Option Made → ℕ → List Published
    published_made None at = []
    published_made (Some made) at = record { reference = at; made = made } ∷ []

-- the answer that a `hist` owes once it has linked its record
abbrev pub owed_for : Option Own → ℕ → List Known
owed_for None at = []
owed_for (Some own) at = owed_made own.made at
  where
    owed_made : Option Made → ℕ → List Known
    owed_made (Some (Histogram name spec)) at = record { name = name; spec = spec; reference = at } ∷ []
    owed_made (Some (Sample histogram value)) at = []
    owed_made None at = []

-- after a link, which succeeded or failed
abbrev pub after_link : Bool → Actor → ℕ → ℕ → ℕ → Actor
after_link true a tail at found = record a {
  hand = record { place = Linked at tail; own = without at a.hand.own };
  done = record a.done { published = a.done.published ++ published_as (own_at a.hand.own at) at };
  answers = record a.answers { owed = a.answers.owed ++ owed_for (own_at a.hand.own at) at };
}
after_link false a tail at found = record a { hand = record a.hand { place = Beaten tail found }; done = record a.done { beaten = a.done.beaten + 1 } }

-- the actor after an event that found this number
abbrev pub next : Actor → PublishingEvent → ℕ → Actor
next a (store_own_next at) found = record a { hand = record a.hand { own = change_own at (λ own. record own { next = QUEUE }) a.hand.own } }
next a load_tail found = record a { hand = record a.hand { place = TailLoaded found }; seen = record a.seen { tails = a.seen.tails ++ found ∷ [] } }
next a (link tail at) found = after_link (found == QUEUE) a tail at found
next a (move_tail old new) found =
    record a { hand = record a.hand { place = Idle }; seen = record a.seen { tails = a.seen.tails ++ (if found == old then new else found) ∷ [] } }

-- ---- what it learns

-- the number of links that come too late is bounded: the segment has room for a record of five words for each
abbrev pub Learned : Actor → PublishingEvent → ℕ → Type 0
Learned a load_tail found = IsReference a found
Learned a (link tail at) found = IsReference a found × (found ≢ QUEUE → BLOCK_LEAST * (a.done.beaten + 1) + HEADER_WORDS ≤ a.segment.shape.size)
Learned a (move_tail old new) found = IsReference a found
Learned a _ found = ⊤
