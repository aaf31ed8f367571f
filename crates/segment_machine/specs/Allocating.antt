-- The events of an allocation, on the flags, the free pointer, and the words of the actor's own block.
-- All about an event is here in one place: what it acts on, when it is ready, what becomes of its actor, and what this learns.
use Rattle.std.specs.Prelude.{◌≡◌, ◌⊎◌, Bool, true, false, ℕ, ◌+◌, ◌-◌, ◌<◌, ◌≤◌, List, [], ◌∷◌, ◌++◌, length, None, ◌==◌, if◌then◌else◌, nat_lt, replicate, bit_and, ⊤}
use Rattle.alloc_core.specs.declared.planned.Planned.TheVariants as plan
use Rattle.alloc_core.specs.Planned.{planned, is_pointer}
use Rattle.segment_image.specs.Shape.{Dimensions}
use Rattle.segment_image.specs.declared.layout.TheConstants.{BLOCK_HEADER, BLOCK_LEAST, CLAIMED_COOKIE, FLAG_CORRUPT, FLAG_FULL, TYPE_HISTOGRAM, TYPE_SAMPLE, WASTED_COOKIE}
use Rattle.segment_machine.specs.declared.place.Place.{Place}
use Rattle.segment_machine.specs.declared.place.Place.TheVariants.{FlagsLoaded, FreeLoaded, Raised, Sized, Marked, Idle}
use Rattle.segment_machine.specs.declared.actor.Actor.{Actor}
use Rattle.segment_machine.specs.declared.actor.Own.{Own}
use Rattle.alloc_core.specs.Laws.{Behind}
use Rattle.alloc_core.specs.Event as atomic
use Rattle.segment_machine.specs.Operation.{Operation, single}
use Rattle.segment_machine.specs.Calls.{MayTurn, Fills, change_own}

-- the events of an allocation
pub data AllocatingEvent : Type 0 where
  load_flags : AllocatingEvent
  load_free : AllocatingEvent
  exchange_free : (old new wanted : ℕ) → AllocatingEvent
  store_size : (at size : ℕ) → AllocatingEvent
  store_cookie : (at cookie : ℕ) → AllocatingEvent
  store_type : (at tag : ℕ) → AllocatingEvent
  store_payload : (at index value : ℕ) → AllocatingEvent
  set_corrupt : AllocatingEvent
  set_full : (wanted : ℕ) → AllocatingEvent

-- ---- what they act on

abbrev pub operation : ℕ → ℕ → AllocatingEvent → Operation
operation size version load_flags = single atomic.load_flags
operation size version load_free = single atomic.load_free
operation size version (exchange_free old new wanted) = single (atomic.exchange_free old new)
operation size version (store_size at words) = single (atomic.store_size at words)
operation size version (store_cookie at cookie) = single (atomic.store_cookie at cookie)
operation size version (store_type at tag) = single (atomic.store_type at tag)
operation size version (store_payload at index value) = single (atomic.store_payload at index value)
operation size version set_corrupt = single (atomic.set_flag FLAG_CORRUPT)
operation size version (set_full wanted) = single (atomic.set_flag FLAG_FULL)

-- ---- when they are ready

-- The free pointer may rise from `old` to `new` for a block of `wanted` words: the actor claims the block, or wastes the rest of a page
-- that is too short for it.
abbrev pub MayRise : Dimensions → (old new wanted : ℕ) → Type 0
MayRise shape old new wanted =
    (BLOCK_LEAST ≤ wanted) × (wanted ≤ shape.page)
    × (((size : ℕ) × (planned old wanted shape ≡ plan.Claim size new)) ⊎ ((room : ℕ) × (planned old wanted shape ≡ plan.Waste room) × (new ≡ old + room)))

-- the cookie of words that an allocation has taken: if they are fewer than its block needs, they are wasted
abbrev pub cookie_for : (size wanted : ℕ) → ℕ
cookie_for size wanted = if nat_lt size wanted then WASTED_COOKIE else CLAIMED_COOKIE

abbrev pub Ready : Actor → AllocatingEvent → Type 0
Ready a load_flags = MayTurn a
Ready a load_free = a.hand.place ≡ FlagsLoaded
Ready a (exchange_free old new wanted) =
    (a.hand.place ≡ FreeLoaded old) × (is_pointer a.segment.shape old ≡ true) × MayRise a.segment.shape old new wanted
Ready a (store_size at size) = (wanted : ℕ) × (a.hand.place ≡ Raised at size wanted)
Ready a (store_cookie at cookie) = (size wanted : ℕ) × (a.hand.place ≡ Sized at size wanted) × (cookie ≡ cookie_for size wanted)
Ready a (store_type at tag) = ((size : ℕ) × (a.hand.place ≡ Marked at size)) × (TYPE_HISTOGRAM ≤ tag) × (tag ≤ TYPE_SAMPLE)
Ready a (store_payload at index value) =
    (own : Own) × Fills a own × (own.at ≡ at) × (length own.payload ≤ index) × (BLOCK_HEADER + index < own.size)
Ready a set_corrupt = MayTurn a
Ready a (set_full wanted) =
    (free : ℕ) × (a.hand.place ≡ FreeLoaded free) × (wanted ≤ a.segment.shape.page) × (a.segment.shape.size < free + wanted)

-- ---- what becomes of the actor

-- the size of the words that an allocation has taken
abbrev pub size_at : Place → ℕ
size_at (Raised at size wanted) = size
size_at (Sized at size wanted) = size
size_at (Marked at size) = size
size_at _ = 0

-- how many words its block needs, until they are claimed or wasted
abbrev pub wanted_at : Place → ℕ
wanted_at (Raised at size wanted) = wanted
wanted_at (Sized at size wanted) = wanted
wanted_at _ = 0

-- the free pointer that an allocation has loaded
abbrev pub free_at : Place → ℕ
free_at (FreeLoaded free) = free
free_at _ = 0

-- a block whose header has just been completed
abbrev pub new_own : ℕ → ℕ → ℕ → Own
new_own at size tag = record { at = at; size = size; tag = tag; next = 0; payload = []; made = None }

-- payload words, with another stored after them at an index
abbrev pub stored : List ℕ → ℕ → ℕ → List ℕ
stored payload index value = payload ++ replicate (index - length payload) 0 ++ value ∷ []

-- after an exchange of the free pointer, which succeeded or failed
abbrev pub after_free : Bool → Actor → (old new wanted found : ℕ) → Actor
after_free true a old new wanted found = record a {
  hand = record a.hand { place = Raised old (new - old) wanted };
  done = record a.done { raised = a.done.raised ++ record { from = old; to = new; wanted = wanted } ∷ [] };
  seen = record a.seen { free = new };
}
after_free false a old new wanted found = record a { hand = record a.hand { place = Idle }; seen = record a.seen { free = found } }

-- the actor after an event that found this number
abbrev pub next : Actor → AllocatingEvent → ℕ → Actor
next a load_flags found = record a {
  hand = record a.hand { place = if bit_and found FLAG_CORRUPT == 0 then FlagsLoaded else Idle };
  seen = record a.seen {
    corrupt = if bit_and found FLAG_CORRUPT == 0 then a.seen.corrupt else true;
    warned = if bit_and found FLAG_CORRUPT == 0 then a.seen.warned else a.seen.warned + 1;
  };
}
next a load_free found = record a { hand = record a.hand { place = FreeLoaded found }; seen = record a.seen { free = found } }
next a (exchange_free old new wanted) found = after_free (found == old) a old new wanted found
next a (store_size at size) found = record a { hand = record a.hand { place = Sized at size (wanted_at a.hand.place) } }
next a (store_cookie at cookie) found =
    record a { hand = record a.hand { place = if cookie == CLAIMED_COOKIE then Marked at (size_at a.hand.place) else Idle } }
next a (store_type at tag) found = record a {
  hand = record { place = Idle; own = a.hand.own ++ new_own at (size_at a.hand.place) tag ∷ [] };
  done = record a.done { claimed = a.done.claimed ++ record { at = at; size = size_at a.hand.place } ∷ [] };
}
next a (store_payload at index value) found =
    record a { hand = record a.hand { own = change_own at (λ own. record own { payload = stored own.payload index value }) a.hand.own } }
next a set_corrupt found = record a { hand = record a.hand { place = Idle }; done = record a.done { spoiled = true } }
next a (set_full wanted) found = record a {
  hand = record a.hand { place = Idle };
  done = record a.done { filled = true; lacked = a.done.lacked ++ free_at a.hand.place ∷ [] };
}

-- ---- what it learns

-- the flags have the corrupt one, if the actor has set it; a free pointer is valid, and not below the one that the actor knew
abbrev pub Learned : Actor → AllocatingEvent → ℕ → Type 0
Learned a load_flags found = a.done.spoiled ≡ true → bit_and found FLAG_CORRUPT ≡ FLAG_CORRUPT
Learned a load_free found = Behind a.seen.free found × (is_pointer a.segment.shape found ≡ true)
Learned a (exchange_free old new wanted) found = Behind old found × (is_pointer a.segment.shape found ≡ true)
Learned a _ found = ⊤
