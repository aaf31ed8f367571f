-- What an allocation changes in a recorder: it has a block of its own, or why it has none.
use Rattle.std.specs.Prelude.{◌≡◌, ◌⊎◌, true, ℕ, ◌+◌, ◌-◌, ◌<◌, ◌≤◌, List, [], ◌∷◌, ◌++◌, Result, Ok, Err}
use Rattle.segment_calls.specs.declared.refusal.Refusal.{Refusal}
use Rattle.segment_calls.specs.declared.refusal.Refusal.TheVariants.{Full, Corrupt}
use Rattle.alloc_core.specs.Alloc.{IsPlace}
use Rattle.segment_image.specs.declared.layout.TheConstants.{BLOCK_LEAST}
use Rattle.segment_machine.specs.declared.actor.Actor.{Actor}
use Rattle.segment_machine.specs.declared.actor.Rise.{Rise}
use Rattle.segment_machine.specs.declared.place.Place.{Place}
use Rattle.segment_machine.specs.declared.place.Place.TheVariants.{Idle}
use Rattle.segment_machine.specs.Allocating.{new_own}
use Rattle.live_segment.specs.Add.Refusal.{given_up}
use Rattle.live_segment.specs.Alloc.Rises.{RaisesFor, WastesFor}

-- it has seen a free pointer and has made these rises of it, and all else is unchanged
abbrev pub saw_free : Actor → Place → ℕ → List Rise → Actor
saw_free a place free raised =
    record a { hand = record a.hand { place = place }; done = record a.done { raised = raised }; seen = record a.seen { free = free } }

-- its rises, with one more
abbrev pub raised_on : Actor → (from to wanted : ℕ) → List Rise
raised_on a from to wanted = a.done.raised ++ record { from = from; to = to; wanted = wanted } ∷ []

-- it has loaded flags with the corrupt one
abbrev pub noticed : Actor → Actor
noticed a = record a { seen = record a.seen { corrupt = true; warned = a.seen.warned + 1 } }

-- it has set the full flag, since too many words were needed from the free pointer that it saw last
abbrev pub filled : Actor → Actor
filled a = record a { done = record a.done { filled = true; lacked = a.done.lacked ++ a.seen.free ∷ [] } }

-- it has set the corrupt flag
abbrev pub spoiled : Actor → Actor
spoiled a = record a { hand = record a.hand { place = Idle }; done = record a.done { spoiled = true } }

-- it has claimed the words from one free pointer to the next for a block of a type, and has made these rises
abbrev pub claimed : Actor → ℕ → ℕ → ℕ → List Rise → Actor
claimed a at next tag raised = record a {
  hand = record { place = Idle; own = a.hand.own ++ new_own at (next - at) tag ∷ [] };
  done = record a.done { claimed = a.done.claimed ++ record { at = at; size = next - at } ∷ []; raised = raised };
  seen = record a.seen { free = next };
}

-- another recorder was first, and went five words further at least
pub record IsLost (a : Actor) (free : ℕ) (b : Actor) : Type 0 where
  pub found : ℕ
  pub view : b ≡ saw_free a Idle found a.done.raised
  pub further : free + BLOCK_LEAST ≤ found
  pub within : found ≤ a.segment.shape.size

-- the rest of a page is wasted, for a block that needs this many words; or another recorder was first
abbrev pub Wastes : (wanted free next : ℕ) → Actor → Actor → Type 0
Wastes wanted free next a b =
    ((b ≡ saw_free a Idle next (raised_on a free next wanted)) × (free + BLOCK_LEAST ≤ next) × (next ≤ a.segment.shape.size)) ⊎ IsLost a free b

-- A block of this many words or up to four more is its own, of a type, after all that it had seen claimed. Or there is none: `Full` if the
-- words pass the end of the segment from a free pointer that it loaded, `Corrupt` if it loaded the corrupt flag; a call that counts ends
-- with that. Apart from its block it has raised the free pointer only over rests of pages that are too short for the block.
abbrev pub Allocates : ℕ → ℕ → Actor → Result ℕ Refusal → Actor → Type 0
Allocates size tag a (Ok at) b =
    (next : ℕ) × (b ≡ claimed a at next tag b.done.raised) × (a.seen.free ≤ at) × (at + size ≤ next) × (next < at + size + BLOCK_LEAST)
    × IsPlace a.segment.shape at (next - at) × RaisesFor a.segment.shape size (record { at = at; size = next - at }) a.done.raised b.done.raised
Allocates size tag a (Err Full) b =
    (free : ℕ) × (b ≡ given_up (filled (saw_free a Idle free b.done.raised))) × (a.seen.free ≤ free) × (a.segment.shape.size < free + size)
    × WastesFor a.segment.shape size a.done.raised b.done.raised
Allocates size tag a (Err Corrupt) b =
    (free : ℕ) × (b ≡ given_up (noticed (saw_free a Idle free b.done.raised))) × (a.seen.free ≤ free)
    × WastesFor a.segment.shape size a.done.raised b.done.raised
Allocates size tag a (Err _) b = ⊥
