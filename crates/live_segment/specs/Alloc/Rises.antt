-- The rises of the free pointer that a call has made: each is noted, and was for the block that the call needs.
use Rattle.std.specs.Prelude.{◌≡◌, ℕ, ◌+◌, ◌-◌, List, [], ◌∷◌, ◌++◌}
use Rattle.std.specs.List.{All}
use Rattle.segment_image.specs.Shape.{Dimensions}
use Rattle.alloc_core.specs.declared.planned.Planned.TheVariants.{Waste}
use Rattle.alloc_core.specs.Planned.{planned}
use Rattle.segment_machine.specs.declared.actor.Claim.{Claim}
use Rattle.segment_machine.specs.declared.actor.Rise.{Rise}

-- a rise was for a block of this many words, and wasted the rest of a page, which is too short for it
abbrev pub IsWasteFor : Dimensions → ℕ → Rise → Type 0
IsWasteFor shape words rise = (rise.wanted ≡ words) × (planned rise.from words shape ≡ Waste (rise.to - rise.from))

-- The new rises wasted rests of pages that are too short for a block of this many words, and nothing else.
abbrev pub WastesFor : Dimensions → ℕ → (old new : List Rise) → Type 0
WastesFor shape words old new = (wastes : List Rise) × (new ≡ old ++ wastes) × All (IsWasteFor shape words) wastes

-- the rise over a block that is claimed, for this many words
abbrev pub rise_of : Claim → ℕ → Rise
rise_of claim words = record { from = claim.at; to = claim.at + claim.size; wanted = words }

-- the new rises wasted such rests, and the last one claimed the block
abbrev pub RaisesFor : Dimensions → ℕ → Claim → (old new : List Rise) → Type 0
RaisesFor shape words claim old new = (wastes : List Rise) × (new ≡ old ++ wastes ++ rise_of claim words ∷ []) × All (IsWasteFor shape words) wastes
