-- Blocks that are claimed one after the other, by what an allocation does from a free pointer on.
use Rattle.std.specs.Prelude.{◌≡◌, ℕ, ◌+◌, ◌≤◌, ◌⊎◌, List, [], ◌∷◌}
use Rattle.std.specs.List.Sorted.{IsPermutation}
use Rattle.segment_image.specs.Shape.{Dimensions}
use Rattle.segment_image.specs.declared.layout.TheConstants.{HEADER_WORDS}
use Rattle.alloc_core.specs.Layout.{IsShape}
use Rattle.alloc_core.specs.Planned.{planned}
use Rattle.alloc_core.specs.declared.planned.Planned.TheVariants.{Claim, Waste}

-- An allocation of a block of this many words claims it at this free pointer, which is `next` then.
abbrev pub IsClaimedAt : Dimensions → (block free next : ℕ) → Type 0
IsClaimedAt shape block free next = (taken : ℕ) × (planned free block shape ≡ Claim taken next)

-- It claims it there, or it wastes the rest of the page first.
abbrev pub IsClaimedFrom : Dimensions → (block free next : ℕ) → Type 0
IsClaimedFrom shape block free next =
    IsClaimedAt shape block free next ⊎ ((room : ℕ) × (planned free block shape ≡ Waste room) × IsClaimedAt shape block (free + room) next)

-- These blocks are claimed in this order, from one free pointer to another, and nothing else is claimed.
abbrev pub AreClaimedFrom : Dimensions → List ℕ → (free end : ℕ) → Type 0
AreClaimedFrom shape [] free end = end ≡ free
AreClaimedFrom shape (block ∷ blocks) free end = (next : ℕ) × IsClaimedFrom shape block free next × AreClaimedFrom shape blocks next end

-- In every segment of the page that has this many words or more, and no block yet, the blocks are claimed in any order, within this
-- many words. So are some of them: whatever is claimed first, there is an order that begins with it.
abbrev pub FitInEveryOrder : (page : ℕ) (blocks : List ℕ) (words : ℕ) → Type 0
FitInEveryOrder page blocks words =
    (shape : Dimensions) (order : List ℕ) → IsShape shape → shape.page ≡ page → words ≤ shape.size → IsPermutation blocks order
    → (end : ℕ) × AreClaimedFrom shape order HEADER_WORDS end × (end ≤ words)
