-- Blocks that are claimed one after the other stay within the pages that are needed.
use Rattle.std.proofs.Common.{◌≡◌, ℕ, ◌+◌, ◌-◌, ◌*◌, ◌<◌, ◌≤◌, ◌⊎◌, inl, inr, List, [], ◌∷◌, refl, arith}
use Rattle.std.specs.Prelude.{sum_by, All}
use Rattle.std.proofs.Math.Decide.{dec_le}
use Rattle.std.proofs.Math.Nat.{lt_of_not-le}
use Rattle.std.proofs.lemmas.List.Sums.{sum_by-cons}
use Rattle.std.proofs.lemmas.List.Elements.{All-head, All-tail}
use Rattle.segment_image.specs.Shape.{Dimensions}
use Rattle.segment_sizes.specs.Filling.{IsClaimedAt, IsClaimedFrom, AreClaimedFrom}
use Rattle.segment_sizes.specs.Needed.{IsLeast, FitsPage}
use Rattle.segment_sizes.proofs.Places.{StandsAt, claims, wastes}

-- what a block adds to the load over a bound
abbrev pub weight : (bound block : ℕ) → ℕ
weight bound block = block + (block - bound)

-- this many pages were left, with a load: each is more than a page with the block that did not fit
abbrev pub MayLeave : (page bound load q : ℕ) → Type 0
MayLeave page bound load q = (q ≡ 0) ⊎ (q * (page + 1) + bound ≤ load + q * bound)

-- blocks of a load were claimed, and the free pointer is in the page after those that were left
pub record Reaches (page bound load free : ℕ) : Type 0 where
  pub q : ℕ
  pub has : ℕ
  pub stands : StandsAt page q has free
  pub below : q * (page + 1) + has ≤ load + q * bound
  pub left : MayLeave page bound load q

-- with a greater load as many pages may be left
may_leave : (page bound load more q : ℕ) → load ≤ more → MayLeave page bound load q → MayLeave page bound more q
may_leave page bound load more q le (inl zero_is) = inl zero_is
may_leave page bound load more q le (inr some) = inr (omega arith)

-- ---- one block

module _ (shape : Dimensions) (bound total words : ℕ) (inside : words ≤ shape.size)
    (enough : (q : ℕ) → MayLeave shape.page bound total q → q * shape.page + shape.page ≤ words) where
  -- a page that a block does not fit into may be left
  leaves : (q has load block : ℕ) → load + weight bound block ≤ total → q * (shape.page + 1) + has ≤ load + q * bound
      → shape.page < has + block → MayLeave shape.page bound (load + weight bound block) (q + 1)
  leaves q has load block most below over = inr (omega arith)

  -- the load and the pages, if the next block is the first of the page after
  begins : (q has load block : ℕ) → q * (shape.page + 1) + has ≤ load + q * bound → shape.page < has + block
      → (q + 1) * (shape.page + 1) + (0 + block) ≤ load + weight bound block + (q + 1) * bound
  begins q has load block below over = omega arith

  -- the next block is claimed at the beginning of the page after
  opens : (q has load free block : ℕ) → 5 ≤ block → block ≤ shape.page → load + weight bound block ≤ total
      → q * (shape.page + 1) + has ≤ load + q * bound → shape.page < has + block → free ≡ q * shape.page + shape.page
      → (next : ℕ) × IsClaimedAt shape block free next × Reaches shape.page bound (load + weight bound block) next
  opens q has load free block least fits most below over is =
      let left = leaves q has load block most below over in
      let room : (q + 1) * shape.page + shape.page ≤ words = enough (q + 1) (may_leave shape.page bound (load + weight bound block) total (q + 1) most left) in
      let c = claims shape (q + 1) 0 free block (omega arith) (omega arith) (omega arith) (omega arith) in
      (c.0, c.1, record { q = q + 1; has = 0 + block; stands = c.2; below = begins q has load block below over; left = left })

  -- the next block is claimed in a page that has room
  stays : (q has load free block : ℕ) → 5 ≤ block → has + block ≤ shape.page → load + weight bound block ≤ total
      → q * (shape.page + 1) + has ≤ load + q * bound → MayLeave shape.page bound load q → free ≡ q * shape.page + has
      → (next : ℕ) × IsClaimedAt shape block free next × Reaches shape.page bound (load + weight bound block) next
  stays q has load free block least fits most below left is =
      let more = may_leave shape.page bound load (load + weight bound block) q (omega arith) left in
      let room : q * shape.page + shape.page ≤ words = enough q (may_leave shape.page bound load total q (omega arith) left) in
      let c = claims shape q has free block is (omega arith) fits (omega arith) in
      (c.0, c.1, record { q = q; has = has + block; stands = c.2; below = omega arith; left = more })

  -- the next block wastes the rest of a page that has too little room
  turns : (q has load free block : ℕ) → 5 ≤ block → block ≤ shape.page → has < shape.page → load + weight bound block ≤ total
      → q * (shape.page + 1) + has ≤ load + q * bound → shape.page < has + block → free ≡ q * shape.page + has
      → (next : ℕ) × IsClaimedFrom shape block free next × Reaches shape.page bound (load + weight bound block) next
  turns q has load free block least fits near most below over is =
      let left = leaves q has load block most below over in
      let room : (q + 1) * shape.page + shape.page ≤ words = enough (q + 1) (may_leave shape.page bound (load + weight bound block) total (q + 1) most left) in
      let w = wastes shape q has free block is near over (omega arith) in
      let o = opens q has load (free + w.0) block least fits most below over w.2 in
      (o.0, inr (w.0, w.1, o.1), o.2)

  -- the next block is claimed, by where the free pointer is, and whether the block fits there
  goes_by : (q has load free block : ℕ) → 5 ≤ block → block ≤ shape.page → load + weight bound block ≤ total → q * (shape.page + 1) + has ≤ load + q * bound
      → MayLeave shape.page bound load q
      → ((free ≡ q * shape.page + has) × (has + 5 ≤ shape.page)) ⊎ ((free ≡ q * shape.page + shape.page) × (shape.page < has + 5))
      → Dec (has + block ≤ shape.page)
      → (next : ℕ) × IsClaimedFrom shape block free next × Reaches shape.page bound (load + weight bound block) next
  goes_by q has load free block least fits most below left (inl at) (yes room) =
      let s = stays q has load free block least room most below left at.0 in
      (s.0, inl s.1, s.2)
  goes_by q has load free block least fits most below left (inl at) (no over) =
      turns q has load free block least fits (let h = at.1 in omega arith) most below (lt_of_not-le over) at.0
  goes_by q has load free block least fits most below left (inr at) d =
      let o = opens q has load free block least fits most below (let h = at.1 in omega arith) at.0 in
      (o.0, inl o.1, o.2)

  -- the next block is claimed
  goes : (load free block : ℕ) → 5 ≤ block → block ≤ shape.page → load + weight bound block ≤ total → Reaches shape.page bound load free
      → (next : ℕ) × IsClaimedFrom shape block free next × Reaches shape.page bound (load + weight bound block) next
  goes load free block least fits most r =
      goes_by r.q r.has load free block least fits most r.below r.left r.stands.place (dec_le (r.has + block) shape.page)

  -- ---- all blocks

  ends_by : (q has free : ℕ) → q * shape.page + shape.page ≤ words → has ≤ shape.page
      → ((free ≡ q * shape.page + has) × (has + 5 ≤ shape.page)) ⊎ ((free ≡ q * shape.page + shape.page) × (shape.page < has + 5)) → free ≤ words
  ends_by q has free room within (inl at) = let h = at.0 in omega arith
  ends_by q has free room within (inr at) = let h = at.0 in omega arith

  -- the free pointer is within the words
  ends : (load free : ℕ) → load ≤ total → Reaches shape.page bound load free → free ≤ words
  ends load free most r =
      ends_by r.q r.has free (enough r.q (may_leave shape.page bound load total r.q most r.left)) r.stands.within r.stands.place

  -- blocks are claimed one after the other
  pub fills : (order : List ℕ) (load free : ℕ) → All IsLeast order → All (FitsPage shape.page) order
      → load + sum_by (weight bound) order ≤ total → Reaches shape.page bound load free
      → (end : ℕ) × AreClaimedFrom shape order free end × (end ≤ words)
  fills [] load free least fit most r = (free, refl, ends load free (omega arith) r)
  fills (block ∷ order) load free least fit most r =
      let sum : sum_by (weight bound) (block ∷ order) ≡ weight bound block + sum_by (weight bound) order = sum_by-cons (weight bound) block order in
      let s = goes load free block (All-head IsLeast block order least) (All-head (FitsPage shape.page) block order fit) (omega arith) r in
      let rest = fills order (load + weight bound block) s.0 (All-tail IsLeast block order least) (All-tail (FitsPage shape.page) block order fit) (omega arith) s.2 in
      (rest.0, (s.0, s.1, rest.1), rest.2)
