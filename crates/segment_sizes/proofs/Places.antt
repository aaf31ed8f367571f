-- Where one block is claimed, by the page of the free pointer and by what that page has.
use Rattle.std.proofs.Common.{◌≡◌, ℕ, ◌+◌, ◌-◌, ◌*◌, ◌%◌, ◌<◌, ◌≤◌, ◌⊎◌, inl, inr, Bool, true, false, refl, ap, ◌∙◌, arith}
use Rattle.std.specs.Prelude.{nat_lt, if◌then◌else◌}
use Rattle.std.proofs.lemmas.Nat.{mod-mul-add}
use Rattle.std.proofs.lemmas.Bool.{ltb-true, ltb-false}
use Rattle.segment_image.specs.Shape.{Dimensions}
use Rattle.alloc_core.specs.declared.planned.Planned.{Planned}
use Rattle.alloc_core.specs.declared.planned.Planned.TheVariants.{Claim, Waste, Full}
use Rattle.alloc_core.specs.Planned.{room_at, planned}
use Rattle.segment_sizes.specs.Filling.{IsClaimedAt}

-- The free pointer of a page with `has` words taken: it is after them, or, if fewer than five words are left, at the end.
pub record StandsAt (page q has free : ℕ) : Type 0 where
  pub within : has ≤ page
  pub place : ((free ≡ q * page + has) × (has + 5 ≤ page)) ⊎ ((free ≡ q * page + page) × (page < has + 5))

-- the words from a place of a page to its end
room_of : (shape : Dimensions) (q has free : ℕ) → free ≡ q * shape.page + has → has < shape.page → room_at shape free ≡ shape.page - has
room_of shape q has free is below =
    let m : (q * shape.page + has) % shape.page ≡ has = mod-mul-add q shape.page has below in
    let e : free % shape.page ≡ has = ap (λ (n : ℕ). n % shape.page) is ∙ m in
    ap (λ (n : ℕ). shape.page - n) e

-- what is planned, by the tests that are made
plan_by : Dimensions → (free block : ℕ) → (full waste absorbs : Bool) → Planned
plan_by shape free block full waste absorbs =
    if full then Full else if waste then Waste (room_at shape free)
    else if absorbs then Claim (room_at shape free) (free + room_at shape free) else Claim block (free + block)

-- a block that has room in a page is claimed there, by the tests
claims_by : (shape : Dimensions) (q has free block : ℕ) → free ≡ q * shape.page + has → has < shape.page → has + block ≤ shape.page
    → q * shape.page + shape.page ≤ shape.size → (full waste absorbs : Bool) → nat_lt shape.size (free + block) ≡ full
    → nat_lt (room_at shape free) block ≡ waste → nat_lt (room_at shape free - block) 5 ≡ absorbs
    → (taken : ℕ) × (next : ℕ) × (plan_by shape free block full waste absorbs ≡ Claim taken next) × StandsAt shape.page q (has + block) next
unfolding plan_by
claims_by shape q has free block is below fits inside true waste absorbs e f g = let full = ltb-true shape.size (free + block) e in absurd (omega arith)
claims_by shape q has free block is below fits inside false true absorbs e f g =
    let room = room_of shape q has free is below in
    let less = ltb-true (room_at shape free) block f in
    absurd (omega (arith, room, less))
claims_by shape q has free block is below fits inside false false true e f g =
    let room : room_at shape free ≡ shape.page - has = room_of shape q has free is below in
    let few : room_at shape free - block < 5 = ltb-true (room_at shape free - block) 5 g in (
      room_at shape free,
      free + room_at shape free,
      refl,
      record { within = fits; place = inr (omega (arith, room), omega (arith, room, few)) },
    )
claims_by shape q has free block is below fits inside false false false e f g =
    let room : room_at shape free ≡ shape.page - has = room_of shape q has free is below in
    let some : 5 ≤ room_at shape free - block = ltb-false (room_at shape free - block) 5 g in
    (block, free + block, refl, record { within = fits; place = inl (omega arith, omega (arith, room, some)) })

-- a block that has room in a page is claimed there
pub claims : (shape : Dimensions) (q has free block : ℕ) → free ≡ q * shape.page + has → has < shape.page → has + block ≤ shape.page
    → q * shape.page + shape.page ≤ shape.size → (next : ℕ) × IsClaimedAt shape block free next × StandsAt shape.page q (has + block) next
unfolding plan_by
claims shape q has free block is below fits inside =
    let c = claims_by shape q has free block is below fits inside (nat_lt shape.size (free + block)) (nat_lt (room_at shape free) block)
    (nat_lt (room_at shape free - block) 5) refl refl refl in
    (c.1, (c.0, c.2), c.3)

-- a block that has no room in a page wastes the rest of it, by the tests
wastes_by : (shape : Dimensions) (q has free block : ℕ) → free ≡ q * shape.page + has → has < shape.page → shape.page < has + block
    → free + block ≤ shape.size → (full waste absorbs : Bool) → nat_lt shape.size (free + block) ≡ full
    → nat_lt (room_at shape free) block ≡ waste → nat_lt (room_at shape free - block) 5 ≡ absorbs
    → plan_by shape free block full waste absorbs ≡ Waste (room_at shape free)
unfolding plan_by
wastes_by shape q has free block is below over inside true waste absorbs e f g = let full = ltb-true shape.size (free + block) e in absurd (omega arith)
wastes_by shape q has free block is below over inside false true absorbs e f g = refl
wastes_by shape q has free block is below over inside false false absorbs e f g =
    let room : room_at shape free ≡ shape.page - has = room_of shape q has free is below in
    let more : block ≤ room_at shape free = ltb-false (room_at shape free) block f in
    absurd (omega (arith, room, more))

-- a block that has no room in a page wastes the rest of it: then the free pointer is at its end
pub wastes : (shape : Dimensions) (q has free block : ℕ) → free ≡ q * shape.page + has → has < shape.page → shape.page < has + block
    → free + block ≤ shape.size → (room : ℕ) × (planned free block shape ≡ Waste room) × (free + room ≡ q * shape.page + shape.page)
unfolding plan_by
wastes shape q has free block is below over inside =
    let room : room_at shape free ≡ shape.page - has = room_of shape q has free is below in (
      room_at shape free,
      wastes_by shape q has free block is below over inside (nat_lt shape.size (free + block)) (nat_lt (room_at shape free) block)
          (nat_lt (room_at shape free - block) 5) refl refl refl,
      omega (arith, room),
    )
