-- Places within pages.
use Rattle.std.proofs.Common.{◌≡◌, ℕ, ◌+◌, ◌-◌, ◌*◌, ◌/◌, ◌%◌, ◌<◌, ◌≤◌, ap, ◌∙◌, arith, div-add-mod', mod-lt, mul-le-mul_right, lt_of_not-le}
use native.Mathlib.Decide.{dec_le}
use Rattle.std.proofs.lemmas.Nat.{mod-mul-add}
use Rattle.std.proofs.Math.Nat.{mul-mod_left}
use Rattle.segment_image.specs.Shape.{Dimensions}
use Rattle.alloc_core.specs.Layout.{IsShape}
use Rattle.alloc_core.specs.Alloc.{IsRise}

-- a step that stays within the page
mod_within : (a b page : ℕ) → a % page + b < page → (a + b) % page ≡ a % page + b
mod_within a b page h =
    let e = div-add-mod' a page in
    let q : ℕ = a / page * page in
    let r : ℕ = a % page in
    let split : a + b ≡ q + (r + b) = omega arith in
    ap (λ (n : ℕ). n % page) split ∙ mod-mul-add (a / page) page (r + b) h

suc_times : (q page : ℕ) → q * page + page ≡ (q + 1) * page
suc_times q page = omega arith

-- a step to the end of the page
mod_turn : (a page : ℕ) → 0 < page → (a + (page - a % page)) % page ≡ 0
mod_turn a page pos =
    let e = div-add-mod' a page in
    let lt : a % page < page = mod-lt a pos in
    let q : ℕ = a / page * page in
    let r : ℕ = a % page in
    let split : a + (page - r) ≡ q + page = omega arith in
    ap (λ (n : ℕ). n % page) (split ∙ suc_times (a / page) page) ∙ mul-mod_left (a / page + 1) page

-- the pages that end before a place, if the place lies in a number of whole pages
turn_below : (q t page a size : ℕ) → q * page ≤ a → a < size → t * page ≡ size → Dec (t ≤ q) → q * page + page ≤ size
turn_below q t page a size below lt is (yes d) = let m : t * page ≤ q * page = mul-le-mul_right page d in absurd (omega arith)
turn_below q t page a size below lt is (no d) =
    let m : (q + 1) * page ≤ t * page = mul-le-mul_right page (let h : q + 1 ≤ t = omega (arith, lt_of_not-le d) in h) in
    omega (arith, suc_times q page)

-- the end of the page is within a size that is a number of pages
turn_within : (a page size : ℕ) → 0 < page → a < size → size % page ≡ 0 → a + (page - a % page) ≤ size
turn_within a page size pos lt whole =
    let e = div-add-mod' a page in
    let f = div-add-mod' size page in
    let q : ℕ = a / page * page in
    let less : a % page < page = mod-lt a pos in
    let t : size / page * page ≡ size = omega arith in
    let w : q + page ≤ size = turn_below (a / page) (size / page) page a size (omega arith) lt t (dec_le (size / page) (a / page)) in
    omega arith

-- a rise that leaves room for a block in the page
pub rise_within : (shape : Dimensions) (free size : ℕ) → 5 ≤ size → free + size ≤ shape.size → free % shape.page + size + 5 ≤ shape.page
    → IsRise shape free (free + size)
rise_within shape free size five fits room =
    let m = mod_within free size shape.page (omega arith) in
    record { five = omega arith; within = fits; one_page = omega arith; leaves = omega arith }

-- a rise to the end of the page
pub rise_to_end : (shape : Dimensions) (free : ℕ) → IsShape shape → free % shape.page + 5 ≤ shape.page → free < shape.size
    → IsRise shape free (free + (shape.page - free % shape.page))
rise_to_end shape free lawful room below =
    let wide = lawful.wide in
    let m = mod_turn free shape.page (omega arith) in
    let within = turn_within free shape.page shape.size (omega arith) below lawful.whole in
    record { five = omega arith; within = within; one_page = omega arith; leaves = omega arith }
