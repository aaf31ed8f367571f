-- The words that allocations have taken, all together.
use Rattle.std.proofs.Common.{◌≡◌, ℕ, zero, suc, ◌+◌, ◌*◌, ◌≤◌, ◌==◌, Bool, cond, List, [], ◌∷◌, length, refl, sym, ap, subst, inl, inr, eq-eqb, ne_eqb, arith}
use Rattle.std.specs.Prelude.{nat_le, if◌then◌else◌, sum_by, Some, None}
use Rattle.std.specs.Prelude.{Option as Option'}
use Rattle.std.specs.List.{count_by}
use Rattle.std.proofs.lemmas.List.Sums.{sum_by-cons}
use Rattle.alloc_core.specs.declared.alloc.AllocStage.{AllocStage}
use Rattle.alloc_core.specs.declared.alloc.AllocStage.TheVariants.{LoadFlags, LoadFree, ExchangeFree, StoreSize, StoreCookie, StoreType, SetFull, Claimed, Full, Corrupt}
use Rattle.std.proofs.lemmas.Bool.{cases_order, le-leb, lt-leb}
use mathlib.Core.Option.{Option, some, none, some-injective, some-ne-none}
use lib.ListN.{get_elem?}
use Rattle.segment_image.specs.Shape.{Dimensions}
use Rattle.segment_image.specs.Words.{word_at}
use Rattle.alloc_core.specs.Layout.{Block, extent, end_of, queue_block}
use Rattle.alloc_core.specs.Alloc.{Allocation, IsAimed}
use Rattle.alloc_core.specs.Laws.{own, taken, words_taken, has_claimed, Has, State, StateKeeps}
use Rattle.alloc_core.proofs.Layouts.{free_word}
use Rattle.alloc_core.proofs.Steps.{taken_among}

-- the words of a block whose owner is one number, and whose owner is that number or more
at_owner : ℕ → Option ℕ → ℕ → ℕ
at_owner base none n = 0
at_owner base (some j) n = if j == base then n else 0

from_owner : ℕ → Option ℕ → ℕ → ℕ
from_owner base none n = 0
from_owner base (some j) n = if nat_le base j then n else 0

abbrev at_weight : ℕ → Block → ℕ
at_weight base b = at_owner base b.owner (extent b)

abbrev from_weight : ℕ → Block → ℕ
from_weight base b = from_owner base b.owner (extent b)

split_owner : (base : ℕ) (owner : Option ℕ) (n : ℕ) → from_owner base owner n ≡ at_owner base owner n + from_owner (suc base) owner n
unfolding at_owner from_owner
split_owner base none n = refl
split_owner base (some j) n = elim (cases_order j base) [
  | inl same ↦ rw (eq-eqb j base same, le-leb base j (omega arith), lt-leb (suc base) j (omega arith)) (omega arith)
  | inr apart ↦ elim apart [
    | inl below ↦ rw (ne_eqb j base (λ e. omega arith), lt-leb base j (omega arith), lt-leb (suc base) j (omega arith)) refl
    | inr above ↦ rw (ne_eqb j base (λ e. omega arith), le-leb base j (omega arith), le-leb (suc base) j (omega arith)) (omega arith)
  ]
]

split_sum : (base : ℕ) (blocks : List Block) → sum_by (from_weight base) blocks ≡ sum_by (at_weight base) blocks + sum_by (from_weight (suc base)) blocks
split_sum base [] = refl
split_sum base (b ∷ bs) =
    let here = split_owner base b.owner (extent b) in
    let rest = split_sum base bs in
    omega (arith, here, rest, sum_by-cons (from_weight base) b bs, sum_by-cons (at_weight base) b bs, sum_by-cons (from_weight (suc base)) b bs)

-- an element is at most the sum
within_sum : {X : Type 0} (f : X → ℕ) (xs : List X) (k : ℕ) (x : X) → get_elem? xs k ≡ some x → f x ≤ sum_by f xs
within_sum f [] k x e = absurd (some-ne-none x (sym e))
within_sum f (y ∷ ys) zero x e = let same = ap f (some-injective y x e) in omega (arith, same, sum_by-cons f y ys)
within_sum f (y ∷ ys) (suc k) x e = let rest = within_sum f ys k x e in omega (arith, rest, sum_by-cons f y ys)

own_weight : (base at : ℕ) (ws : List ℕ) → at_weight base (own base at ws) ≡ length ws
unfolding at_owner
own_weight base at ws = ap (λ (b : Bool). if b then length ws else 0) (eq-eqb base base refl)

-- all that allocations have taken is no more than the blocks that they own
sum_below : (blocks : List Block) (base : ℕ) (allocations : List Allocation)
    → ((k : ℕ) (a : Allocation) → get_elem? allocations k ≡ some a → words_taken (taken a.stage) ≤ sum_by (at_weight (base + k)) blocks)
    → sum_by (λ a. words_taken (taken a.stage)) allocations ≤ sum_by (from_weight base) blocks
sum_below blocks base [] h = omega arith
sum_below blocks base (a ∷ rest_of) h =
    let none : base + 0 ≡ base = omega arith in
    let here : words_taken (taken a.stage) ≤ sum_by (at_weight base) blocks =
    subst (λ (n : ℕ). words_taken (taken a.stage) ≤ sum_by (at_weight n) blocks) none (h 0 a refl) in
    let rest = sum_below blocks (suc base) rest_of (λ k x there. let step : base + suc k ≡ suc base + k = omega arith in
    subst (λ (n : ℕ). words_taken (taken x.stage) ≤ sum_by (at_weight n) blocks) step (h (suc k) x there)) in
    omega (arith, here, rest, split_sum base blocks, sum_by-cons (λ (x : Allocation). words_taken (taken x.stage)) a rest_of)

weight_within : (owner : Option ℕ) (n : ℕ) → from_owner 0 owner n ≤ n
unfolding from_owner
weight_within none n = omega arith
weight_within (some j) n = rw (le-leb 0 j (omega arith)) (omega arith)

-- blocks lie before the word where they end
blocks_within : (at : ℕ) (blocks : List Block) → at + sum_by (from_weight 0) blocks ≤ end_of at blocks
blocks_within at [] = omega arith
blocks_within at (b ∷ bs) =
    let here = weight_within b.owner (extent b) in
    let rest = blocks_within (at + extent b) bs in
    omega (arith, here, rest, sum_by-cons (from_weight 0) b bs)

-- nobody owns the queue block
behind_queue : (blocks : List Block) (next : ℕ) → get_elem? blocks 0 ≡ some (queue_block next) → 16 + sum_by (from_weight 0) blocks ≤ end_of 12 blocks
unfolding from_owner
behind_queue [] next e = absurd (some-ne-none (queue_block next) (sym e))
behind_queue (b ∷ bs) next e =
    let same : b ≡ queue_block next = some-injective b (queue_block next) e in
    let long : extent b ≡ 4 = ap extent same in
    let none_here : from_weight 0 b ≡ 0 = ap (from_weight 0) same in
    let rest = blocks_within (12 + extent b) bs in
    omega (arith, long, none_here, rest, sum_by-cons (from_weight 0) b bs)

-- what one allocation has taken is a block that it owns
one_taken : (blocks : List Block) (owner : ℕ) (a : Allocation) (o : Option' (ℕ × ℕ)) → taken a.stage ≡ o → IsAimed a a.stage → Has blocks owner a.stage
    → words_taken o ≤ sum_by (at_weight owner) blocks
one_taken blocks owner a None e aimed has = omega arith
one_taken blocks owner a (Some block) e aimed has =
    let (ws, long, (k, there)) = taken_among a blocks owner block a.stage aimed has e in
    let weight = own_weight owner block.0 ws in
    omega (arith, long, weight, within_sum (at_weight owner) blocks k (own owner block.0 ws) there)

-- all that was taken lies between the queue block and the free pointer
pub taken_fit : (shape : Dimensions) (state : State) → StateKeeps shape state
    → 16 + sum_by (λ a. words_taken (taken a.stage)) state.allocations ≤ word_at state.words 7
taken_fit shape state keeps =
    let blocks : List Block = keeps.layout.blocks in
    let is = free_word shape state.words keeps.layout keeps.shown in
    let queue = keeps.shown.sound.queue in
    let all = sum_below blocks 0 state.allocations (λ k a there. let f = keeps.each k a there in
    let place : k ≡ 0 + k = omega arith in
    subst (λ (n : ℕ). words_taken (taken a.stage) ≤ sum_by (at_weight n) blocks) place (one_taken blocks k a (taken a.stage) refl f.lawful.aimed f.has)) in
    omega (arith, all, is, behind_queue blocks queue.0 queue.1)

-- a claimed block is five words or more
five_taken : (a : Allocation) (stage : AllocStage) → IsAimed a stage → 5 * cond (has_claimed stage) 1 0 ≤ words_taken (taken stage)
five_taken a LoadFlags aimed = omega arith
five_taken a LoadFree aimed = omega arith
five_taken a (ExchangeFree next purpose) aimed = omega arith
five_taken a (StoreSize at size purpose) aimed = omega arith
five_taken a (StoreCookie at size purpose) aimed = omega arith
five_taken a (StoreType at size) aimed = omega arith
five_taken a SetFull aimed = omega arith
five_taken a (Claimed at size) aimed = let five = aimed.five in omega (arith, five)
five_taken a Full aimed = omega arith
five_taken a Corrupt aimed = omega arith

fives_taken : (allocations : List Allocation) → ((k : ℕ) (a : Allocation) → get_elem? allocations k ≡ some a → IsAimed a a.stage)
    → 5 * count_by (λ a. has_claimed a.stage) allocations ≤ sum_by (λ a. words_taken (taken a.stage)) allocations
fives_taken [] aimed = omega arith
fives_taken (a ∷ rest_of) aimed =
    let here = five_taken a a.stage (aimed 0 a refl) in
    let rest = fives_taken rest_of (λ k x there. aimed (suc k) x there) in
    omega (
      arith,
      here,
      rest,
      sum_by-cons (λ (x : Allocation). words_taken (taken x.stage)) a rest_of,
      sum_by-cons (λ (x : Allocation). cond (has_claimed x.stage) 1 0) a rest_of,
    )

-- so five times the number of claimed blocks fits there
pub claimed_fit : (shape : Dimensions) (state : State) → StateKeeps shape state
    → 16 + 5 * count_by (λ a. has_claimed a.stage) state.allocations ≤ word_at state.words 7
claimed_fit shape state keeps =
    let fives = fives_taken state.allocations (λ k a there. (keeps.each k a there).lawful.aimed) in
    omega (arith, fives, taken_fit shape state keeps)
