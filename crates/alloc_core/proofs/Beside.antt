-- What allocations leave as it is: the words of the list, and the blocks that were claimed.
use Rattle.std.proofs.Common.{length, ◌≡◌, ◌≢◌, ◌⊎◌, ℕ, ◌+◌, ◌<◌, ◌≤◌, inl, inr, ⊎_elim, sym, refl, ap, ◌∙◌, subst, arith}
use Rattle.std.specs.Prelude.{Some}
use Rattle.std.proofs.lemmas.List.{get_or-set_other}
use mathlib.Core.Logic.{dite}
use mathlib.Core.Option.{some, some-injective}
use native.Mathlib.Decide.{ℕ_discrete}
use lib.ListN.{get_elem?}
use Rattle.atomic_table.proofs.Lists.{set_else, at_longer}
use Rattle.segment_image.specs.Shape.{Dimensions}
use Rattle.segment_image.specs.Words.{word_at}
use Rattle.alloc_core.specs.declared.alloc.AllocStage.{AllocStage}
use Rattle.alloc_core.specs.declared.alloc.AllocStage.TheVariants.{LoadFlags, LoadFree, ExchangeFree, StoreSize, StoreCookie, StoreType, SetFull, Claimed, Full, Corrupt}
use Rattle.alloc_core.specs.Event.{Access, load_flags, load_free, exchange_free, store_size, store_cookie, store_type, set_flag, spot}
use Rattle.alloc_core.specs.Alloc.{Allocation, cookie_of, event_at, next_event, IsAimed}
use Rattle.alloc_core.specs.Laws.{taken, IsRecord, IsListWord, State, Move, starts, steps, fills, spoils, IsMove, StateKeeps}
use Rattle.alloc_core.proofs.Layouts.{length_shown, free_word}
use Rattle.alloc_core.proofs.Steps.{taken_apart}

at_zero : (at : ℕ) → at ≡ at + 0
at_zero at = omega arith

-- an event of an allocation acts on the flags, on the free pointer, or on the first words of its own block
step_spot : (a : Allocation) (stage : AllocStage) (event : Access) → event_at a stage ≡ Some event
    → ((6 ≤ spot event) × (spot event ≤ 7)) ⊎ ((block : ℕ × ℕ) × (j : ℕ) × (taken stage ≡ Some block) × (j < 3) × (spot event ≡ block.0 + j))
step_spot a LoadFlags event is = let same : load_flags ≡ event = cc is in inl (subst (λ (v : Access). (6 ≤ spot v) × (spot v ≤ 7)) same (omega arith, omega arith))
step_spot a LoadFree event is = let same : load_free ≡ event = cc is in inl (subst (λ (v : Access). (6 ≤ spot v) × (spot v ≤ 7)) same (omega arith, omega arith))
step_spot a (ExchangeFree next purpose) event is =
    let same : exchange_free a.seen next ≡ event = cc is in inl (subst (λ (v : Access). (6 ≤ spot v) × (spot v ≤ 7)) same (omega arith, omega arith))
step_spot a (StoreSize at size purpose) event is =
    let same : store_size at size ≡ event = cc is in
    inr ((at, size), 0, refl, omega arith, ap spot (sym same) ∙ at_zero at)
step_spot a (StoreCookie at size purpose) event is =
    let same : store_cookie at (cookie_of purpose) ≡ event = cc is in
    inr ((at, size), 1, refl, omega arith, ap spot (sym same) ∙ refl)
step_spot a (StoreType at size) event is =
    let same : store_type at a.tag ≡ event = cc is in
    inr ((at, size), 2, refl, omega arith, ap spot (sym same) ∙ refl)
step_spot a SetFull event is = let same : set_flag 2 ≡ event = cc is in inl (subst (λ (v : Access). (6 ≤ spot v) × (spot v ≤ 7)) same (omega arith, omega arith))
step_spot a (Claimed at size) event is = absurd (cc is)
step_spot a Full event is = absurd (cc is)
step_spot a Corrupt event is = absurd (cc is)

from_aim : (at size : ℕ) (block : ℕ × ℕ) → (at, size) ≡ block → 16 ≤ at → at + 5 ≤ at + size → (16 ≤ block.0) × (5 ≤ block.1)
from_aim at size block same from five = subst (λ (p : ℕ × ℕ). (16 ≤ p.0) × (5 ≤ p.1)) same (from, omega (arith, five))

-- the words that are taken lie after the header and are five or more
taken_from : (a : Allocation) (stage : AllocStage) (block : ℕ × ℕ) → IsAimed a stage → taken stage ≡ Some block → (16 ≤ block.0) × (5 ≤ block.1)
taken_from a LoadFlags block aimed e = absurd (cc e)
taken_from a LoadFree block aimed e = absurd (cc e)
taken_from a (ExchangeFree next purpose) block aimed e = absurd (cc e)
taken_from a (StoreSize at size purpose) block aimed e = from_aim at size block (cc e) aimed.0 aimed.1.five
taken_from a (StoreCookie at size purpose) block aimed e = from_aim at size block (cc e) aimed.0 aimed.1.five
taken_from a (StoreType at size) block aimed e = from_aim at size block (cc e) aimed.0 aimed.1.five
taken_from a SetFull block aimed e = absurd (cc e)
taken_from a (Claimed at size) block aimed e =
    let five = aimed.five in
    from_aim at size block (cc e) aimed.from (omega (arith, five))
taken_from a Full block aimed e = absurd (cc e)
taken_from a Corrupt block aimed e = absurd (cc e)

-- the block of a record is claimed
claimed_taken : (a : Allocation) (reference size : ℕ) → a.stage ≡ Claimed reference size → taken a.stage ≡ Some (reference, size)
claimed_taken a reference size e = ap taken e

-- a claimed block's allocation has ended
ended : (a : Allocation) (reference size : ℕ) (event : Access) → a.stage ≡ Claimed reference size → next_event a ≡ Some event → ⊥
ended a reference size event stage next = absurd (cc (sym next ∙ ap (event_at a) stage))

-- a claimed block stays claimed
pub record_stays : (shape : Dimensions) (move : Move) (old new : State) (reference : ℕ) → IsMove shape move old new
    → IsRecord old.allocations reference → IsRecord new.allocations reference
record_stays shape (starts payload tag) old new reference (a, is, same) (owner, b, size, mine, stage) =
    subst (λ (s : State). IsRecord s.allocations reference) (sym same) (owner, b, size, at_longer old.allocations _ owner b mine, stage)
record_stays shape (steps who) old new reference (a, yours, event, next, same) (owner, b, size, mine, stage) =
    subst (λ (s : State). IsRecord s.allocations reference) (sym same) (
      owner,
      b,
      size,
      set_else old.allocations who owner _ (λ (e : owner ≡ who).
          let one : b ≡ a = some-injective b a (sym mine ∙ (ap (get_elem? old.allocations) e ∙ yours)) in
          ended b reference size event stage (ap next_event one ∙ next)) ∙ mine,
      stage,
    )
record_stays shape (fills who index value) old new reference (a, yours, block, claimed, lt, same) record_is =
    subst (λ (s : State). IsRecord s.allocations reference) (sym same) record_is
record_stays shape spoils old new reference same record_is = subst (λ (s : State). IsRecord s.allocations reference) (sym same) record_is

pub list_word_stays : (shape : Dimensions) (move : Move) (old new : State) (at : ℕ) → IsMove shape move old new
    → IsListWord old.allocations at → IsListWord new.allocations at
list_word_stays shape move old new at is (inl tail) = inl tail
list_word_stays shape move old new at is (inr (inl queue)) = inr (inl queue)
list_word_stays shape move old new at is (inr (inr (reference, record_is, place))) =
    inr (inr (reference, record_stays shape move old new reference is record_is, place))

-- a word of the list is none of the first eight
list_word_high : (shape : Dimensions) (state : State) (at : ℕ) → StateKeeps shape state → IsListWord state.allocations at → 8 ≤ at
list_word_high shape state at keeps (inl tail) = omega arith
list_word_high shape state at keeps (inr (inl queue)) = omega arith
list_word_high shape state at keeps (inr (inr (reference, (owner, a, size, mine, stage), place))) =
    let from = (taken_from a a.stage (reference, size) (keeps.each owner a mine).lawful.aimed (claimed_taken a reference size stage)).0 in
    omega arith

-- a word of the list is none of the first three of what an allocation has taken, nor of the payload of a claimed block
list_word_apart : (shape : Dimensions) (state : State) (at who : ℕ) (a : Allocation) (block : ℕ × ℕ) (j : ℕ) → StateKeeps shape state
    → get_elem? state.allocations who ≡ some a → taken a.stage ≡ Some block → j < block.1 → j ≢ 3 → IsListWord state.allocations at → at ≢ block.0 + j
list_word_apart shape state at who a block j keeps mine has lt other (inl tail) e =
    let from = (taken_from a a.stage block (keeps.each who a mine).lawful.aimed has).0 in absurd (omega arith)
list_word_apart shape state at who a block j keeps mine has lt other (inr (inl queue)) e =
    let from = (taken_from a a.stage block (keeps.each who a mine).lawful.aimed has).0 in absurd (omega arith)
list_word_apart shape state at who a block j keeps mine has lt other (inr (inr (reference, (owner, b, size, yours, stage), place))) e =
    let five = (taken_from b b.stage (reference, size) (keeps.each owner b yours).lawful.aimed (claimed_taken b reference size stage)).1 in
    dite (ℕ_discrete owner who)
    (λ same. let one : b ≡ a = some-injective b a (sym yours ∙ (ap (get_elem? state.allocations) same ∙ mine)) in
    let block_is : (reference, size) ≡ block = cc (sym (claimed_taken b reference size stage) ∙ (ap (λ (x : Allocation). taken x.stage) one ∙ has)) in
    let at_is : reference ≡ block.0 = ap (λ (p : ℕ × ℕ). p.0) block_is in
    other (omega arith))
    (λ ne. elim (taken_apart shape state.words state.allocations owner who b a (reference, size) block keeps ne yours mine
    (claimed_taken b reference size stage) has) [
      | inl before ↦ absurd (omega arith)
      | inr behind ↦ absurd (omega arith)
    ])

-- whatever happens leaves the words of the list
pub list_word_kept : (shape : Dimensions) (move : Move) (old new : State) (at : ℕ) → StateKeeps shape old → IsMove shape move old new
    → IsListWord old.allocations at → word_at new.words at ≡ word_at old.words at
list_word_kept shape (starts payload tag) old new at keeps (a, is, same) listed = ap (λ (s : State). word_at s.words at) same
list_word_kept shape (steps who) old new at keeps (a, mine, event, next, same) listed =
    let apart : at ≢ spot event = ⊎_elim
    (λ (low : (6 ≤ spot event) × (spot event ≤ 7)) e.
    let high = list_word_high shape old at keeps listed in
    let most = low.1 in
    absurd (omega arith))
    (λ (own : (block : ℕ × ℕ) × (j : ℕ) × (taken a.stage ≡ Some block) × (j < 3) × (spot event ≡ block.0 + j)) e.
    let five = (taken_from a a.stage own.0 (keeps.each who a mine).lawful.aimed own.2).1 in
    let few = own.3 in
    list_word_apart shape old at who a own.0 own.1 keeps mine own.2 (omega arith) (λ three. omega arith) listed (e ∙ own.4))
    (step_spot a a.stage event next) in
    ap (λ (s : State). word_at s.words at) same ∙ get_or-set_other old.words (spot event) at _ 0 apart
list_word_kept shape (fills who index value) old new at keeps (a, mine, block, claimed, lt, same) listed =
    let has : taken a.stage ≡ Some block = claimed_taken a block.0 block.1 claimed in
    let apart : at ≢ block.0 + (4 + index) =
    list_word_apart shape old at who a block (4 + index) keeps mine has lt (λ e. omega arith) listed in
    ap (λ (s : State). word_at s.words at) same ∙ get_or-set_other old.words (block.0 + (4 + index)) at value 0 apart
list_word_kept shape spoils old new at keeps same listed =
    let high = list_word_high shape old at keeps listed in
    ap (λ (s : State). word_at s.words at) same ∙ get_or-set_other old.words 6 at _ 0 (λ e. omega arith)

-- a claimed block lies within the words, after the header
pub record_within : (shape : Dimensions) (state : State) (reference : ℕ) → StateKeeps shape state → IsRecord state.allocations reference
    → (16 ≤ reference) × (reference + 5 ≤ length state.words)
record_within shape state reference keeps (owner, a, size, mine, stage) =
    let fits = keeps.each owner a mine in
    let aimed : IsAimed a (Claimed reference size) = subst (IsAimed a) stage fits.lawful.aimed in
    let five = aimed.five in
    let within : reference + size ≤ shape.size = subst (λ (s : Dimensions). reference + size ≤ s.size) fits.shaped aimed.within in
    let long = length_shown shape state.words keeps.layout keeps.shown in
    (aimed.from, omega (arith, five, within, long))

-- the words are at least a page
pub words_long : (shape : Dimensions) (state : State) → StateKeeps shape state → 64 ≤ length state.words
words_long shape state keeps =
    let long = length_shown shape state.words keeps.layout keeps.shown in
    let wide = keeps.shown.sound.lawful.wide in
    let one = keeps.shown.sound.lawful.one in
    omega (arith, long, wide, one)

-- the free pointer lies within the words
pub free_within : (shape : Dimensions) (state : State) → StateKeeps shape state → word_at state.words 7 ≤ length state.words
free_within shape state keeps =
    let long = length_shown shape state.words keeps.layout keeps.shown in
    let free = free_word shape state.words keeps.layout keeps.shown in
    let ends = keeps.shown.sound.ends in
    omega (arith, long, free, ends)

-- whatever happens leaves the words of the header but the flags and the free pointer
pub header_word_kept : (shape : Dimensions) (move : Move) (old new : State) (at : ℕ) → StateKeeps shape old → IsMove shape move old new
    → at < 16 → at ≢ 6 → at ≢ 7 → word_at new.words at ≡ word_at old.words at
header_word_kept shape (starts payload tag) old new at keeps (a, is, same) low flags free = ap (λ (s : State). word_at s.words at) same
header_word_kept shape (steps who) old new at keeps (a, mine, event, next, same) low flags free =
    let apart : at ≢ spot event = ⊎_elim
    (λ (first : (6 ≤ spot event) × (spot event ≤ 7)) e.
    let least = first.0 in
    let most = first.1 in
    flags (let other : at ≢ 7 = free in omega (arith, e, least, most, other)))
    (λ (own : (block : ℕ × ℕ) × (j : ℕ) × (taken a.stage ≡ Some block) × (j < 3) × (spot event ≡ block.0 + j)) e.
    let from = (taken_from a a.stage own.0 (keeps.each who a mine).lawful.aimed own.2).0 in
    let place = own.4 in
    absurd (omega arith))
    (step_spot a a.stage event next) in
    ap (λ (s : State). word_at s.words at) same ∙ get_or-set_other old.words (spot event) at _ 0 apart
header_word_kept shape (fills who index value) old new at keeps (a, mine, block, claimed, lt, same) low flags free =
    let from = (taken_from a a.stage block (keeps.each who a mine).lawful.aimed (claimed_taken a block.0 block.1 claimed)).0 in
    ap (λ (s : State). word_at s.words at) same ∙ get_or-set_other old.words (block.0 + (4 + index)) at value 0 (λ e. omega arith)
header_word_kept shape spoils old new at keeps same low flags free =
    ap (λ (s : State). word_at s.words at) same ∙ get_or-set_other old.words 6 at _ 0 flags
