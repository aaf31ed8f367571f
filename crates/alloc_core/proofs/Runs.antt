-- The laws of allocation over moves and runs.
use Rattle.std.proofs.Common.{◌≡◌, ◌≢◌, ◌⊎◌, ℕ, ◌+◌, ◌^◌, ◌<◌, ◌≤◌, true, List, [], ◌∷◌, length, set, inl, inr, sym, refl, ap, ◌∙◌, subst, arith}
use Rattle.std.specs.Prelude.{Some, nat_le, ◌&&◌, bit_or}
use Rattle.std.specs.Int.{bit_at}
use Rattle.std.proofs.lemmas.Nat.Bits.{bit_at_or, bit_at-pow_other}
use Rattle.std.proofs.Math.Nat.{mod-le}
use Rattle.std.proofs.lemmas.Bool.{and_from, le-leb}
use Rattle.std.proofs.lemmas.List.{get_or-set_other, get_or-set_same}
use mathlib.Core.Option.{some, some-ne-none}
use lib.ListN.{get_elem?}
use lib.Seq.{set-get_or}
use Rattle.segment_image.specs.Shape.{Dimensions}
use Rattle.segment_image.specs.Words.{word_at}
use Rattle.alloc_core.specs.declared.alloc.AllocStage.{AllocStage}
use Rattle.alloc_core.specs.declared.alloc.AllocStage.TheVariants.{LoadFlags, LoadFree, ExchangeFree, StoreSize, StoreCookie, StoreType, SetFull, Claimed, Full, Corrupt}
use Rattle.alloc_core.specs.Layout.{Layout, free_of, IsShape, IsSound, IsShown, fresh}
use Rattle.alloc_core.specs.Planned.{room_at, is_pointer}
use Rattle.alloc_core.specs.Event.{Access, load_flags, load_free, exchange_free, store_size, store_cookie, store_type, set_flag, after}
use Rattle.alloc_core.specs.Alloc.{Allocation, event_at, cookie_of, IsAimed}
use Rattle.alloc_core.specs.Laws.{Behind, State, Move, starts, steps, fills, spoils, IsMove, IsRun, StateKeeps, opening, FlagsBy, Leaves}
use Rattle.alloc_core.proofs.Layouts.{free_word, free_from, behind_shown}
use Rattle.alloc_core.proofs.Beside.{words_long}
use Rattle.alloc_core.proofs.Keeping.{step_keeps, fill_keeps, corrupt_keeps, start_keeps}

-- the layout without blocks is one of a segment
pub fresh_sound : (shape : Dimensions) (version id : ℕ) → IsShape shape → IsSound shape (fresh shape version id)
fresh_sound shape version id lawful =
    let wide = lawful.wide in
    let one = lawful.one in
    record {
      lawful = lawful;
      queue = (12, refl);
      laid = (refl, omega arith, omega (arith, mod-le 12 shape.page), tt);
      ends = omega arith;
      leaves = omega (arith, mod-le 16 shape.page);
    }

pub opening_keeps : (shape : Dimensions) (id : ℕ) → IsShape shape → StateKeeps shape (opening shape id)
opening_keeps shape id lawful = record {
  layout = fresh shape 1 id;
  shown = record { shows = refl; sound = fresh_sound shape 1 id lawful };
  each = λ owner a there. absurd (some-ne-none a (sym there));
}

-- what happens keeps what holds, and leaves the blocks that nobody owns
abbrev Later : (shape : Dimensions) (old : State) → StateKeeps shape old → State → Type 0
Later shape old keeps new = (later : StateKeeps shape new) × Leaves keeps.layout later.layout

move_leaves : (shape : Dimensions) (move : Move) (old new : State) (keeps : StateKeeps shape old) → IsMove shape move old new → Later shape old keeps new
move_leaves shape (starts payload tag) old new keeps (a, is, same) =
    subst (Later shape old keeps) (sym same) (start_keeps shape old.words old.allocations payload tag a is keeps)
move_leaves shape (steps owner) old new keeps (a, mine, event, next, same) =
    subst (Later shape old keeps) (sym same) (step_keeps shape old.words old.allocations owner a keeps mine a.stage event refl next)
move_leaves shape (fills owner index value) old new keeps (a, mine, block, stage, lt, same) =
    subst (Later shape old keeps) (sym same) (fill_keeps shape old.words old.allocations owner a keeps mine block.0 block.1 index value stage lt)
move_leaves shape spoils old new keeps same =
    subst (Later shape old keeps) (sym same) (corrupt_keeps shape old.words old.allocations keeps)

pub run_leaves : (shape : Dimensions) (moves : List Move) (old new : State) (keeps : StateKeeps shape old) → IsRun shape moves old new
    → Later shape old keeps new
run_leaves shape [] old new keeps same = subst (Later shape old keeps) (sym same) (keeps, λ b among nobody. among)
run_leaves shape (move ∷ moves) old new keeps (next, first, rest) =
    let (soon, left) = move_leaves shape move old next keeps first in
    let (later, leaves) = run_leaves shape moves next new soon rest in
    (later, λ b among nobody. leaves b (left b among nobody) nobody)

pub move_keeps : (shape : Dimensions) (move : Move) (old new : State) → StateKeeps shape old → IsMove shape move old new → StateKeeps shape new
move_keeps shape move old new keeps is = (move_leaves shape move old new keeps is).0

pub run_keeps : (shape : Dimensions) (moves : List Move) (old new : State) → StateKeeps shape old → IsRun shape moves old new → StateKeeps shape new
run_keeps shape moves old new keeps is = (run_leaves shape moves old new keeps is).0

-- the free pointer of words that are shown is valid
pub free_is_pointer : (shape : Dimensions) (words : List ℕ) (layout : Layout) → IsShown shape words layout → is_pointer shape (word_at words 7) ≡ true
free_is_pointer shape words layout shown =
    let ends = shown.sound.ends in
    let leaves = shown.sound.leaves in
    let from = free_from shape words layout shown in
    let free : ℕ = free_of layout in
    let room : 5 ≤ room_at shape free = omega arith in
    subst (λ (n : ℕ). is_pointer shape n ≡ true) (sym (free_word shape words layout shown))
    (and_from (nat_le 16 free && nat_le free shape.size) (nat_le 5 (room_at shape free))
    (and_from (nat_le 16 free) (nat_le free shape.size) (le-leb 16 free from) (le-leb free shape.size (omega arith))) (le-leb 5 (room_at shape free) room))

-- the free pointer of words that are kept
pub free_lawful : (shape : Dimensions) (state : State) (owner : ℕ) (a : Allocation) → StateKeeps shape state → get_elem? state.allocations owner ≡ some a
    → Behind a.seen (word_at state.words 7) × (is_pointer shape (word_at state.words 7) ≡ true)
free_lawful shape state owner a keeps mine = (
  subst (Behind a.seen) (sym (free_word shape state.words keeps.layout keeps.shown)) (keeps.each owner a mine).behind,
  free_is_pointer shape state.words keeps.layout keeps.shown,
)

-- a word that an event does not act on
beside : (words : List ℕ) (i v : ℕ) → i ≢ 6 → word_at (set words i v) 6 ≡ word_at words 6
beside words i v ne = get_or-set_other words i 6 v 0 (λ e. ne (sym e))

-- flags that were set
flagged : (words : List ℕ) (v : ℕ) → 6 < length words → word_at (set words 6 v) 6 ≡ v
flagged words v lt = get_or-set_same words 6 v 0 lt

-- the flags after the next event of an allocation
step_flags : (words : List ℕ) (a : Allocation) (stage : AllocStage) (event : Access) → 6 < length words → event_at a stage ≡ Some event → IsAimed a stage
    → (word_at (after event words) 6 ≡ word_at words 6) ⊎ ((stage ≡ SetFull) × (word_at (after event words) 6 ≡ bit_or (word_at words 6) 2))
step_flags words a LoadFlags event lt is aimed =
    let same : load_flags ≡ event = cc is in
    inl (subst (λ (v : Access). word_at (after v words) 6 ≡ word_at words 6) same (ap (λ (ws : List ℕ). word_at ws 6) (set-get_or words 6 0)))
step_flags words a LoadFree event lt is aimed =
    let same : load_free ≡ event = cc is in
    inl (subst (λ (v : Access). word_at (after v words) 6 ≡ word_at words 6) same (beside words 7 (word_at words 7) (λ e. omega arith)))
step_flags words a (ExchangeFree next purpose) event lt is aimed =
    let same : exchange_free a.seen next ≡ event = cc is in
    inl (subst (λ (v : Access). word_at (after v words) 6 ≡ word_at words 6) same (beside words 7 _ (λ e. omega arith)))
step_flags words a (StoreSize at size purpose) event lt is aimed =
    let same : store_size at size ≡ event = cc is in
    let from = aimed.0 in
    inl (subst (λ (v : Access). word_at (after v words) 6 ≡ word_at words 6) same (beside words at size (λ e. omega arith)))
step_flags words a (StoreCookie at size purpose) event lt is aimed =
    let same : store_cookie at (cookie_of purpose) ≡ event = cc is in
    let from = aimed.0 in
    inl (subst (λ (v : Access). word_at (after v words) 6 ≡ word_at words 6) same (beside words (at + 1) (cookie_of purpose) (λ e. omega arith)))
step_flags words a (StoreType at size) event lt is aimed =
    let same : store_type at a.tag ≡ event = cc is in
    let from = aimed.0 in
    inl (subst (λ (v : Access). word_at (after v words) 6 ≡ word_at words 6) same (beside words (at + 2) a.tag (λ e. omega arith)))
step_flags words a SetFull event lt is aimed =
    let same : set_flag 2 ≡ event = cc is in
    inr (refl, subst (λ (v : Access). word_at (after v words) 6 ≡ bit_or (word_at words 6) 2) same (flagged words (bit_or (word_at words 6) 2) lt))
step_flags words a (Claimed at size) event lt is aimed = absurd (cc is)
step_flags words a Full event lt is aimed = absurd (cc is)
step_flags words a Corrupt event lt is aimed = absurd (cc is)

-- the words of a segment have a word of flags
has_flags : (shape : Dimensions) (state : State) → StateKeeps shape state → 6 < length state.words
has_flags shape state keeps = omega (arith, words_long shape state keeps)

pub flags_by : (shape : Dimensions) (move : Move) (old new : State) → StateKeeps shape old → IsMove shape move old new → FlagsBy move old new
flags_by shape (starts payload tag) old new keeps (a, is, same) = inl (ap (λ (s : State). word_at s.words 6) same)
flags_by shape (steps owner) old new keeps (a, mine, event, next, same) =
    let now : new.words ≡ after event old.words = ap (λ (s : State). s.words) same in
    elim (step_flags old.words a a.stage event (has_flags shape old keeps) next (keeps.each owner a mine).lawful.aimed) [
      | inl kept ↦ inl (ap (λ (ws : List ℕ). word_at ws 6) now ∙ kept)
      | inr set_by ↦ inr (inr (owner, a, refl, mine, set_by.0, ap (λ (ws : List ℕ). word_at ws 6) now ∙ set_by.1))
    ]
flags_by shape (fills owner index value) old new keeps (a, mine, block, stage, lt, same) =
    let aimed : IsAimed a (Claimed block.0 block.1) = subst (IsAimed a) stage (keeps.each owner a mine).lawful.aimed in
    let from = aimed.from in
    inl (ap (λ (s : State). word_at s.words 6) same ∙ beside old.words (block.0 + (4 + index)) value (λ e. omega arith))
flags_by shape spoils old new keeps same =
    inr (inl (refl, ap (λ (s : State). word_at s.words 6) same ∙ flagged old.words (bit_or (word_at old.words 6) 1) (has_flags shape old keeps)))

-- a flag is one of the two lowest bits
flag_above : (word flag k bit : ℕ) → flag ≡ 2 ^ k → bit ≢ k → bit_at (bit_or word flag) bit ≡ bit_at word bit
flag_above word flag k bit is ne =
    let none : bit_at flag bit ≡ 0 = ap (λ (n : ℕ). bit_at n bit) is ∙ bit_at-pow_other k bit ne in
    omega (arith, bit_at_or word flag bit, none)

pub other_flags_stay : (shape : Dimensions) (move : Move) (old new : State) (bit : ℕ) → StateKeeps shape old → IsMove shape move old new → 2 ≤ bit
    → bit_at (word_at new.words 6) bit ≡ bit_at (word_at old.words 6) bit
other_flags_stay shape move old new bit keeps is above = elim (flags_by shape move old new keeps is) [
  | inl same ↦ ap (λ (n : ℕ). bit_at n bit) same
  | inr setter ↦ elim setter [
    | inl spoiled ↦ ap (λ (n : ℕ). bit_at n bit) spoiled.1 ∙ flag_above (word_at old.words 6) 1 0 bit refl (λ e. omega arith)
    | inr filled ↦ ap (λ (n : ℕ). bit_at n bit) filled.5 ∙ flag_above (word_at old.words 6) 2 1 bit refl (λ e. omega arith)
  ]
]

-- the words from the free pointer on
pub behind_free : (shape : Dimensions) (state : State) (at : ℕ) → StateKeeps shape state → word_at state.words 7 ≤ at → word_at state.words at ≡ 0
behind_free shape state at keeps le =
    let is = free_word shape state.words keeps.layout keeps.shown in
    behind_shown shape state.words keeps.layout at keeps.shown (omega (arith, is, le))
