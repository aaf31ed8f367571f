-- The list of a kept state is the chain, which begins with the records of the opening.
use Rattle.segment_invariant.proofs.Prelude.Std.{◌≡◌, ◌⊎◌, true, ℕ, zero, suc, ◌+◌, ◌-◌, ◌%◌, ◌<◌, ◌≤◌, List, [], ◌∷◌, ◌++◌, map, length, IsPermutation, ⊎_elim, sym, ap, subst, ◌∙◌, arith, slice_index, get_or_append_left, map-append, All-contains, IsPermutation-refl, some-injective, at_map}
use Rattle.segment_invariant.proofs.Prelude.Machine.{Dimensions, word_at, field_at, IsShown, Behind, stops, IsStop, IsLinked, Actor, Claim, State, all_published}
use Rattle.segment_invariant.proofs.Prelude.Invariant.{extent_of, Listed, listed, Anatomy, layout_of, order_of, free_of, claims_of, IsNoLater, Sees, Invariant}
use Rattle.std.proofs.lemmas.List.Sorted.{IsPermutation-append, IsPermutation-map, length_permutation}
use mathlib.Core.List.{map-map}
use Rattle.alloc_core.specs.Layout.{render, queue_block}
use Rattle.alloc_core.specs.Planned.{is_pointer}
use Rattle.alloc_core.specs.Laws.{Apart}
use Rattle.alloc_core.proofs.Layouts.{length_shown, behind_shown}
use Rattle.alloc_core.proofs.Runs.{free_is_pointer}
use Rattle.list_core.proofs.Chains.{one_place}
use Rattle.segment_invariant.specs.Consistent.{SawBefore, ListIsChain, run_of}
use Rattle.segment_invariant.specs.Body.{block_of}
use Rattle.segment_invariant.specs.Keeps.{KeptIsChain, opening_of}
use Rattle.segment_invariant.proofs.Consistency.Chained.{shape_is, tail_is, free_is, chained, claims_are, all_of_claims, claimed}
use Rattle.segment_invariant.proofs.Consistency.Opened.{Opens, opens_as}
use Rattle.segment_invariant.proofs.Blocks.Pieces.{piece_word, some_first, first_piece}
use Rattle.list_lemmas.proofs.Pairs.{any_two_permuted}
use Rattle.segment_machine.proofs.SmallNumbers.{below_three}
use Rattle.segment_invariant.proofs.Consistency.Blocks.{claimed_piece, claims_apart, claims_few}

-- ---- the header

-- what holds of 0 to 5 holds of each number below six
below_six : (holds : ℕ → Type 0) → holds 0 → holds 1 → holds 2 → holds 3 → holds 4 → holds 5 → (i : ℕ) → i < 6 → holds i
below_six holds a b c d e f zero below = a
below_six holds a b c d e f (suc zero) below = b
below_six holds a b c d e f (suc (suc zero)) below = c
below_six holds a b c d e f (suc (suc (suc i))) below = below_three (λ i. holds (suc (suc (suc i)))) d e f i (omega (arith, below))

-- the words of the queue block but its next
queue_word : (shape : Dimensions) (words : List ℕ) (anatomy : Anatomy) → IsShown shape words (layout_of anatomy) → (j : ℕ) → j < 3
    → word_at words (12 + j) ≡ slice_index (4 ∷ 1 ∷ 0 ∷ []) j
queue_word shape words anatomy shown j below =
    let first = some_first shape words anatomy shown in
    let is = first_piece shape words anatomy shown first.0 first.1 in
    let queue = shown.sound.queue in
    let same : block_of first.0 ≡ queue_block queue.0 = some-injective _ _ (sym (at_map block_of anatomy.pieces 0 first.0 first.1) ∙ queue.1) in
    ap (λ (n : ℕ). word_at words (n + j)) (sym is.0)
    ∙ (piece_word shape words anatomy shown 0 first.0 j first.1 (omega (arith, below, is.2))
    ∙ (ap (λ b. slice_index b.words j) same ∙ get_or_append_left (4 ∷ 1 ∷ 0 ∷ []) (queue.0 ∷ []) 0 j below))

-- a word is the same in two lists
abbrev IsStill : List ℕ → List ℕ → ℕ → Type 0
IsStill words before i = word_at words i ≡ word_at before i

-- the words of the header that no event changes
header : (shape : Dimensions) (words before : List ℕ) (anatomy opened : Anatomy) → IsShown shape words (layout_of anatomy)
    → IsShown shape before (layout_of opened) → anatomy.version ≡ opened.version → anatomy.id ≡ opened.id → anatomy.reserved ≡ opened.reserved
    → (i : ℕ) → (i < 6) ⊎ ((9 ≤ i) × (i < 15)) → IsStill words before i
header shape words before anatomy opened shown opens same_version same_id same_reserved i within =
    ⊎_elim
    (below_six (IsStill words before) (word 0 ∙ sym (was 0)) (word 1 ∙ (same_version ∙ sym (was 1))) (word 2 ∙ sym (was 2)) (word 3 ∙ sym (was 3))
    (word 4 ∙ (same_id ∙ sym (was 4))) (word 5 ∙ sym (was 5)) i)
    behind within
  where
    word : (i : ℕ) → word_at words i ≡ word_at (render shape (layout_of anatomy)) i
    word i = ap (λ (ws : List ℕ). word_at ws i) shown.shows

    was : (i : ℕ) → word_at before i ≡ word_at (render shape (layout_of opened)) i
    was i = ap (λ (ws : List ℕ). word_at ws i) opens.shows

    queue : (j : ℕ) → j < 3 → word_at words (12 + j) ≡ word_at before (12 + j)
    queue j below = queue_word shape words anatomy shown j below ∙ sym (queue_word shape before opened opens j below)

    behind : (9 ≤ i) × (i < 15) → IsStill words before i
    behind (from, below) =
        let split : 9 + (i - 9) ≡ i = omega (arith, from) in
        subst (IsStill words before) split
        (below_six (λ k. IsStill words before (9 + k)) (word 9 ∙ (ap (λ (r : ℕ × ℕ × ℕ). r.0) same_reserved ∙ sym (was 9)))
        (word 10 ∙ (ap (λ (r : ℕ × ℕ × ℕ). r.1) same_reserved ∙ sym (was 10)))
        (word 11 ∙ (ap (λ (r : ℕ × ℕ × ℕ). r.2) same_reserved ∙ sym (was 11))) (queue 0 (omega arith)) (queue 1 (omega arith)) (queue 2 (omega arith)) (i - 9)
        (omega (arith, from, below)))

-- ---- what was seen

-- a place that was seen to be no later than another is so by any of their numbers on the list
no_later : (words chain : List ℕ) (seen present : ℕ) → IsLinked words chain → IsNoLater chain seen present
    → (i j : ℕ) → i ≤ length chain → j ≤ length chain → slice_index (stops chain) i ≡ seen → slice_index (stops chain) j ≡ present → i ≤ j
no_later words chain seen present linked (m, n, le, within, before, behind) i j low high first second =
    let e = one_place words chain i m linked low (omega (arith, le, within)) (first ∙ sym before) in
    let f = one_place words chain j n linked high within (second ∙ sym behind) in
    omega (arith, e, f, le)

saw_before : (words cursors : List ℕ) (anatomy : Anatomy) (a : Actor) → IsLinked words (order_of anatomy) → word_at words 7 ≡ free_of anatomy
    → word_at words 8 ≡ anatomy.tail → Sees anatomy cursors a.seen → SawBefore words cursors (order_of anatomy) a
saw_before words cursors anatomy a linked free tail sees = record {
  free = subst (Behind a.seen.free) (sym free) sees.free;
  walked = sees.walked;
  tail = λ seen i j there low high first second.
      let before = All-contains (λ place. IsNoLater (order_of anatomy) place anatomy.tail) a.seen.tails seen sees.tails there in
      no_later words (order_of anatomy) seen anatomy.tail linked before i j low high first (second ∙ tail);
  cursor = λ s there i j low high first second.
      let shared = All-contains (λ s. (s.at < length cursors) × IsNoLater (order_of anatomy) s.word (slice_index cursors s.at)) a.seen.cursors s sees.shared there in
      no_later words (order_of anatomy) s.word (slice_index cursors s.at) linked shared.1 i j low high first second;
}

-- ---- a kept state

module _ (shape : Dimensions) (opened : Anatomy) (state : State) (opens : Opens shape opened) (kept : Invariant shape opened state) where
  abbrev anatomy : Anatomy
  anatomy = kept.anatomy

  abbrev words : List ℕ
  words = state.words

  abbrev before : List ℕ
  before = (opening_of shape opened).words

  abbrev chain : List ℕ
  chain = order_of anatomy

  abbrev first : List Claim
  first = claims_of opened.pieces

  size : length words ≡ length before
  size = length_shown shape words (layout_of anatomy) kept.shown ∙ sym (length_shown shape before (layout_of opened) opens.shown)

  -- the records of the opening come first, and after them come those that actors linked
  abbrev more : List Listed
  more = kept.list.once.0

  all_listed : chain ≡ order_of opened ++ map (λ (l : Listed). l.reference) more
  all_listed = ap (map (λ (l : Listed). l.reference)) kept.list.once.1 ∙ map-append (λ (l : Listed). l.reference) opened.records more

  linked_records : IsPermutation chain (order_of opened ++ map (λ p. p.reference) (all_published state.actors))
  linked_records = subst (λ (l : List ℕ). IsPermutation l (order_of opened ++ map (λ p. p.reference) (all_published state.actors))) (sym all_listed)
      (IsPermutation-append (order_of opened) (order_of opened) _ _ (IsPermutation-refl (order_of opened))
      (subst (IsPermutation (map (λ (l : Listed). l.reference) more)) (map-map (λ (l : Listed). l.reference) listed (all_published state.actors))
      (IsPermutation-map (λ (l : Listed). l.reference) more (map listed (all_published state.actors)) kept.list.once.2)))

  is_chain : ListIsChain before first words state.cursors state.actors chain
  is_chain = record {
    size = size;
    header = header shape words before anatomy opened kept.shown opens.shown kept.same.0 kept.same.1 kept.same.3;
    free = subst (λ (s : Dimensions). is_pointer s (word_at words 7) ≡ true) (sym (shape_is shape opened state kept)) (free_is_pointer shape words (layout_of anatomy) kept.shown);
    zeros = λ i from below. behind_shown shape words (layout_of anatomy) i kept.shown (let free = free_is shape opened state kept in omega (arith, from, free));
    chained = chained shape opened state kept;
    opening = (order_of opened, opens.chained, (map (λ (l : Listed). l.reference) more, all_listed), linked_records);
    tail = subst (IsStop chain) (sym (tail_is shape opened state kept)) kept.list.tail;
    apart = λ i j a b before there here. any_two_permuted (λ a b. Apart (run_of a) (run_of b)) _ _ (claims_are shape opened state kept)
        (claims_apart shape words anatomy kept.shown kept.blocks) i j a b (λ same. omega (arith, before, same)) there here;
    paged = all_of_claims shape opened state kept (λ claim. claim.at % word_at words 3 + claim.size ≤ word_at words 3)
        (λ k p there claimed. let is = claimed_piece shape words anatomy kept.shown kept.blocks k p there claimed in
        subst (λ (page : ℕ). p.at % page + extent_of p ≤ page) (sym is.page) is.in_page);
    few =
        let few = claims_few shape words anatomy kept.shown kept.blocks in
        let long = length_permutation _ _ (claims_are shape opened state kept) in
        omega (arith, few, long);
    sized = all_of_claims shape opened state kept (λ claim. (field_at words claim.at 0 ≡ claim.size) × (field_at words claim.at 1 ≡ 0xC8799269))
        (λ k p there claimed. let is = claimed_piece shape words anatomy kept.shown kept.blocks k p there claimed in (is.size_word, is.cookie_word));
    claimed = claimed shape opened state kept;
    seen = λ who a there lives. saw_before words state.cursors anatomy a kept.list.linked (free_is shape opened state kept) (tail_is shape opened state kept) (kept.each who a there lives).sees;
    cursors_stand = kept.cursors.stand;
  }

pub list_is_chain : KeptIsChain
list_is_chain shape opened state opens kept = is_chain shape opened state (opens_as shape opened opens) kept
