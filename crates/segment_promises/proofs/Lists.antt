-- What walks and shared cursors give, of any kept state.
use Rattle.segment_invariant.proofs.Prelude.Std.{◌≡◌, ◌≢◌, ℕ, zero, suc, ◌+◌, ◌<◌, ◌≤◌, ◌==◌, Bool, true, false, cond, List, [], ◌∷◌, take, length, ⊎_elim, refl, sym, ap, subst, ◌∙◌, length-append, eqb-true, arith, slice_index, IsPermutation, filter, Contains, some, some-injective, some-ne-none, get_elem?, All-contains, Contains-append_left, Contains-append_cases, Contains-permutation, from_map}
use Rattle.segment_invariant.proofs.Prelude.Machine.{Dimensions, word_at, head_of, stops, IsChain, IsPrefix, Actor, Given, Spent, State}
use Rattle.segment_invariant.proofs.Prelude.Invariant.{Anatomy, order_of, IsNoLater, Invariant, StandsRight}
use Rattle.std.proofs.lemmas.List.{take_all}
use Rattle.std.proofs.lemmas.List.Sorted.{IsPermutation-sym}
use Rattle.list_core.proofs.Chains.{linked_of, one_place, last_stop}
use Rattle.segment_machine.specs.declared.place.Place.TheVariants.{CursorLoaded}
use Rattle.segment_machine.specs.Actor.{all_given}
use Rattle.segment_machine.specs.Walking.{records_met}
use Rattle.segment_invariant.proofs.Consistency.OneChain.{one_chain}
use Rattle.segment_invariant.proofs.Frames.Growth.{stop_at}
use Rattle.segment_invariant.proofs.Walking.Learned.{whole_front, met_listed}
use Rattle.segment_promises.specs.Lists.{HasMet, WalksGiveAll, CursorsKeepOrder, CursorsGiveFronts, CursorsGiveAll}

module _ (shape : Dimensions) (opened : Anatomy) (state : State) (kept : Invariant shape opened state) where
  abbrev order : List ℕ
  order = order_of kept.anatomy

  pub chain_is : (chain : List ℕ) → IsChain state.words (head_of state.words) chain → order ≡ chain
  chain_is chain is = one_chain state.words order chain kept.list.linked (linked_of state.words chain (head_of state.words) is)

  module _ (id : ℕ) (a : Actor) (mine : get_elem? state.actors id ≡ some a) (lives : a.hand.place ≢ Spent) where
    walked : IsPrefix a.seen.chain order
    walked = (kept.each id a mine lives).sees.walked

    -- what an actor has seen, made or been given is on the list
    met_on_list : (reference : ℕ) → HasMet a reference → Contains order reference
    met_on_list reference met = ⊎_elim
        (λ seen. subst (λ (list : List ℕ). Contains list reference) (sym walked.1) (Contains-append_left a.seen.chain walked.0 reference seen))
        (λ other. All-contains (Contains order) (records_met a) reference (met_listed shape opened state kept id a mine lives) other)
        (Contains-append_cases a.seen.chain (records_met a) reference met)

    -- ---- walks

    -- a walk whose next is the end has gone along the whole list
    ended : word_at state.words (slice_index (stops a.seen.chain) (length a.seen.chain) + 3) ≡ 12 → order ≡ a.seen.chain
    ended last =
        let front : List ℕ = a.seen.chain in
        let long = ap length walked.1 in
        let parts = length-append front walked.0 in
        let stands = ap (λ (list : List ℕ). slice_index (stops list) (length front)) walked.1 ∙ stop_at front walked.0 (length front) (omega arith) in
        whole_front front walked.0 order walked.1
        (last_stop state.words order (length front) kept.list.linked (omega (arith, long, parts)) (ap (λ (at : ℕ). word_at state.words (at + 3)) stands ∙ last))

    -- ---- cursors

    all_was_given : (cursor at : ℕ) → a.hand.place ≡ CursorLoaded cursor at → word_at state.words (at + 3) ≡ 12 → (reference : ℕ) → HasMet a reference
        → Contains (all_given state.actors cursor) reference
    all_was_given cursor at loaded last reference met =
        let (stop, sighted) = subst (StandsRight shape kept.anatomy id a) loaded (kept.standing id a mine) in
        let shared = All-contains (λ s. (s.at < length state.cursors) × IsNoLater order s.word (slice_index state.cursors s.at)) a.seen.cursors
        (record { at = cursor; word = at }) (kept.each id a mine lives).sees.shared sighted in
        let (i, j, le, within, first, second) = shared.1 in
        let at_end = last_stop state.words order i kept.list.linked (omega (arith, le, within)) (ap (λ (at : ℕ). word_at state.words (at + 3)) first ∙ last) in
        let (place, low, stands, permuted) = kept.cursors.stand cursor shared.0 in
        let same = one_place state.words order place j kept.list.linked low within (stands ∙ sym second) in
        let whole : take place order ≡ order = take_all place order (omega (arith, same, le, at_end)) in
        Contains-permutation _ _ reference (IsPermutation-sym _ _ permuted)
        (subst (λ (list : List ℕ). Contains list reference) (sym whole) (met_on_list reference met))

pub walks_give_all : WalksGiveAll
walks_give_all shape opened state chain kept is id a mine lives = (
  subst (IsPrefix a.seen.chain) (chain_is shape opened state kept chain is) (kept.each id a mine lives).sees.walked,
  λ last reference met. subst (λ (list : List ℕ). Contains list reference) (ended shape opened state kept id a mine lives last)
      (met_on_list shape opened state kept id a mine lives reference met),
)

pub cursors_give_all : CursorsGiveAll
cursors_give_all shape opened state kept id a mine lives cursor at loaded last reference met =
    all_was_given shape opened state kept id a mine lives cursor at loaded last reference met

pub cursors_give_fronts : CursorsGiveFronts
cursors_give_fronts shape opened state chain cursor kept is below =
    subst (λ (chain : List ℕ). (place : ℕ) × (place ≤ length chain) × (slice_index (stops chain) place ≡ slice_index state.cursors cursor)
    × IsPermutation (all_given state.actors cursor) (take place chain))
    (chain_is shape opened state kept chain is) (kept.cursors.stand cursor below)

-- ---- in order

-- what passes a test stays in the same order
module _ {X : Type 0} (test : X → Bool) where
  from_filter : (list : List X) (i : ℕ) (x : X) → get_elem? (filter test list) i ≡ some x → (k : ℕ) × (get_elem? list k ≡ some x) × (test x ≡ true)
  from_filter [] i x there = absurd (some-ne-none x (sym there))
  from_filter (y ∷ rest) i x there = by (test y) refl i there (from_filter rest)
    where
      by : (b : Bool) → test y ≡ b → (i : ℕ) → get_elem? (cond b (y ∷ filter test rest) (filter test rest)) i ≡ some x
          → ((i : ℕ) (x : X) → get_elem? (filter test rest) i ≡ some x → (k : ℕ) × (get_elem? rest k ≡ some x) × (test x ≡ true))
          → (k : ℕ) × (get_elem? (y ∷ rest) k ≡ some x) × (test x ≡ true)
      by true passes zero there more = (0, there, ap test (sym (some-injective y x there)) ∙ passes)
      by true passes (suc i) there more = let (k, at, is) = more i x there in (suc k, at, is)
      by false fails i there more = let (k, at, is) = more i x there in (suc k, at, is)

  abbrev InOrder : List X → X → X → Type 0
  InOrder list x y = (i j : ℕ) × (i < j) × (get_elem? list i ≡ some x) × (get_elem? list j ≡ some y) × (test x ≡ true) × (test y ≡ true)

  filter_order : (list : List X) (i j : ℕ) (x y : X) → i < j → get_elem? (filter test list) i ≡ some x → get_elem? (filter test list) j ≡ some y
      → InOrder list x y
  filter_order [] i j x y less here there = absurd (some-ne-none x (sym here))
  filter_order (z ∷ rest) i j x y less here there = by (test z) refl i j less here there (filter_order rest)
    where
      later : InOrder rest x y → InOrder (z ∷ rest) x y
      later (i, j, less, here, there, first, second) = (suc i, suc j, omega (arith, less), here, there, first, second)

      by : (b : Bool) → test z ≡ b → (i j : ℕ) → i < j → get_elem? (cond b (z ∷ filter test rest) (filter test rest)) i ≡ some x
          → get_elem? (cond b (z ∷ filter test rest) (filter test rest)) j ≡ some y
          → ((i j : ℕ) (x y : X) → i < j → get_elem? (filter test rest) i ≡ some x → get_elem? (filter test rest) j ≡ some y → InOrder rest x y)
          → InOrder (z ∷ rest) x y
      by true passes i zero less here there more = absurd (omega (arith, less))
      by true passes zero (suc j) less here there more =
          let (k, at, is) = from_filter rest j y there in
          (0, suc k, omega arith, here, at, ap test (sym (some-injective z x here)) ∙ passes, is)
      by true passes (suc i) (suc j) less here there more = later (more i j x y (omega (arith, less)) here there)
      by false fails i j less here there more = later (more i j x y less here there)

pub cursors_keep_order : CursorsKeepOrder
cursors_keep_order shape opened state chain kept is id a mine lives cursor i j k l x y records less here there first second =
    let ours = λ (g : Given). g.cursor == cursor in
    let (g, at_i, g_is) = from_map (λ (g : Given). g.reference) (filter ours a.done.given) i x here in
    let (h, at_j, h_is) = from_map (λ (g : Given). g.reference) (filter ours a.done.given) j y there in
    let (m, n, before, stood, stands, mine_is, also) = filter_order ours a.done.given i j g h less at_i at_j in
    let same = chain_is shape opened state kept chain is in
    kept.cursors.ordered id a mine records m n k l g h before stood stands
    (eqb-true g.cursor cursor mine_is ∙ sym (eqb-true h.cursor cursor also))
    (ap (λ (list : List ℕ). get_elem? list k) same ∙ (first ∙ ap (λ (n : ℕ). some n) (sym g_is)))
    (ap (λ (list : List ℕ). get_elem? list l) same ∙ (second ∙ ap (λ (n : ℕ). some n) (sym h_is)))
