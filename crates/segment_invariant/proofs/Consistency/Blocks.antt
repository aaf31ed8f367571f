-- The claimed blocks of a kept segment among its words: they are valid, apart from each other, and not too many.
use Rattle.segment_invariant.proofs.Prelude.Std.{◌≡◌, Bool, true, false, cond, ℕ, suc, ◌+◌, ◌*◌, ◌<◌, ◌≤◌, List, [], ◌∷◌, map, length, filter, get_or, inl, inr, ⊎_elim, refl, sym, ap, subst, ◌∙◌, arith, slice_index, All, Contains, cases_order, some, some-injective, some-ne-none, get_elem?, at_map, from_map, contains_at, contains_filter, below_length, contains_map}
use Rattle.segment_invariant.proofs.Prelude.Machine.{Dimensions, word_at, head_of, is_block, IsShown, Claim}
use Rattle.segment_invariant.proofs.Prelude.Invariant.{Body, queue, plain, held, histogram, counts, sample, other, words_of, is_claimed, Piece, extent_of, Anatomy, layout_of, claims_of, ClaimedRight}
use Rattle.std.proofs.lemmas.List.Elements.{All-filter, All-map, filter_passes}
use Rattle.std.proofs.lemmas.List.Kept.{AllPairs-filter}
use Rattle.alloc_core.specs.Layout.{end_of}
use Rattle.alloc_core.specs.Laws.{Apart}
use Rattle.alloc_core.proofs.Layouts.{free_word, in_one_page}
use Rattle.alloc_core.proofs.ClaimedBlocks.{IsClaimedAt, lawful_at}
use Rattle.segment_invariant.specs.Consistent.{run_of}
use Rattle.segment_invariant.specs.Body.{block_of}
use Rattle.list_lemmas.proofs.Elements.{all_from}
use Rattle.segment_invariant.proofs.Blocks.Pieces.{claim_of, piece_word, first_piece, some_first, one_piece, pieces_apart, piece_from, piece_ends}
use Rattle.list_lemmas.proofs.Pairs.{AnyTwo, element_at}

-- a claimed block has the cookie after its size
pub cookie_of : (body : Body) → is_claimed body ≡ true → slice_index (words_of body) 1 ≡ 0xC8799269
cookie_of (queue next) e = cc e
cookie_of (plain words) e = cc e
cookie_of (held block) e = refl
cookie_of (histogram r) e = refl
cookie_of (counts c) e = refl
cookie_of (sample s) e = refl
cookie_of (other size tag next payload) e = refl

-- ---- claims, by the blocks that they are of

-- what holds of each claimed block's claim holds of each claim
pub all_claims_of : (P : Claim → Type 0) (pieces : List Piece)
    → ((k : ℕ) (p : Piece) → get_elem? pieces k ≡ some p → is_claimed p.body ≡ true → P (claim_of p)) → All P (claims_of pieces)
all_claims_of P pieces each =
    let claimed : Piece → Bool = λ piece. is_claimed piece.body in
    let all = All-filter claimed (λ p. is_claimed p.body ≡ true → P (claim_of p)) pieces
    (all_from (λ p. is_claimed p.body ≡ true → P (claim_of p)) pieces each) in
    All-map P claim_of (filter claimed pieces) (λ k d below. all k d below (filter_passes claimed pieces k d below))

-- the claim of a claimed block is among them
pub claim_there : (pieces : List Piece) (k : ℕ) (p : Piece) → get_elem? pieces k ≡ some p → is_claimed p.body ≡ true → Contains (claims_of pieces) (claim_of p)
claim_there pieces k p there claimed =
    contains_map claim_of _ p (contains_filter (λ piece. is_claimed piece.body) pieces p (contains_at pieces k p there) claimed)

-- the claims of blocks of which it holds, by their order
pub two_claims_of : (R : Claim → Claim → Type 0) (pieces : List Piece)
    → ((j k : ℕ) (p q : Piece) → j < k → get_elem? pieces j ≡ some p → get_elem? pieces k ≡ some q → R (claim_of p) (claim_of q))
    → (i j : ℕ) (a b : Claim) → i < j → get_elem? (claims_of pieces) i ≡ some a → get_elem? (claims_of pieces) j ≡ some b → R a b
two_claims_of R pieces each i j a b below there here =
    let kept = filter (λ piece. is_claimed piece.body) pieces in
    let first = from_map claim_of kept i a there in
    let second = from_map claim_of kept j b here in
    let within = below_length kept j second.0 second.1 in
    let pairs = AllPairs-filter (λ p q. R (claim_of p) (claim_of q)) (λ piece. is_claimed piece.body) pieces
    (λ m n d lt inside. each m n _ _ lt (element_at pieces m d (omega (arith, lt, inside))) (element_at pieces n d inside)) i j first.0 below within in
    let one : get_or kept i first.0 ≡ first.0 = some-injective _ _ (sym (element_at kept i first.0 (omega (arith, below, within))) ∙ first.1) in
    let two : get_or kept j first.0 ≡ second.0 = some-injective _ _ (sym (element_at kept j first.0 within) ∙ second.1) in
    subst (λ (c : Claim × Claim). R c.0 c.1) (λ k. (first.2 k, second.2 k))
    (subst (λ (p : Piece × Piece). R (claim_of p.0) (claim_of p.1)) (λ k. (one k, two k)) pairs)

-- a block of five words or more for each claim
more_words : (x : Piece) (rest : List Piece) (claimed : Bool) → (claimed ≡ true → 5 ≤ extent_of x)
    → 5 * length (map claim_of (cond claimed (x ∷ rest) rest)) ≤ extent_of x + 5 * length (map claim_of rest)
more_words x rest true five = let h = five refl in omega (arith, h)
more_words x rest false five = omega arith

abbrev AreWide : List Piece → Type 0
AreWide pieces = (k : ℕ) (p : Piece) → get_elem? pieces k ≡ some p → is_claimed p.body ≡ true → 5 ≤ extent_of p

wide_blocks : (at : ℕ) (pieces : List Piece) → AreWide pieces → at + 5 * length (claims_of pieces) ≤ end_of at (map block_of pieces)
wide_blocks at [] wide = omega arith
wide_blocks at (x ∷ xs) wide =
    let h = wide_blocks (at + extent_of x) xs (λ k p there. wide (suc k) p there) in
    let more = more_words x (filter (λ piece. is_claimed piece.body) xs) (is_claimed x.body) (wide 0 x refl) in
    omega (arith, h, more)

-- and in addition the four words of the queue block
wide_behind : (at : ℕ) (pieces : List Piece) (first : Piece) → get_elem? pieces 0 ≡ some first → extent_of first ≡ 4 → AreWide pieces
    → at + (4 + 5 * length (claims_of pieces)) ≤ end_of at (map block_of pieces)
wide_behind at [] first there four wide = absurd (some-ne-none first (sym there))
wide_behind at (x ∷ xs) first there four wide =
    let is : extent_of x ≡ 4 = ap extent_of (some-injective x first there) ∙ four in
    let h = wide_blocks (at + extent_of x) xs (λ k p there. wide (suc k) p there) in
    let same = not_more x (filter (λ piece. is_claimed piece.body) xs) (is_claimed x.body) (λ e. let five = wide 0 x refl e in omega (arith, five, is)) in
    omega (arith, h, same, is)
  where
    not_more : (x : Piece) (rest : List Piece) (claimed : Bool) → (claimed ≡ true → ⊥)
        → length (map claim_of (cond claimed (x ∷ rest) rest)) ≡ length (map claim_of rest)
    not_more x rest true free = absurd (free refl)
    not_more x rest false free = refl

-- ---- a kept segment's

module _ (shape : Dimensions) (words : List ℕ) (anatomy : Anatomy) (shown : IsShown shape words (layout_of anatomy))
    (blocks : (k : ℕ) (piece : Piece) → get_elem? anatomy.pieces k ≡ some piece → ClaimedRight piece) where
  -- a claimed block is not the queue block
  not_queue : (k : ℕ) (p : Piece) → get_elem? anatomy.pieces k ≡ some p → is_claimed p.body ≡ true → 16 ≤ p.at
  not_queue k p there claimed =
      let first = some_first shape words anatomy shown in
      let is = first_piece shape words anatomy shown first.0 first.1 in
      let five = (blocks k p there claimed).1 in
      ⊎_elim
      (λ low. let same = one_piece shape words anatomy shown k 0 p first.0 there first.1 (low ∙ sym is.0) in
      let long = ap extent_of same.1 in
      absurd (omega (arith, five, long, is.2)))
      (λ high. high)
      (piece_from shape words anatomy shown k p there)

  pub claimed_piece : (k : ℕ) (p : Piece) → get_elem? anatomy.pieces k ≡ some p → is_claimed p.body ≡ true → IsClaimedAt shape words p.at (extent_of p)
  claimed_piece k p there claimed =
      let right = blocks k p there claimed in
      let five = right.1 in
      let ends = piece_ends shape words anatomy shown k p there in
      let free = free_word shape words (layout_of anatomy) shown in
      record {
        size_word = piece_word shape words anatomy shown k p 0 there (omega (arith, five)) ∙ right.0;
        cookie_word = piece_word shape words anatomy shown k p 1 there (omega (arith, five)) ∙ cookie_of p.body claimed;
        from = not_queue k p there claimed;
        five = five;
        below = omega (arith, ends, free);
        page = ap (λ (ws : List ℕ). get_or ws 3 0) shown.shows;
        in_page = in_one_page shape.page 12 _ k (block_of p) shown.sound.laid (at_map block_of anatomy.pieces k p there);
      }

  -- a claimed block is valid
  pub lawful_piece : (k : ℕ) (p : Piece) → get_elem? anatomy.pieces k ≡ some p → is_claimed p.body ≡ true → is_block words (head_of words) p.at ≡ true
  lawful_piece k p there claimed = lawful_at shape words p.at (extent_of p) (claimed_piece k p there claimed)

  -- two claims are apart
  pub claims_apart : AnyTwo (λ a b. Apart (run_of a) (run_of b)) (claims_of anatomy.pieces)
  claims_apart i j a b ne there here = elim (cases_order i j) [
    | inl same ↦ absurd (ne same)
    | inr apart ↦ elim apart [
      | inl before ↦ inl (ends_before i j a b before there here)
      | inr behind ↦ inr (ends_before j i b a behind here there)
    ]
  ]
    where
      ends_before : (i j : ℕ) (a b : Claim) → i < j → get_elem? (claims_of anatomy.pieces) i ≡ some a → get_elem? (claims_of anatomy.pieces) j ≡ some b
          → a.at + a.size ≤ b.at
      ends_before = two_claims_of (λ a b. a.at + a.size ≤ b.at) anatomy.pieces
          (λ j k p q lt there here. pieces_apart shape words anatomy shown j k p q there here lt)

  -- five words for each claim fit below the free pointer
  pub claims_few : 5 * length (claims_of anatomy.pieces) + 16 ≤ word_at words 7
  claims_few =
      let first = some_first shape words anatomy shown in
      let four = (first_piece shape words anatomy shown first.0 first.1).2 in
      let h = wide_behind 12 anatomy.pieces first.0 first.1 four (λ k p there claimed. (blocks k p there claimed).1) in
      let free = free_word shape words (layout_of anatomy) shown in
      omega (arith, h, free)
