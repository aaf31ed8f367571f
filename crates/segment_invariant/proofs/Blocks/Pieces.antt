-- The blocks of a segment among its words: a word of a block, a store into one, a block more, and what of the blocks stays.
use Rattle.segment_invariant.proofs.Prelude.Std.{◌≡◌, ◌≢◌, ◌⊎◌, ℕ, zero, suc, ◌+◌, ◌-◌, ◌<◌, ◌≤◌, ℤ, pos, ◌+ℤ◌, Bool, true, false, cond, List, [], ◌∷◌, ◌++◌, map, length, replicate, set, get_or, fold, filter, IsPermutation, inl, inr, ⊎_elim, refl, sym, ap, ◌∙◌, subst, arith, get_or-drop, slice_index, cases_order, +ℤ_idr, some, none, some-injective, some-ne-none, get_elem?, at_map, at_set, set_else, at_longer, column, sum_beside, sum_same, from_map}
use Rattle.segment_invariant.proofs.Prelude.Machine.{Dimensions, word_at, IsShown, Claim}
use Rattle.segment_invariant.proofs.Prelude.Invariant.{Body, queue, plain, words_of, is_claimed, Piece, extent_of, Anatomy, layout_of, free_of, claims_of, all_held, Stands}
use Rattle.std.proofs.Common.{get_or-take}
use Rattle.std.proofs.lemmas.List.{map_push}
use Rattle.std.proofs.lemmas.List.Sums.{sum_by_push, fold-append}
use Rattle.std.proofs.lemmas.List.Sorted.{IsPermutation-append_comm, IsPermutation-cons}
use mathlib.Core.Option.{Option}
use lib.Seq.{map-set}
use Rattle.atomic_table.proofs.Lists.{at_last, at_snoc}
use Rattle.alloc_core.specs.Layout.{Block, extent, IsLaid, queue_block, put, raw_block, grown}
use Rattle.alloc_core.specs.Layout as layout
use Rattle.alloc_core.proofs.Layouts.{apart, ends_within, shown_put, shown_queue, slice_shown, free_put, free_grown, free_from}
use Rattle.alloc_core.proofs.Owners.{set_at}
use Rattle.segment_invariant.specs.Body.{block_of}
use Rattle.segment_invariant.specs.Ledger.{all_amounts}

-- ---- one block among others

-- a block is not empty
positive : (page at : ℕ) (blocks : List Block) (k : ℕ) (b : Block) → IsLaid page at blocks → get_elem? blocks k ≡ some b → 0 < extent b
positive page at [] k b laid e = absurd (some-ne-none b (sym e))
positive page at (x ∷ xs) zero b laid e = subst (λ (z : Block). 0 < extent z) (some-injective x b e) laid.1
positive page at (x ∷ xs) (suc k) b laid e = positive page (at + extent x) xs k b laid.3 e

-- The pieces of an anatomy whose words these are.
module _ (shape : Dimensions) (words : List ℕ) (anatomy : Anatomy) (shown : IsShown shape words (layout_of anatomy)) where
  block_there : (k : ℕ) (p : Piece) → get_elem? anatomy.pieces k ≡ some p → get_elem? (map block_of anatomy.pieces) k ≡ some (block_of p)
  block_there k p there = at_map block_of anatomy.pieces k p there

  -- a word of a piece among all words
  pub piece_word : (k : ℕ) (p : Piece) (j : ℕ) → get_elem? anatomy.pieces k ≡ some p → j < extent_of p
      → word_at words (p.at + j) ≡ slice_index (words_of p.body) j
  piece_word k p j there lt =
      sym (get_or-drop p.at words j 0)
      ∙ (sym (get_or-take (extent_of p) _ j 0 lt)
      ∙ ap (λ (ws : List ℕ). get_or ws j 0) (slice_shown shape words (layout_of anatomy) k (block_of p) shown (block_there k p there)))

  -- the first piece has no owner, and begins at 12
  pub first_piece : (p : Piece) → get_elem? anatomy.pieces 0 ≡ some p → (p.at ≡ 12) × (p.owner ≡ none) × (extent_of p ≡ 4)
  first_piece p there =
      let queue = shown.sound.queue in
      let same : block_of p ≡ queue_block queue.0 = some-injective _ _ (sym (block_there 0 p there) ∙ queue.1) in
      (ap (λ (b : Block). b.at) same, ap (λ (b : Block). b.owner) same, ap extent same)

  -- the first piece is there
  pub some_first : (p : Piece) × (get_elem? anatomy.pieces 0 ≡ some p)
  some_first = let h = from_map block_of anatomy.pieces 0 (queue_block shown.sound.queue.0) shown.sound.queue.1 in (h.0, h.1)

  -- a piece with an owner is not the first
  pub not_first : (k : ℕ) (p : Piece) (id : ℕ) → get_elem? anatomy.pieces k ≡ some p → p.owner ≡ some id → k ≢ 0
  not_first k p id there owned zero_is =
      some-ne-none id (sym owned ∙ (first_piece p (subst (λ n. get_elem? anatomy.pieces n ≡ some p) zero_is there)).1)

  -- of two pieces the one ends before the other begins
  pub pieces_apart : (k j : ℕ) (p q : Piece) → get_elem? anatomy.pieces k ≡ some p → get_elem? anatomy.pieces j ≡ some q → k < j
      → p.at + extent_of p ≤ q.at
  pieces_apart k j p q there here lt =
      apart shape.page 12 _ k j (block_of p) (block_of q) shown.sound.laid (block_there k p there) (block_there j q here) lt

  -- so two that share a word are one
  pub one_index : (k j : ℕ) (p q : Piece) (m n : ℕ) → get_elem? anatomy.pieces k ≡ some p → get_elem? anatomy.pieces j ≡ some q
      → m < extent_of p → n < extent_of q → p.at + m ≡ q.at + n → k ≡ j
  one_index k j p q m n there here lt within same = elim (cases_order k j) [
    | inl is ↦ is
    | inr other ↦ elim other [
      | inl before ↦ let h = pieces_apart k j p q there here before in absurd (omega (arith, h, lt, within, same))
      | inr behind ↦ let h = pieces_apart j k q p here there behind in absurd (omega (arith, h, lt, within, same))
    ]
  ]

  pub not_empty : (k : ℕ) (p : Piece) → get_elem? anatomy.pieces k ≡ some p → 0 < extent_of p
  not_empty k p there = positive shape.page 12 _ k (block_of p) shown.sound.laid (block_there k p there)

  -- and there is one piece at each place
  pub one_piece : (k j : ℕ) (p q : Piece) → get_elem? anatomy.pieces k ≡ some p → get_elem? anatomy.pieces j ≡ some q → p.at ≡ q.at
      → (k ≡ j) × (p ≡ q)
  one_piece k j p q there here same =
      let index = one_index k j p q 0 0 there here (not_empty k p there) (not_empty j q here) (omega (arith, same)) in
      (index, some-injective p q (sym there ∙ (ap (get_elem? anatomy.pieces) index ∙ here)))

  pub one_stands : (at : ℕ) (owner other : Option ℕ) (body body' : Body) → Stands anatomy.pieces at owner body → Stands anatomy.pieces at other body'
      → (owner ≡ other) × (body ≡ body')
  one_stands at owner other body body' a b =
      let same = (one_piece a.0 b.0 _ _ a.1 b.1 refl).1 in
      (ap (λ (p : Piece). p.owner) same, ap (λ (p : Piece). p.body) same)

  -- a piece begins after the words of the header
  pub piece_from : (k : ℕ) (p : Piece) → get_elem? anatomy.pieces k ≡ some p → (p.at ≡ 12) ⊎ (16 ≤ p.at)
  piece_from zero p there = inl (first_piece p there).0
  piece_from (suc k) p there =
      let q = some_first in
      let is = first_piece q.0 q.1 in
      let h = pieces_apart 0 (suc k) q.0 p q.1 there (omega arith) in
      inr (omega (arith, h, is.0, is.2))

  -- it ends at the free pointer, or before
  pub piece_ends : (k : ℕ) (p : Piece) → get_elem? anatomy.pieces k ≡ some p → p.at + extent_of p ≤ free_of anatomy
  piece_ends k p there = ends_within shape.page 12 _ k (block_of p) shown.sound.laid (block_there k p there)

  pub free_within : free_of anatomy ≤ shape.size
  free_within = let ends = shown.sound.ends in omega (arith, ends)

  pub free_least : 16 ≤ free_of anatomy
  free_least = free_from shape words (layout_of anatomy) shown

-- ---- another piece in the place of one

-- the anatomy with another piece in the place of piece k
abbrev pub with_piece : Anatomy → ℕ → Piece → Anatomy
with_piece anatomy k p = record anatomy { pieces = set anatomy.pieces k p }

-- its layout has another block there
pub layout_with : (anatomy : Anatomy) (k : ℕ) (p : Piece) → put (layout_of anatomy) k (block_of p) ≡ layout_of (with_piece anatomy k p)
layout_with anatomy k p =
    ap (λ (blocks : List Block). record (layout_of anatomy) { blocks = blocks }) (sym (map-set block_of anatomy.pieces k p))

pub shown_with : (shape : Dimensions) (words : List ℕ) (anatomy : Anatomy) (k : ℕ) (p : Piece)
    → IsShown shape words (put (layout_of anatomy) k (block_of p)) → IsShown shape words (layout_of (with_piece anatomy k p))
shown_with shape words anatomy k p = subst (IsShown shape words) (layout_with anatomy k p)

-- a word of a piece is stored, which can leave it to another owner
pub piece_stored : (shape : Dimensions) (words : List ℕ) (anatomy : Anatomy) (k : ℕ) (p q : Piece) (j v : ℕ)
    → IsShown shape words (layout_of anatomy) → get_elem? anatomy.pieces k ≡ some p → k ≢ 0 → j < extent_of p
    → words_of q.body ≡ set (words_of p.body) j v → q.at ≡ p.at
    → IsShown shape (set words (p.at + j) v) (layout_of (with_piece anatomy k q))
piece_stored shape words anatomy k p q j v shown there other lt is same =
    shown_with shape (set words (p.at + j) v) anatomy k q
    (shown_put shape words (layout_of anatomy) k (block_of p) (block_of q) j v shown
    (at_map block_of anatomy.pieces k p there) other lt is same)

-- the next of the queue block is stored
abbrev pub queue_piece : ℕ → Piece
queue_piece next = record { at = 12; owner = none; body = queue next }

pub queue_stored : (shape : Dimensions) (words : List ℕ) (anatomy : Anatomy) (v : ℕ) → IsShown shape words (layout_of anatomy)
    → IsShown shape (set words 15 v) (layout_of (with_piece anatomy 0 (queue_piece v)))
queue_stored shape words anatomy v shown =
    shown_with shape (set words 15 v) anatomy 0 (queue_piece v) (shown_queue shape words (layout_of anatomy) v shown)

-- the free pointer stays
pub free_with : (anatomy : Anatomy) (k : ℕ) (p q : Piece) → get_elem? anatomy.pieces k ≡ some p → extent_of q ≡ extent_of p
    → free_of (with_piece anatomy k q) ≡ free_of anatomy
free_with anatomy k p q there long =
    sym (ap layout.free_of (layout_with anatomy k q))
    ∙ free_put (layout_of anatomy) k (block_of p) (block_of q) (at_map block_of anatomy.pieces k p there) long

-- what is at other places stays, and nothing else is added
module _ (pieces : List Piece) (k : ℕ) (p q : Piece) (there : get_elem? pieces k ≡ some p) where
  pub stands_here : Stands (set pieces k q) q.at q.owner q.body
  stands_here = (k, set_at pieces k p q there)

  pub stands_beside : (at : ℕ) (owner : Option ℕ) (body : Body) → (record { at = at; owner = owner; body = body } ≢ p)
      → Stands pieces at owner body → Stands (set pieces k q) at owner body
  stands_beside at owner body other (i, is) = (
    i,
    set_else pieces k i q
        (λ same. other (some-injective _ _ (sym is ∙ (ap (get_elem? pieces) same ∙ there))))
        ∙ is,
  )

  pub stood_beside : (at : ℕ) (owner : Option ℕ) (body : Body) → (record { at = at; owner = owner; body = body } ≢ q)
      → Stands (set pieces k q) at owner body → Stands pieces at owner body
  stood_beside at owner body other (i, is) = (
    i,
    ⊎_elim (λ t. absurd (other (sym t.1))) (λ t. t.1) (at_set pieces k i q (record { at = at; owner = owner; body = body }) is),
  )

-- ---- a piece more

-- the anatomy with a piece of raw words more
abbrev pub raw_piece : ℕ → ℕ → ℕ → Piece
raw_piece at id size = record { at = at; owner = some id; body = plain (replicate size 0) }

abbrev pub grown_by : Anatomy → ℕ → ℕ → Anatomy
grown_by anatomy id size =
    record anatomy { pieces = anatomy.pieces ++ raw_piece (free_of anatomy) id size ∷ []; spare = anatomy.spare - size }

pub layout_grown : (anatomy : Anatomy) (id size : ℕ) → grown (layout_of anatomy) id size ≡ layout_of (grown_by anatomy id size)
layout_grown anatomy id size =
    ap (λ (blocks : List Block). record (layout_of anatomy) { blocks = blocks; spare = anatomy.spare - size })
    (sym (map_push block_of anatomy.pieces (raw_piece (free_of anatomy) id size)))

pub free_more : (anatomy : Anatomy) (id size : ℕ) → free_of (grown_by anatomy id size) ≡ free_of anatomy + size
free_more anatomy id size = sym (ap layout.free_of (layout_grown anatomy id size)) ∙ free_grown (layout_of anatomy) id size

module _ (pieces : List Piece) (q : Piece) where
  pub stands_last : Stands (pieces ++ q ∷ []) q.at q.owner q.body
  stands_last = (length pieces, at_last pieces q (length pieces) refl)

  pub stands_longer : (at : ℕ) (owner : Option ℕ) (body : Body) → Stands pieces at owner body → Stands (pieces ++ q ∷ []) at owner body
  stands_longer at owner body (i, is) = (i, at_longer pieces (q ∷ []) i _ is)

  pub stood_longer : (at : ℕ) (owner : Option ℕ) (body : Body) → (record { at = at; owner = owner; body = body } ≢ q)
      → Stands (pieces ++ q ∷ []) at owner body → Stands pieces at owner body
  stood_longer at owner body other (i, is) = (i, ⊎_elim (λ old. old) (λ new. absurd (other (sym new))) (at_snoc pieces q _ i is))

-- ---- the claims

abbrev pub claim_of : Piece → Claim
claim_of piece = record { at = piece.at; size = extent_of piece }

abbrev claims_with : Bool → Claim → List Claim → List Claim
claims_with b c claims = cond b (c ∷ claims) claims

claims_next : (b : Bool) (p : Piece) (rest : List Piece)
    → map claim_of (cond b (p ∷ filter (λ piece. is_claimed piece.body) rest) (filter (λ piece. is_claimed piece.body) rest))
    ≡ claims_with b (claim_of p) (claims_of rest)
claims_next true p rest = refl
claims_next false p rest = refl

-- the claims are those of the first piece, if it is claimed, and of the others
claims_cons : (p : Piece) (rest : List Piece) → claims_of (p ∷ rest) ≡ claims_with (is_claimed p.body) (claim_of p) (claims_of rest)
claims_cons p rest = claims_next (is_claimed p.body) p rest

-- a piece in the place of one that is claimed as it is
pub claims_same : (pieces : List Piece) (k : ℕ) (p q : Piece) → get_elem? pieces k ≡ some p → is_claimed q.body ≡ is_claimed p.body
    → q.at ≡ p.at → extent_of q ≡ extent_of p → claims_of (set pieces k q) ≡ claims_of pieces
claims_same [] k p q there same place long = refl
claims_same (x ∷ xs) zero p q there same place long =
    let is : x ≡ p = some-injective x p there in
    claims_cons q xs
    ∙ ((λ i. claims_with (same i) (record { at = place i; size = long i }) (claims_of xs))
    ∙ (ap (λ (z : Piece). claims_with (is_claimed z.body) (claim_of z) (claims_of xs)) (sym is) ∙ sym (claims_cons x xs)))
claims_same (x ∷ xs) (suc k) p q there same place long =
    claims_cons x (set xs k q)
    ∙ (ap (claims_with (is_claimed x.body) (claim_of x)) (claims_same xs k p q there same place long) ∙ sym (claims_cons x xs))

with_more : (b : Bool) (c d : Claim) (old new : List Claim) → IsPermutation new (old ++ d ∷ []) → IsPermutation (claims_with b c new) (claims_with b c old ++ d ∷ [])
with_more true c d old new more = IsPermutation-cons c _ _ more
with_more false c d old new more = more

-- a claimed piece in the place of one that is not: one claim more
pub claims_more : (pieces : List Piece) (k : ℕ) (p q : Piece) → get_elem? pieces k ≡ some p → is_claimed p.body ≡ false → is_claimed q.body ≡ true
    → IsPermutation (claims_of (set pieces k q)) (claims_of pieces ++ record { at = q.at; size = extent_of q } ∷ [])
claims_more [] k p q there free claimed = absurd (some-ne-none p (sym there))
claims_more (x ∷ xs) zero p q there free claimed =
    let is : x ≡ p = some-injective x p there in
    let old : claims_of (x ∷ xs) ≡ claims_of xs =
    claims_cons x xs ∙ ap (λ b. claims_with b (claim_of x) (claims_of xs)) (ap (λ (z : Piece). is_claimed z.body) is ∙ free) in
    let new : claims_of (q ∷ xs) ≡ claim_of q ∷ claims_of xs = claims_cons q xs ∙ ap (λ b. claims_with b (claim_of q) (claims_of xs)) claimed in
    subst (λ (p : List Claim × List Claim). IsPermutation p.0 (p.1 ++ claim_of q ∷ [])) (λ i. (sym new i, sym old i))
    (IsPermutation-append_comm (claim_of q ∷ []) (claims_of xs))
claims_more (x ∷ xs) (suc k) p q there free claimed =
    subst (λ (c : List Claim × List Claim). IsPermutation c.0 (c.1 ++ claim_of q ∷ []))
    (λ i. (sym (claims_cons x (set xs k q)) i, sym (claims_cons x xs) i))
    (with_more (is_claimed x.body) (claim_of x) (claim_of q) (claims_of xs) (claims_of (set xs k q)) (claims_more xs k p q there free claimed))

-- a piece more that is not claimed
pub claims_grown : (pieces : List Piece) (q : Piece) → is_claimed q.body ≡ false → claims_of (pieces ++ q ∷ []) ≡ claims_of pieces
claims_grown [] q free = claims_cons q [] ∙ ap (λ b. claims_with b (claim_of q) []) free
claims_grown (x ∷ xs) q free =
    claims_cons x (xs ++ q ∷ [])
    ∙ (ap (claims_with (is_claimed x.body) (claim_of x)) (claims_grown xs q free) ∙ sym (claims_cons x xs))

-- ---- what pieces hold together

pub held_same : (holds : Body → ℕ) (pieces : List Piece) (k : ℕ) (p q : Piece) → get_elem? pieces k ≡ some p → holds q.body ≡ holds p.body
    → all_held holds (set pieces k q) ≡ all_held holds pieces
held_same holds pieces k p q there same = sum_same (λ (piece : Piece). holds piece.body) pieces k p q there same

-- or what they held, with what the new piece holds in place of the old one
pub held_beside : (holds : Body → ℕ) (pieces : List Piece) (k : ℕ) (p q : Piece) → get_elem? pieces k ≡ some p
    → all_held holds (set pieces k q) + holds p.body ≡ all_held holds pieces + holds q.body
held_beside holds pieces k p q there = sum_beside (λ (piece : Piece). holds piece.body) pieces k p q there

pub held_grown : (holds : Body → ℕ) (pieces : List Piece) (q : Piece) → holds q.body ≡ 0 → all_held holds (pieces ++ q ∷ []) ≡ all_held holds pieces
held_grown holds pieces q nothing = let e = sum_by_push (λ (piece : Piece). holds piece.body) pieces q in omega (arith, e, nothing)

pub amounts_same : (holds : Body → ℤ) (pieces : List Piece) (k : ℕ) (p q : Piece) → get_elem? pieces k ≡ some p → holds q.body ≡ holds p.body
    → all_amounts holds (set pieces k q) ≡ all_amounts holds pieces
amounts_same holds pieces k p q there same = ap (fold ◌+ℤ◌ (pos 0)) (column (λ (piece : Piece). holds piece.body) pieces k p q there same)

pub amounts_grown : (holds : Body → ℤ) (pieces : List Piece) (q : Piece) → holds q.body ≡ pos 0 → all_amounts holds (pieces ++ q ∷ []) ≡ all_amounts holds pieces
amounts_grown holds pieces q nothing =
    ap (fold ◌+ℤ◌ (pos 0)) (map_push (λ (piece : Piece). holds piece.body) pieces q)
    ∙ (fold-append ◌+ℤ◌ (pos 0) (map (λ (piece : Piece). holds piece.body) pieces) (holds q.body ∷ [])
    ∙ (ap (λ n. all_amounts holds pieces +ℤ n) nothing ∙ +ℤ_idr (all_amounts holds pieces)))
