-- Blocks that pass from one owner to another: their words and places stay, and so does all that holds of others.
use Rattle.segment_invariant.proofs.Prelude.Std.{◌≡◌, ◌≢◌, ℕ, ◌+◌, ◌≤◌, pos, ◌+ℤ◌, Bool, true, false, cond, List, [], ◌∷◌, ◌++◌, map, replicate, ◌%◌, IsPermutation, inl, inr, ⊎_elim, refl, sym, ap, ◌∙◌, subst, eq-eqb, ne_eqb, All, fold, if◌then◌else◌, ◌==◌, flat_map, some, none, some-ne-none, get_elem?, at_map, from_map}
use Rattle.segment_invariant.proofs.Prelude.Machine.{Dimensions, Behind, IsShown, Actor, Known, Seen, Claim}
use Rattle.segment_invariant.proofs.Prelude.Invariant.{Body, words_of, Piece, extent_of, Anatomy, layout_of, free_of, is_claimed, claims_of, Stands, IsRightlyKnown, Sees, StandStill, ClaimedRight, CallsRight, Fits}
use Rattle.std.proofs.lemmas.List.Folds.{fold-map}
use mathlib.Core.Option.{Option}
use Rattle.alloc_core.specs.Layout.{Block, queue_block, end_of, spread, IsLaid, head_words, flags_of}
use Rattle.segment_invariant.specs.Body.{block_of}
use Rattle.segment_invariant.proofs.Frames.Anatomies.{balanced_along, list_along, records_along, sums_along, sees_along, names_along, calls_along, fits_along}
use Rattle.list_lemmas.proofs.Maps.{map_after}
use Rattle.segment_invariant.proofs.Frames.Books.{Books}
use Rattle.segment_invariant.proofs.Frames.Growth.{reshaped, Stays}
use Rattle.segment_invariant.proofs.Frames.PassedOver.{passed_on, still_there}

-- whose a block is that was another's
abbrev pub passed : (from to : ℕ) → Option ℕ → Option ℕ
passed from to none = none
passed from to (some id) = if id == from then some to else some id

abbrev pub pass : (from to : ℕ) → Piece → Piece
pass from to piece = record piece { owner = passed from to piece.owner }

abbrev pub handed : (from to : ℕ) → Anatomy → Anatomy
handed from to anatomy =
    reshaped anatomy (map (pass from to) anatomy.pieces) anatomy.spare anatomy.corrupt anatomy.full anatomy.tail

-- ---- where blocks are

module _ (from to : ℕ) where
  stands_passed : (pieces : List Piece) (at : ℕ) (owner : Option ℕ) (body : Body) → Stands pieces at owner body
      → Stands (map (pass from to) pieces) at (passed from to owner) body
  stands_passed pieces at owner body has = (has.0, at_map (pass from to) pieces has.0 (record { at = at; owner = owner; body = body }) has.1)

  -- what was the one's is the other's
  pub stands_given : (pieces : List Piece) (at : ℕ) (body : Body) → Stands pieces at (some from) body
      → Stands (map (pass from to) pieces) at (some to) body
  stands_given pieces at body has =
      subst (λ (owner : Option ℕ). Stands (map (pass from to) pieces) at owner body)
      (ap (λ (b : Bool). if b then some to else some from) (eq-eqb from from refl))
      (stands_passed pieces at (some from) body has)

  -- what was somebody else's is
  pub stands_left : (pieces : List Piece) (id : ℕ) → id ≢ from → (at : ℕ) (body : Body) → Stands pieces at (some id) body
      → Stands (map (pass from to) pieces) at (some id) body
  stands_left pieces id apart at body has =
      subst (λ (owner : Option ℕ). Stands (map (pass from to) pieces) at owner body)
      (ap (λ (b : Bool). if b then some to else some id) (ne_eqb id from apart))
      (stands_passed pieces at (some id) body has)

  nobody_passed : (owner : Option ℕ) → passed from to owner ≡ none → owner ≡ none
  nobody_passed none e = refl
  nobody_passed (some id) e = absurd (somebody (id == from) e)
    where
      somebody : (b : Bool) → (if b then some to else some id) ≡ none → ⊥
      somebody true e = some-ne-none to e
      somebody false e = some-ne-none id e

  pub stays_passed : (pieces : List Piece) → Stays pieces (map (pass from to) pieces)
  stays_passed pieces = record {
    there = λ at body has. stands_passed pieces at none body has;
    back = λ at body has.
        let found = from_map (pass from to) pieces has.0 _ has.1 in
        let e = found.2 in
        let nobody = nobody_passed found.0.owner (ap (λ (p : Piece). p.owner) e) in
        (has.0, found.1 ∙ ap some (λ i. record { at = (e i).at; owner = nobody i; body = (e i).body }));
    held = λ holds silent. fold-map (λ (n : ℕ) (piece : Piece). n + holds piece.body) (pass from to) 0 pieces;
    amounts = λ holds silent. ap (fold ◌+ℤ◌ (pos 0)) (map_after (pass from to) (λ (piece : Piece). holds piece.body) (λ piece. refl) pieces);
  }

  -- ---- the words

  ends_passed : (at : ℕ) (pieces : List Piece) → end_of at (map block_of (map (pass from to) pieces)) ≡ end_of at (map block_of pieces)
  ends_passed at [] = refl
  ends_passed at (piece ∷ pieces) = ends_passed (at + extent_of piece) pieces

  spread_passed : (others : List ℕ) (pieces : List Piece) → spread others (map block_of (map (pass from to) pieces)) ≡ spread others (map block_of pieces)
  spread_passed others [] = refl
  spread_passed others (piece ∷ pieces) = ap (λ (words : List ℕ). words_of piece.body ++ words) (spread_passed others pieces)

  laid_passed : (page at : ℕ) (pieces : List Piece) → IsLaid page at (map block_of pieces) → IsLaid page at (map block_of (map (pass from to) pieces))
  laid_passed page at [] laid = laid
  laid_passed page at (piece ∷ pieces) laid = (laid.0, laid.1, laid.2, laid_passed page (at + extent_of piece) pieces laid.3)

  pub free_passed : (anatomy : Anatomy) → free_of (handed from to anatomy) ≡ free_of anatomy
  free_passed anatomy = ends_passed 12 anatomy.pieces

  pub shown_passed : (shape : Dimensions) (words : List ℕ) (anatomy : Anatomy) → IsShown shape words (layout_of anatomy)
      → IsShown shape words (layout_of (handed from to anatomy))
  shown_passed shape words anatomy shown = record {
    shows = shown.shows
        ∙ ap (λ (tail : List ℕ). head_words shape (layout_of anatomy) ++ tail) (sym (spread_passed (replicate anatomy.spare 0) anatomy.pieces))
        ∙ ap (λ (head : List ℕ). head ++ spread (replicate anatomy.spare 0) (map block_of (map (pass from to) anatomy.pieces)))
        (ap (λ (free : ℕ). 0x408305DC ∷ anatomy.version ∷ shape.size ∷ shape.page ∷ anatomy.id ∷ 1
        ∷ flags_of anatomy.corrupt anatomy.full anatomy.other_flags
        ∷ free ∷ anatomy.tail ∷ anatomy.reserved.0 ∷ anatomy.reserved.1 ∷ anatomy.reserved.2 ∷ []) (sym (free_passed anatomy)));
    sound = record {
      lawful = shown.sound.lawful;
      queue = (
          let queue = shown.sound.queue in
          let first = from_map block_of anatomy.pieces 0 (queue_block queue.0) queue.1 in (
            queue.0,
            at_map block_of _ 0 (pass from to first.0) (at_map (pass from to) anatomy.pieces 0 first.0 first.1)
                ∙ ap some (ap (λ (b : Block). record b { owner = passed from to b.owner }) first.2),
          ));
      laid = laid_passed shape.page 12 anatomy.pieces shown.sound.laid;
      ends = ap (λ (free : ℕ). free + anatomy.spare) (free_passed anatomy) ∙ shown.sound.ends;
      leaves = subst (λ (free : ℕ). free % shape.page + 5 ≤ shape.page) (sym (free_passed anatomy)) shown.sound.leaves;
    };
  }

  -- ---- what each block is

  abbrev claim_of : Piece → Claim
  claim_of piece = record { at = piece.at; size = extent_of piece }

  pub claims_passed : (pieces : List Piece) → claims_of (map (pass from to) pieces) ≡ claims_of pieces
  claims_passed [] = refl
  claims_passed (piece ∷ pieces) = first (is_claimed piece.body) piece _ _ (claims_passed pieces)
    where
      first : (claimed : Bool) (piece : Piece) (now before : List Piece) → map claim_of now ≡ map claim_of before
          → map claim_of (cond claimed (pass from to piece ∷ now) now) ≡ map claim_of (cond claimed (piece ∷ before) before)
      first true piece now before e = ap (λ (claims : List Claim). claim_of piece ∷ claims) e
      first false piece now before e = e

  pub still_passed : (opened pieces : List Piece) → StandStill opened pieces → StandStill opened (map (pass from to) pieces)
  still_passed opened pieces still k p there =
      let stood = still k p there in
      (pass from to stood.0, at_map (pass from to) pieces k stood.0 stood.1, stood.2)

  pub blocks_passed : (pieces : List Piece) → ((k : ℕ) (piece : Piece) → get_elem? pieces k ≡ some piece → ClaimedRight piece)
      → (k : ℕ) (piece : Piece) → get_elem? (map (pass from to) pieces) k ≡ some piece → ClaimedRight piece
  blocks_passed pieces blocks k piece there =
      let found = from_map (pass from to) pieces k piece there in
      subst ClaimedRight found.2
      (λ claimed.
      let was = blocks k found.0 found.1 claimed in
      (was.0, was.1, ⊎_elim (λ nobody. inl (ap (passed from to) nobody)) (λ own. inr own) was.2))

-- ---- books, and those to whom nothing passed

module _ (from to : ℕ) (anatomy : Anatomy) where
  abbrev pieces : List Piece
  pieces = map (pass from to) anatomy.pieces

  pub books_passed : (shape : Dimensions) (opened : Anatomy) (words cursors : List ℕ) (actors : List Actor)
      → Books shape opened anatomy words cursors actors → Books shape opened (handed from to anatomy) words cursors actors
  books_passed shape opened words cursors actors books = record {
    shown = shown_passed from to shape words anatomy books.shown;
    same = books.same;
    versions = books.versions;
    still = still_passed from to opened.pieces anatomy.pieces books.still;
    blocks = blocks_passed from to anatomy.pieces books.blocks;
    list = list_along anatomy pieces anatomy.spare anatomy.corrupt anatomy.full anatomy.tail (stays_passed from to anatomy.pieces)
        words words opened actors books.list.linked books.list.tail books.list;
    claims = subst (λ (claims : List Claim). IsPermutation claims (claims_of opened.pieces ++ flat_map (λ a. a.done.claimed) actors))
        (sym (claims_passed from to anatomy.pieces)) books.claims;
    records = records_along anatomy pieces anatomy.spare anatomy.corrupt anatomy.full anatomy.tail (stays_passed from to anatomy.pieces)
        shape.page books.records;
    passed_over = passed_on shape.page opened anatomy.pieces pieces (still_there anatomy.pieces pieces (stays_passed from to anatomy.pieces)) books.passed_over;
    balanced = balanced_along anatomy pieces anatomy.spare anatomy.corrupt anatomy.full anatomy.tail (stays_passed from to anatomy.pieces)
        opened.pieces actors books.balanced;
    keys = books.keys;
    taken_keys = books.taken_keys;
    sums = sums_along anatomy pieces anatomy.spare anatomy.corrupt anatomy.full anatomy.tail (stays_passed from to anatomy.pieces)
        actors books.sums;
    pool = books.pool;
    corrupt = books.corrupt;
    full = books.full;
    noticed = books.noticed;
    answered = books.answered;
    stand = books.stand;
  }

  pub sees_passed : (cursors : List ℕ) (seen : Seen) → Sees anatomy cursors seen → Sees (handed from to anatomy) cursors seen
  sees_passed cursors seen sees =
      sees_along anatomy pieces anatomy.spare anatomy.corrupt anatomy.full anatomy.tail (stays_passed from to anatomy.pieces) cursors seen
      (subst (Behind seen.free) (sym (free_passed from to anatomy)) sees.free) sees.tails sees

  pub names_passed : (names : List Known) → All (IsRightlyKnown anatomy) names → All (IsRightlyKnown (handed from to anatomy)) names
  names_passed = names_along anatomy pieces anatomy.spare anatomy.corrupt anatomy.full anatomy.tail (stays_passed from to anatomy.pieces)

  pub calls_passed : (a : Actor) → CallsRight anatomy a → CallsRight (handed from to anatomy) a
  calls_passed a calls =
      calls_along anatomy pieces anatomy.spare anatomy.corrupt anatomy.full anatomy.tail (stays_passed from to anatomy.pieces) a calls

  pub fits_passed : (shape : Dimensions) (cursors : List ℕ) (actors : List Actor) (opener : Actor) (id : ℕ) (a : Actor) → id ≢ from
      → Fits shape anatomy cursors actors opener id a → Fits shape (handed from to anatomy) cursors actors opener id a
  fits_passed shape cursors actors opener id a apart fit =
      fits_along anatomy pieces anatomy.spare anatomy.corrupt anatomy.full anatomy.tail (stays_passed from to anatomy.pieces) shape cursors actors opener id a
      (stands_left from to anatomy.pieces id apart) (subst (Behind a.seen.free) (sym (free_passed from to anatomy)) fit.sees.free) fit.sees.tails fit.ahead fit
