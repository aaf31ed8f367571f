-- Words as a row of pieces: the blocks that begin at some words, and each other word by itself.
use Rattle.segment_invariant.proofs.Prelude.Std.{◌≡◌, ◌⊎◌, ℕ, zero, suc, ◌+◌, ◌<◌, ◌≤◌, Bool, true, false, List, [], ◌∷◌, ◌++◌, map, length, take, drop, inl, inr, refl, sym, ap, ◌∙◌, subst, arith, ◌%◌, cases_order, take-append-drop, some, none, get_elem?}
use Rattle.segment_invariant.proofs.Prelude.Machine.{word_at}
use Rattle.segment_invariant.proofs.Prelude.Invariant.{Body, plain, words_of, Piece}
use Rattle.std.proofs.Common.{drop-cons}
use Rattle.std.proofs.lemmas.List.{drop-drop}
use Rattle.alloc_core.specs.Layout.{IsLaid, spread, end_of}
use Rattle.segment_invariant.specs.Body.{block_of}

-- Of these words the blocks begin at some, are `body` there, and are followed by the free pointer.
module _ (words : List ℕ) (page free : ℕ) (begins : ℕ → Bool) (body : ℕ → Body) where
  abbrev pub extent_at : ℕ → ℕ
  extent_at at = length (words_of (body at))

  -- the piece of a block, and that of a word between blocks
  abbrev pub piece_at : ℕ → Piece
  piece_at at = record { at = at; owner = none; body = body at }

  abbrev pub gap_at : ℕ → Piece
  gap_at at = record { at = at; owner = none; body = plain (word_at words at ∷ []) }

  -- blocks that lie in their pages and below the free pointer, hold their words and do not overlap
  pub record AreBlocks : Type 0 where
    pub long : free ≤ length words
    pub pages : 1 ≤ page
    pub some : (at : ℕ) → begins at ≡ true → 0 < extent_at at
    pub within : (at : ℕ) → begins at ≡ true → at + extent_at at ≤ free
    pub paged : (at : ℕ) → begins at ≡ true → at % page + extent_at at ≤ page
    pub shown : (at : ℕ) → begins at ≡ true → words_of (body at) ≡ take (extent_at at) (drop at words)
    pub apart : (a b : ℕ) → begins a ≡ true → begins b ≡ true → a < b → a + extent_at a ≤ b

  -- a piece is a block or a word between blocks
  abbrev pub IsCut : Piece → Type 0
  IsCut p = ((begins p.at ≡ true) × (p ≡ piece_at p.at)) ⊎ ((begins p.at ≡ false) × (p ≡ gap_at p.at))

  -- pieces in a row from a word on: all words up to the free pointer, each block once
  pub record AreCut (at : ℕ) (pieces : List Piece) : Type 0 where
    pub laid : IsLaid page at (map block_of pieces)
    pub shows : (others : List ℕ) → drop free words ≡ others → spread others (map block_of pieces) ≡ drop at words
    pub ends : end_of at (map block_of pieces) ≡ free
    pub each : (k : ℕ) (p : Piece) → get_elem? pieces k ≡ some p → IsCut p
    pub all : (b : ℕ) → begins b ≡ true → at ≤ b → (k : ℕ) × (get_elem? pieces k ≡ some (piece_at b))

  -- no block begins before a word and ends after it
  abbrev pub IsBetween : ℕ → Type 0
  IsBetween at = (b : ℕ) → begins b ≡ true → (b + extent_at b ≤ at) ⊎ (at ≤ b)

  module _ (blocks : AreBlocks) where
    behind_block : (at : ℕ) → begins at ≡ true → IsBetween at → IsBetween (at + extent_at at)
    behind_block at here between b there = elim (cases_order at b) [
      | inl same ↦ inl (subst (λ (c : ℕ). c + extent_at c ≤ at + extent_at at) same (omega arith))
      | inr other ↦ elim other [
        | inl before ↦ inr (blocks.apart at b here there before)
        | inr behind ↦ let e = blocks.apart b at there here behind in inl (omega (arith, e))
      ]
    ]

    behind_word : (at : ℕ) → begins at ≡ false → IsBetween at → IsBetween (at + 1)
    behind_word at here between b there = elim (between b there) [
      | inl before ↦ inl (omega (arith, before))
      | inr from ↦ elim (cases_order at b) [
        | inl same ↦ absurd (cc (sym here ∙ (ap begins same ∙ there)))
        | inr other ↦ elim other [
          | inl before ↦ inr (omega (arith, before))
          | inr behind ↦ absurd (omega (arith, from, behind))
        ]
      ]
    ]

    -- no piece
    cut_none : (at : ℕ) → at ≡ free → AreCut at []
    cut_none at is = record {
      laid = tt;
      shows = λ others e. sym e ∙ ap (λ (n : ℕ). drop n words) (sym is);
      ends = is;
      each = λ k p there. absurd (cc there);
      all = λ b there from. let some_there = blocks.some b there in let within = blocks.within b there in absurd (omega (arith, is, from, some_there, within));
    }

    -- one piece more in front
    cut_more : (at : ℕ) (p : Piece) (pieces : List Piece) → p.at ≡ at → 0 < length (words_of p.body) → at % page + length (words_of p.body) ≤ page
        → words_of p.body ++ drop (at + length (words_of p.body)) words ≡ drop at words → IsCut p
        → ((b : ℕ) → begins b ≡ true → at ≤ b → (p ≡ piece_at b) ⊎ (at + length (words_of p.body) ≤ b))
        → AreCut (at + length (words_of p.body)) pieces → AreCut at (p ∷ pieces)
    cut_more at p pieces place some_there paged holds is others rest = record {
      laid = (place, some_there, paged, rest.laid);
      shows = λ others e. ap (λ (ws : List ℕ). words_of p.body ++ ws) (rest.shows others e) ∙ holds;
      ends = rest.ends;
      each = each;
      all = λ b there from. elim (others b there from) [
        | inl it ↦ (0, ap some it)
        | inr behind ↦ let (k, here) = rest.all b there behind in (suc k, here)
      ];
    }
      where
        each : (k : ℕ) (q : Piece) → get_elem? (p ∷ pieces) k ≡ some q → IsCut q
        each zero q there = subst IsCut (cc there) is
        each (suc k) q there = rest.each k q there

    cut_block : (at : ℕ) → begins at ≡ true → (pieces : List Piece) → AreCut (at + extent_at at) pieces → AreCut at (piece_at at ∷ pieces)
    cut_block at here pieces rest =
        cut_more at (piece_at at) pieces refl (blocks.some at here) (blocks.paged at here)
        (ap (λ (ws : List ℕ). ws ++ drop (at + extent_at at) words) (blocks.shown at here)
        ∙ (ap (λ (ws : List ℕ). take (extent_at at) (drop at words) ++ ws) (sym (drop-drop (extent_at at) at words))
        ∙ take-append-drop (extent_at at) (drop at words)))
        (inl (here, refl))
        (λ b there from. elim (cases_order at b) [
          | inl same ↦ inl (ap piece_at same)
          | inr other ↦ elim other [
            | inl before ↦ inr (blocks.apart at b here there before)
            | inr behind ↦ absurd (omega (arith, from, behind))
          ]
        ])
        rest

    cut_word : (at : ℕ) → begins at ≡ false → at < free → (pieces : List Piece) → AreCut (at + 1) pieces → AreCut at (gap_at at ∷ pieces)
    cut_word at here below pieces rest =
        let long = blocks.long in
        let pages = blocks.pages in
        let next_is : suc at ≡ at + 1 = omega arith in
        cut_more at (gap_at at) pieces refl (omega arith) (omega (arith, pages))
        (sym (drop-cons words at 0 (omega (arith, below, long)) ∙ ap (λ (n : ℕ). word_at words at ∷ drop n words) next_is))
        (inr (here, refl))
        (λ b there from. elim (cases_order at b) [
          | inl same ↦ absurd (cc (sym here ∙ (ap begins same ∙ there)))
          | inr other ↦ elim other [
            | inl before ↦ inr (omega (arith, before))
            | inr behind ↦ absurd (omega (arith, from, behind))
          ]
        ])
        rest

    cut_from : (fuel at : ℕ) → free ≤ at + fuel → at ≤ free → IsBetween at → (pieces : List Piece) × AreCut at pieces
    cut_from zero at enough below between = ([], cut_none at (omega (arith, enough, below)))
    cut_from (suc fuel) at enough below between = elim (cases_order at free) [
      | inl end ↦ ([], cut_none at end)
      | inr other ↦ elim other [
        | inl before ↦ by_test (cut_from fuel) (begins at) refl before
        | inr past ↦ absurd (omega (arith, below, past))
      ]
    ]
      where
        by_test : ((at : ℕ) → free ≤ at + fuel → at ≤ free → IsBetween at → (pieces : List Piece) × AreCut at pieces)
            → (b : Bool) → begins at ≡ b → at < free → (pieces : List Piece) × AreCut at pieces
        by_test go_on true here before =
            let some_there = blocks.some at here in
            let (pieces, cut) = go_on (at + extent_at at) (omega (arith, enough, some_there)) (blocks.within at here) (behind_block at here between) in
            (piece_at at ∷ pieces, cut_block at here pieces cut)
        by_test go_on false here before =
            let (pieces, cut) = go_on (at + 1) (omega (arith, enough)) (omega (arith, before)) (behind_word at here between) in
            (gap_at at ∷ pieces, cut_word at here before pieces cut)

    -- from a word on at which no block is cut, the words up to the free pointer are a row of pieces
    pub cut : (at : ℕ) → at ≤ free → IsBetween at → (pieces : List Piece) × AreCut at pieces
    cut at below between = cut_from free at (omega arith) below between
