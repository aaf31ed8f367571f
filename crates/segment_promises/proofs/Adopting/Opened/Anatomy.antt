-- The anatomy of an image that may be adopted, and that its words are shown by it.
use Rattle.segment_invariant.proofs.Prelude.Std.{◌≡◌, inl, inr, true, ℕ, ◌+◌, ◌-◌, ◌/◌, ◌^◌, ◌<◌, ◌≤◌, List, [], ◌∷◌, ◌++◌, map, length, take, drop, replicate, refl, sym, ap, ◌∙◌, subst, arith, Option, Some, None, nat_le, ◌&&◌, ◌%◌, ◌==◌, All, cases_order, and_parts, leb-true, take-append-drop, get_or-drop, length-replicate, some-injective, get_elem?, at_from}
use Rattle.segment_invariant.proofs.Prelude.Machine.{word_at, head_of, IsListed, Reading, reading_along, IsShown, Made}
use Rattle.segment_invariant.proofs.Prelude.Invariant.{Body, histogram, sample, words_of, Piece, Listed, Anatomy, layout_of, order_of}
use Rattle.std.proofs.Common.{div-add-mod', length-drop}
use Rattle.std.proofs.lemmas.List.{drop-drop, ext_get_or, get_or-replicate}
use Rattle.alloc_core.specs.Layout.{spread, end_of, head_words, render}
use Rattle.alloc_core.proofs.Flags.{word_of_flags}
use Rattle.segment_machine.specs.declared.actor.Made.TheVariants as made
use Rattle.segment_invariant.specs.Body.{block_of}
use Rattle.segment_invariant.proofs.Blocks.Pieces.{queue_piece}
use Rattle.segment_promises.specs.Adoption.{IsAdoptable, blocks_of}
use Rattle.segment_promises.proofs.Adopting.Slices.{fields_run, run_long}
use Rattle.segment_promises.proofs.Adopting.Bodies.{size_at}
use Rattle.segment_promises.proofs.Adopting.Cuts.{AreBlocks, AreCut, cut}
use Rattle.segment_promises.proofs.Adopting.Images.{block_page, free_bounds, shape_lawful, cookie_word, state_word, queue_words, size_word}
use Rattle.segment_promises.proofs.Adopting.Opened.Blocks.{begins, record_body, body_at, there_by_test, holds_block}

-- what was given to the maker of a record, by what the record is
abbrev pub made_by : Body → Option Made
made_by (histogram r) = Some (made.Histogram r.name r.spec)
made_by (sample s) = Some (made.Sample s.of s.value)
made_by _ = None

abbrev pub listed_at : List ℕ → List ℕ → ℕ → Listed
listed_at words references at = record { reference = at; made = made_by (record_body words references at) }

module _ (words references : List ℕ) (reading : Reading) (narrow : All (λ word. word < 2 ^ 64) words) (listed : IsListed words (head_of words) references)
    (reads : reading ≡ reading_along words (head_of words) references) (adoptable : IsAdoptable words references reading) where
  abbrev pub body : ℕ → Body
  body = body_at words references

  abbrev pub page : ℕ
  page = (head_of words).shape.page

  abbrev pub free : ℕ
  free = (head_of words).free

  -- the facts of one block
  pub record IsPlaced (at : ℕ) : Type 0 where
    pub from : 16 ≤ at
    pub least : 5 ≤ size_at words at
    pub long : length (words_of (body at)) ≡ size_at words at
    pub within : at + size_at words at ≤ free
    pub paged : at % page + size_at words at ≤ page
    pub holds : words_of (body at) ≡ take (size_at words at) (drop at words)

  pub placed : (at : ℕ) → begins words references at ≡ true → IsPlaced at
  placed at there =
      let block = holds_block words references reading narrow listed reads adoptable at there in
      let (from, least, within, paged, cookie) = block_page words references reading listed reads adoptable at block.lawful in
      let bound = (free_bounds words references reading listed reads adoptable).1 in
      record {
        from = from;
        least = least;
        long = ap length block.holds ∙ run_long words at (size_at words at) (omega (arith, within, bound));
        within = within;
        paged = paged;
        holds = block.holds;
      }

  -- two blocks do not overlap
  pub blocks_apart : (a b : ℕ) → begins words references a ≡ true → begins words references b ≡ true → a < b → a + size_at words a ≤ b
  blocks_apart a b there here before =
      let (i, at_a) = at_from (blocks_of words references) a (there_by_test (blocks_of words references) a there) in
      let (j, at_b) = at_from (blocks_of words references) b (there_by_test (blocks_of words references) b here) in
      let some_b = (placed b here).least in
      elim (cases_order i j) [
        | inl same ↦ let equal = some-injective a b (sym at_a ∙ (ap (get_elem? (blocks_of words references)) same ∙ at_b)) in absurd (omega (arith, equal, before))
        | inr order ↦ elim order [
          | inl first ↦ elim (adoptable.undamaged.apart i j a b first at_a at_b) [ inl apart ↦ apart | inr apart ↦ omega (arith, apart, before, some_b) ]
          | inr first ↦ elim (adoptable.undamaged.apart j i b a first at_b at_a) [ inl apart ↦ omega (arith, apart, before, some_b) | inr apart ↦ apart ]
        ]
      ]

  pub are_blocks : AreBlocks words page free (begins words references) body
  are_blocks = record {
    long = (free_bounds words references reading listed reads adoptable).1;
    pages = let wide = (shape_lawful words references reading listed reads adoptable).wide in omega (arith, wide);
    some = λ at there. let p = placed at there in omega (arith, p.long, p.least);
    within = λ at there. let p = placed at there in omega (arith, p.long, p.within);
    paged = λ at there. let p = placed at there in omega (arith, p.long, p.paged);
    shown = λ at there. let p = placed at there in p.holds ∙ ap (λ (n : ℕ). take n (drop at words)) (sym p.long);
    apart = λ a b there here before. let p = placed a there in let e = blocks_apart a b there here before in omega (arith, p.long, e);
  }

  -- its blocks after the queue block, and all else word by word
  pub pieces : List Piece
  pieces = (cut words page free (begins words references) body are_blocks 16 (free_bounds words references reading listed reads adoptable).0
      (λ b there. inr (placed b there).from)).0

  pub are_cut : AreCut words page free (begins words references) body 16 pieces
  unfolding pieces
  are_cut = (cut words page free (begins words references) body are_blocks 16 (free_bounds words references reading listed reads adoptable).0
      (λ b there. inr (placed b there).from)).1

  -- the anatomy
  abbrev pub opened : Anatomy
  opened = record {
    version = 2;
    id = word_at words 4;
    corrupt = word_at words 6 % 2 == 1;
    full = word_at words 6 / 2 % 2 == 1;
    other_flags = word_at words 6 / 4;
    tail = word_at words 8;
    reserved = (word_at words 9, word_at words 10, word_at words 11);
    pieces = queue_piece (word_at words 15) ∷ pieces;
    spare = length words - free;
    records = map (listed_at words references) references;
  }

  pub order_is : order_of opened ≡ references
  order_is = same references
    where
      same : (l : List ℕ) → map (λ (l : Listed). l.reference) (map (listed_at words references) l) ≡ l
      same [] = refl
      same (at ∷ rest) = ap (λ (l : List ℕ). at ∷ l) (same rest)

  -- from the free pointer on all is 0
  zeros_behind : drop free words ≡ replicate (length words - free) 0
  zeros_behind =
      ext_get_or 0 (drop free words) (replicate (length words - free) 0) (length-drop free words ∙ sym (length-replicate (length words - free) 0))
      (λ i below.
      let long = length-drop free words in
      get_or-drop free words i 0
      ∙ (adoptable.undamaged.zeros (free + i) (omega arith) (omega (arith, below, long))
      ∙ sym (get_or-replicate (length words - free) i 0 0 (omega (arith, below, long)))))

  -- the words before the queue block
  head_is : take 12 words ≡ head_words (head_of words).shape (layout_of opened)
  head_is =
      let many = (free_bounds words references reading listed reads adoptable) in
      let first = many.0 in
      let last = many.1 in
      fields_run words 0 0 12 (omega (arith, first, last))
      ∙ (λ i. cookie_word words references reading listed reads adoptable i ∷ adoptable.version i ∷ word_at words 2 ∷ word_at words 3 ∷ word_at words 4
      ∷ state_word words references reading listed reads adoptable i ∷ sym (word_of_flags (word_at words 6)) i ∷ sym are_cut.ends i ∷ word_at words 8
      ∷ word_at words 9 ∷ word_at words 10 ∷ word_at words 11 ∷ [])

  -- and those from there on
  blocks_are : drop 12 words ≡ spread (replicate (length words - free) 0) (map block_of opened.pieces)
  blocks_are =
      let many = (free_bounds words references reading listed reads adoptable) in
      let first = many.0 in
      let last = many.1 in
      let (size, cookie, tag) = queue_words words references reading listed reads adoptable in
      sym (take-append-drop 4 (drop 12 words))
      ∙ (ap (λ (ws : List ℕ). ws ++ drop 4 (drop 12 words)) (fields_run words 0 12 4 (omega (arith, first, last)))
      ∙ (λ i. (size i ∷ cookie i ∷ tag i ∷ word_at words 15 ∷ [])
      ++ (drop-drop 4 12 words ∙ sym (are_cut.shows (replicate (length words - free) 0) zeros_behind)) i))

  shows : words ≡ render (head_of words).shape (layout_of opened)
  shows = sym (take-append-drop 12 words) ∙ (λ i. head_is i ++ blocks_are i)

  pub shown : IsShown (head_of words).shape words (layout_of opened)
  shown = record {
    shows = shows;
    sound = record {
      lawful = shape_lawful words references reading listed reads adoptable;
      queue = (word_at words 15, refl);
      laid = (refl, omega arith, queue_paged, are_cut.laid);
      ends = let ends = are_cut.ends in let bound = (free_bounds words references reading listed reads adoptable).1 in let size = size_word words references reading listed reads adoptable in
          omega (arith, ends, bound, size);
      leaves = leaves;
    };
  }
    where
      queue_paged : 12 % page + 4 ≤ page
      queue_paged = let wide = (shape_lawful words references reading listed reads adoptable).wide in let e = div-add-mod' 12 page in omega (arith, wide, e)

      leaves : end_of 16 (map block_of pieces) % page + 5 ≤ page
      leaves =
          let parts = and_parts (nat_le 16 free && nat_le free (head_of words).shape.size) (nat_le 5 (page - free % page)) adoptable.undamaged.room in
          let room : 5 ≤ page - free % page = leb-true 5 (page - free % page) parts.1 in
          subst (λ (n : ℕ). n % page + 5 ≤ page) (sym are_cut.ends) (omega (arith, room))
