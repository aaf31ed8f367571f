-- The header of a look: no patch of a record reaches it.
use Rattle.segment_invariant.proofs.Prelude.Std.{◌≡◌, ◌≢◌, ◌⊎◌, ℕ, ◌+◌, ◌<◌, ◌≤◌, List, [], ◌∷◌, ◌++◌, length, inl, inr, sym, subst, ◌∙◌, arith, slice_index, none}
use Rattle.segment_invariant.proofs.Prelude.Machine.{word_at}
use Rattle.std.proofs.Math.Decide.{dec_lt}
use Rattle.bucket_ranges.specs.Listed.{before}
use Rattle.segment_looks.specs.Patches.{Patch}
use Rattle.segment_looks.specs.Looks.{IsLook, counts_reference, link, list_start, records_patches, unclaimed}
use Rattle.segment_invariant.proofs.Blocks.Pieces.{piece_from}
use Rattle.look_promises.specs.Images.{LooksKeepHeaders}
use Rattle.look_promises.proofs.Copies.ThreeCopies.{ThreeCopies, three_copies, seen_in}
use Rattle.look_promises.proofs.Copies.Walks.{Gives}
use Rattle.look_promises.proofs.Copies.Following as following
use Rattle.look_promises.proofs.Copies.Headers.{of_state, free_within}
use Rattle.look_promises.proofs.Words.Patches.{HaveNone, IsApart, all_none, first_has, first_not, none_joined, none_more, none_of_none}
use Rattle.look_promises.proofs.Copies.Named.{counts_block}
use Rattle.look_promises.proofs.Words.Apart.{lies}
use Rattle.look_promises.proofs.Words.Images.{followed_is}

module _ (copies : ThreeCopies) (image : List ℕ) where
  open copies use {run, shape, at, last, one, two, three}
  open seen_in copies use {late, list, hd, records}

  -- a record lies apart from the header
  record_apart : (n j : ℕ) → n < 16 → Gives hd two list j → IsApart hd one two three n (slice_index list j)
  record_apart n j low g =
      let from = (following.lies run last j g.within).0 in (
        _,
        lies copies j g n
            (λ i inside same. omega (arith, from, same, low))
            (λ one_is names i four few same.
            let (block, (k, stands), long, owned) = counts_block copies j g one_is names in
            let place = piece_from shape (at last).words late.anatomy late.shown k (record { at = counts_reference two three (slice_index list j); owner = none; body = block }) stands in
            behind (counts_reference two three (slice_index list j)) place i n four low same),
      )
    where
      behind : (p : ℕ) → (p ≡ 12) ⊎ (16 ≤ p) → (i n : ℕ) → 4 ≤ i → n < 16 → p + i ≢ n
      behind p (inl is) i n four low same = omega (arith, is, four, low, same)
      behind p (inr is) i n four low same = omega (arith, is, four, low, same)

  abbrev rest : List Patch
  rest = records_patches hd one two three records ++ unclaimed hd (length three) ∷ []

  rest_none : (n : ℕ) → n < 16 → HaveNone rest n
  rest_none n low =
      let free = (free_within copies).0 in
      let is = of_state copies 7 (omega arith) in
      none_joined (records_patches hd one two three records) (unclaimed hd (length three) ∷ []) n
      (all_none hd one two three n records (λ j lt.
      let (same, g) = followed_is copies image j lt in
      subst (IsApart hd one two three n) (sym same) (record_apart n j low g)))
      (none_more (unclaimed hd (length three)) [] n (inl (omega (arith, low, free, is))) (none_of_none n))

  abbrev tail : Patch
  tail = record { from = 8; words = before records (length records) ∷ [] }

  module _ (look : IsLook hd one two three image) where
    pub header_word : (n : ℕ) → n < 16 → n ≢ 8 → n ≢ 15 → word_at image n ≡ word_at three n
    header_word n low no_tail no_start =
        look.each n
        ∙ (first_not (link 12 (list_start records)) (tail ∷ rest) n (word_at three n) (inl (omega (arith, low, no_start)))
        ∙ (first_not tail rest n (word_at three n) (aside n no_tail) ∙ rest_none n low (word_at three n)))
      where
        aside : (n : ℕ) → n ≢ 8 → (n < 8) ⊎ (8 + 1 ≤ n)
        aside n ne = elim (dec_lt n 8) [ yes low ↦ inl low | no high ↦ inr (omega (arith, high, ne)) ]

    pub tail_word : word_at image 8 ≡ before records (length records)
    tail_word =
        look.each 8
        ∙ (first_not (link 12 (list_start records)) (tail ∷ rest) 8 (word_at three 8) (inl (omega arith))
        ∙ first_has tail rest 8 (word_at three 8) (omega arith) (omega arith))

    pub start_word : word_at image 15 ≡ list_start records
    start_word = look.each 15 ∙ first_has (link 12 (list_start records)) (tail ∷ rest) 15 (word_at three 15) (omega arith) (omega arith)

pub looks_keep_headers : LooksKeepHeaders
looks_keep_headers shape opened at first last moments one two three image run loaded look =
    let copies = three_copies shape opened at first last moments one two three run loaded in (
      header_word copies image look,
      tail_word copies image look,
      start_word copies image look,
    )
