-- The counts of a histogram are loaded: no word changes, and the actor comes to know where its counts are.
use Rattle.segment_invariant.proofs.Prelude.Std.{◌≡◌, ◌≢◌, ℕ, ◌+◌, Bool, [], ◌∷◌, ◌++◌, All, inl, inr, refl, sym, ap, ◌∙◌, subst, arith, append-nil, length-append, eq-eqb, ne_eqb, if◌then◌else◌, All-push, dite, some, ℕ_discrete, get_elem?}
use Rattle.segment_invariant.proofs.Prelude.Machine.{Dimensions, word_at, Actor, State, sight_counts, Buckets, Spent}
use Rattle.segment_invariant.proofs.Prelude.Invariant.{Record, counts, histogram, Anatomy, HasRecord, WasFixed, Invariant}
use Rattle.segment_machine.specs.Calls.{AreCountsOf}
use Rattle.segment_invariant.proofs.Blocks.Pieces.{piece_word}
use Rattle.segment_invariant.proofs.Walking.Walks.{block_within}
use Rattle.segment_invariant.proofs.Counting.Seen.{known_stands}

module _ (shape : Dimensions) (opened : Anatomy) (state : State) (kept : Invariant shape opened state) (id : ℕ) (a : Actor)
    (mine : get_elem? state.actors id ≡ some a) (lives : a.hand.place ≢ Spent) where
  -- the word that is found is the record's, and counts lie within the segment
  pub counts_found : (at : ℕ) (r : Record) → HasRecord kept.anatomy.pieces at r → word_at state.words (at + 8) ≡ r.counts
  counts_found at r (k, there) = piece_word shape state.words kept.anatomy kept.shown k _ 8 there (omega arith)

  pub counts_within : (histogram : ℕ) → AreCountsOf a histogram (word_at state.words (histogram + 8))
  counts_within at known (has, is, bucketed) some_counts =
      let (r, stands, named, bounds, many) = known_stands shape opened state kept id a mine lives known has in
      let found : word_at state.words (at + 8) ≡ r.counts =
      ap (λ (n : ℕ). word_at state.words (n + 8)) (sym is) ∙ counts_found known.reference r stands in
      let (c, mounted, of_it) = kept.records.mounted known.reference r stands (λ none_there. some_counts (found ∙ none_there)) in
      let (from, five, within) = block_within shape opened state kept r.counts (counts c) mounted refl in
      let long = length-append c.units c.marks in
      let all = length-append (c.units ++ c.marks) c.rest in
      let units = of_it.units in
      let marks = of_it.marks in
      let sized = ap (λ (s : Dimensions). s.size) (kept.each id a mine lives).shaped in
      omega (arith, found, within, long, all, units, marks, many, sized)

  -- what it comes to know stays
  pub counts_fixed : (histogram : ℕ) → (known : _) → Buckets a histogram known
      → All (WasFixed kept.anatomy.pieces) (a.seen.words ++ sight_counts histogram (word_at state.words (histogram + 8)))
  counts_fixed at known (has, is, bucketed) =
      let found : ℕ = word_at state.words (at + 8) in
      let fits = kept.each id a mine lives in
      let (r, stands, named, bounds, many) = known_stands shape opened state kept id a mine lives known has in
      let here : HasRecord kept.anatomy.pieces at r = subst (λ (n : ℕ). HasRecord kept.anatomy.pieces n r) is stands in
      let counted = counts_found at r here in
      let by : Bool → Type 0 = λ b. All (WasFixed kept.anatomy.pieces) (a.seen.words ++ (if b then [] else record { at = at + 8; word = found } ∷ [])) in
      dite (ℕ_discrete found 0)
      (λ none_there. subst by (sym (eq-eqb found 0 none_there)) (subst (All (WasFixed kept.anatomy.pieces)) (sym (append-nil a.seen.words)) fits.sees.fixed))
      (λ some_there. subst by (sym (ne_eqb found 0 some_there))
      (All-push (WasFixed kept.anatomy.pieces) a.seen.words (record { at = at + 8; word = found }) fits.sees.fixed
      (at, 8, histogram r, here, refl, inr (inr (inl (refl, λ none_there. some_there (counted ∙ none_there)))), sym counted)))
