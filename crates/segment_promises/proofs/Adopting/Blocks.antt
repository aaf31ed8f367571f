-- Of words that are laid out: the records on their list, and the counts blocks that these name, are apart.
use Rattle.segment_invariant.proofs.Prelude.Std.{◌≡◌, ◌≢◌, ℕ, suc, ◌<◌, Bool, true, false, List, [], ◌∷◌, flat_map, Contains, inl, inr, ⊎_elim, refl, sym, ap, ◌∙◌, subst, arith, not, ◌&&◌, ◌==◌, if◌then◌else◌, eqb-true, cases_order, Contains-append_cases, some, none, some-injective, get_elem?, none_in, one_in, contains_at, below_length, index_at}
use Rattle.segment_invariant.proofs.Prelude.Machine.{Dimensions, field_at, is_of_type}
use Rattle.segment_invariant.proofs.Prelude.Invariant.{is_claimed, Piece, extent_of, Anatomy, order_of}
use Rattle.std.specs.Cmp.{first_so, second_so}
use Rattle.alloc_core.specs.Laws.{Apart}
use Rattle.list_core.proofs.Chains.{one_place}
use Rattle.segment_invariant.specs.Words.{AreLaid}
use Rattle.segment_invariant.proofs.Blocks.Pieces.{pieces_apart}
use Rattle.segment_invariant.proofs.Consistency.Blocks.{claimed_piece}
use Rattle.segment_invariant.proofs.Consistency.Records.{listed_there}
use Rattle.segment_invariant.proofs.Walking.Walks.{listed_stands}
use Rattle.segment_promises.specs.Adoption.{named_counts, blocks_of, run_at}
use Rattle.segment_promises.proofs.Adopting.Distinct.{IsOnce, once_none, once_more, once_both, once_rows, among_rows}
use Rattle.segment_promises.proofs.Adopting.Owned.{own_counts, counts_named}

-- what a record names is its counts reference, if it is one of a histogram and names some
pub named_is : (words : List ℕ) (at place : ℕ) → Contains (named_counts words at) place
    → (field_at words at 2 ≡ 1) × (field_at words at 8 ≢ 0) × (place ≡ field_at words at 8)
named_is words at place = by_test (is_of_type words 1 at && not (field_at words at 8 == 0)) refl
  where
    by_test : (b : Bool) → (is_of_type words 1 at && not (field_at words at 8 == 0)) ≡ b
        → Contains (if b then field_at words at 8 ∷ [] else []) place
        → (field_at words at 2 ≡ 1) × (field_at words at 8 ≢ 0) × (place ≡ field_at words at 8)
    by_test true is there = (
      eqb-true (field_at words at 2) 1 (first_so (is_of_type words 1 at) _ is),
      some_there (second_so (is_of_type words 1 at) _ is),
      sym (one_in (field_at words at 8) place there),
    )
      where
        some_there : not (field_at words at 8 == 0) ≡ true → field_at words at 8 ≢ 0
        some_there is zero_there = cc (sym is ∙ ap (λ (n : ℕ). not (n == 0)) zero_there)
    by_test false is there = absurd (none_in place there)

named_once : (words : List ℕ) (at : ℕ) → IsOnce (named_counts words at)
named_once words at = by_test (is_of_type words 1 at && not (field_at words at 8 == 0))
  where
    by_test : (b : Bool) → IsOnce (if b then field_at words at 8 ∷ [] else [])
    by_test true = once_more (field_at words at 8) [] (none_in (field_at words at 8)) once_none
    by_test false = once_none

module _ (shape : Dimensions) (opened : Anatomy) (words : List ℕ) (kept : AreLaid shape opened words) where
  abbrev order : List ℕ
  order = order_of kept.anatomy

  -- a claimed block begins at a word
  abbrev IsClaimedAt : ℕ → Type 0
  IsClaimedAt at = (k : ℕ) × (p : Piece) × (get_elem? kept.anatomy.pieces k ≡ some p) × (is_claimed p.body ≡ true) × (p.at ≡ at)

  record_claimed : (at : ℕ) → Contains order at → IsClaimedAt at
  record_claimed at there =
      let (l, among, place, standing) = listed_there kept.anatomy at kept.list.standing there in
      let (body, (k, here), claimed, nexts) = listed_stands kept.anatomy.pieces l l.made standing in
      (k, record { at = l.reference; owner = none; body = body }, here, claimed, place)

  -- so are counts that a record names, which are no record
  counts_claimed : (at place : ℕ) → Contains order at → Contains (named_counts words at) place → IsClaimedAt place × (¬ (Contains order place))
  counts_claimed at place there names =
      let (one, some_there, is) = named_is words at place names in
      let ((body, (k, here), claimed), unlisted) = counts_named shape opened words kept at there one some_there in (
        (k, record { at = field_at words at 8; owner = none; body = body }, here, claimed, sym is),
        subst (λ (at : ℕ). ¬ (Contains order at)) (sym is) unlisted,
      )

  order_once : IsOnce order
  order_once i j at here there =
      let e = one_place words order (suc i) (suc j) kept.list.linked (below_length order i at here) (below_length order j at there)
      (index_at order i at 0 here ∙ sym (index_at order j at 0 there)) in
      omega (arith, e)

  blocks_once : IsOnce (blocks_of words order)
  blocks_once =
      once_both order (flat_map (named_counts words) order) order_once
      (once_rows (named_counts words) order (named_once words)
      (λ i j a b place here there mine also.
      let (one, some_there, is) = named_is words a place mine in
      let (other, as_well, same) = named_is words b place also in
      let equal = own_counts shape opened words kept a b (contains_at order i a here) (contains_at order j b there) one other some_there (sym is ∙ same) in
      order_once i j a here (there ∙ ap some (sym equal))))
      (λ place listed named.
      let (i, at, here, names) = among_rows (named_counts words) order place named in
      (counts_claimed at place (contains_at order i at here) names).1 listed)

  all_claimed : (at : ℕ) → Contains (blocks_of words order) at → IsClaimedAt at
  all_claimed at there = ⊎_elim
      (record_claimed at)
      (λ named.
      let (i, a, here, names) = among_rows (named_counts words) order at named in
      (counts_claimed a at (contains_at order i a here) names).0)
      (Contains-append_cases order (flat_map (named_counts words) order) at there)

  -- two claimed blocks at two words are apart
  claimed_apart : (a b : ℕ) → a ≢ b → IsClaimedAt a → IsClaimedAt b → Apart (run_at words a) (run_at words b)
  claimed_apart a b ne (k, p, here, claimed, at_a) (j, q, there, also, at_b) = elim (cases_order k j) [
    | inl same ↦
        absurd (ne (sym at_a ∙ (ap (λ (p : Piece). p.at) (some-injective p q (sym here ∙ (ap (get_elem? kept.anatomy.pieces) same ∙ there))) ∙ at_b)))
    | inr apart ↦ elim apart [
      | inl before ↦ let e = pieces_apart shape words kept.anatomy kept.shown k j p q here there before in inl (omega (arith, e, long_a, at_a, at_b))
      | inr behind ↦ let e = pieces_apart shape words kept.anatomy kept.shown j k q p there here behind in inr (omega (arith, e, long_b, at_a, at_b))
    ]
  ]
    where
      long : (k : ℕ) (p : Piece) → get_elem? kept.anatomy.pieces k ≡ some p → is_claimed p.body ≡ true → field_at words p.at 0 ≡ extent_of p
      long k p here claimed = (claimed_piece shape words kept.anatomy kept.shown kept.blocks k p here claimed).size_word

      long_a : field_at words a 0 ≡ extent_of p
      long_a = ap (λ (at : ℕ). field_at words at 0) (sym at_a) ∙ long k p here claimed

      long_b : field_at words b 0 ≡ extent_of q
      long_b = ap (λ (at : ℕ). field_at words at 0) (sym at_b) ∙ long j q there also

  pub blocks_apart : (i j a b : ℕ) → i < j → get_elem? (blocks_of words order) i ≡ some a → get_elem? (blocks_of words order) j ≡ some b
      → Apart (run_at words a) (run_at words b)
  blocks_apart i j a b before here there =
      claimed_apart a b
      (λ same. let e = blocks_once i j a here (there ∙ ap some (sym same)) in omega (arith, e, before))
      (all_claimed a (contains_at (blocks_of words order) i a here)) (all_claimed b (contains_at (blocks_of words order) j b there))
