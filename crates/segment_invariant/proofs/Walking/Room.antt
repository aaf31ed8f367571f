-- A list has room in its segment: five words for each of its records, after the queue block.
use Rattle.segment_invariant.proofs.Prelude.Std.{◌≡◌, ◌≢◌, ℕ, suc, ◌+◌, ◌*◌, ◌<◌, ◌≤◌, List, map, length, All, Contains, ◌∙◌, subst, arith, slice_index, length-map, some, none, get_elem?, at_from, from_map, all_at, contains_map}
use Rattle.segment_invariant.proofs.Prelude.Machine.{Dimensions, IsShown, IsLinked, Claim}
use Rattle.segment_invariant.proofs.Prelude.Invariant.{Piece, Listed, Anatomy, layout_of, order_of, claims_of, StandsAs, ClaimedRight}
use Rattle.std.proofs.lemmas.Bool.Decides.{Decides-eqb}
use Rattle.std.proofs.lemmas.Cmp.{nat_eq_equiv}
use Rattle.std.proofs.lemmas.List.{get_or_default}
use Rattle.std.proofs.lemmas.Map.Made.{IsDistinct-from_AllPairs, is_member-Decides, length-le_from_is_member}
use Rattle.alloc_core.proofs.Layouts.{free_word}
use Rattle.segment_invariant.proofs.Blocks.Pieces.{claim_of, free_within}
use Rattle.segment_invariant.proofs.Consistency.Blocks.{claim_there, claims_few}
use Rattle.segment_invariant.proofs.Walking.Walks.{listed_stands}

-- numbers that are all apart, each of which another list has, are no more than that list has
more_than : (xs ys : List ℕ) → ((i j : ℕ) → i < j → j < length xs → slice_index xs i ≢ slice_index xs j)
    → ((x : ℕ) → Contains xs x → Contains ys x) → length xs ≤ length ys
more_than xs ys apart among = length-le_from_is_member nat_eq_equiv xs ys
    (IsDistinct-from_AllPairs Decides-eqb xs (λ i j d lt below same.
    apart i j lt below (get_or_default xs i 0 d (omega (arith, lt, below)) ∙ (same ∙ get_or_default xs j d 0 below))))
    (λ q has. (is_member-Decides Decides-eqb ys q).1 (among q ((is_member-Decides Decides-eqb xs q).0 has)))

module _ (shape : Dimensions) (words : List ℕ) (anatomy : Anatomy) (shown : IsShown shape words (layout_of anatomy))
    (blocks : (k : ℕ) (piece : Piece) → get_elem? anatomy.pieces k ≡ some piece → ClaimedRight piece)
    (standing : All (λ l. StandsAs anatomy.pieces l l.made) anatomy.records) (linked : IsLinked words (order_of anatomy)) where
  -- a record of the list was claimed
  record_claimed : (at : ℕ) → Contains (order_of anatomy) at → Contains (map (λ (c : Claim). c.at) (claims_of anatomy.pieces)) at
  record_claimed at has =
      let (i, here) = at_from (order_of anatomy) at has in
      let (l, there, is) = from_map (λ (l : Listed). l.reference) anatomy.records i at here in
      let (body, (k, stands), claimed, nexts) = listed_stands anatomy.pieces l l.made (all_at (λ l. StandsAs anatomy.pieces l l.made) anatomy.records i l standing there) in
      let p : Piece = record { at = l.reference; owner = none; body = body } in
      subst (Contains (map (λ (c : Claim). c.at) (claims_of anatomy.pieces))) is
      (contains_map (λ (c : Claim). c.at) (claims_of anatomy.pieces) (claim_of p) (claim_there anatomy.pieces k p stands claimed))

  pub list_fits : 5 * length (order_of anatomy) + 16 ≤ shape.size
  list_fits =
      let few = claims_few shape words anatomy shown blocks in
      let free = free_word shape words (layout_of anatomy) shown in
      let within = free_within shape words anatomy shown in
      let long = length-map (claims_of anatomy.pieces) (λ (c : Claim). c.at) in
      let many = more_than (order_of anatomy) (map (λ (c : Claim). c.at) (claims_of anatomy.pieces))
      (λ i j lt below. linked.distinct (suc i) (suc j) (omega (arith, lt)) (omega (arith, below))) record_claimed in
      omega (arith, few, free, within, long, many)
