-- The list of a kept state is a chain of claimed blocks.
use Rattle.segment_invariant.proofs.Prelude.Std.{◌≡◌, true, ℕ, ◌<◌, List, length, IsPermutation, refl, ap, subst, Some, None, slice_index, All, Contains, Contains-permutation, some, get_elem?, at_map, at_from, contains_at}
use Rattle.segment_invariant.proofs.Prelude.Machine.{Dimensions, word_at, head_of, is_block, IsChain, Claim, Made, State}
use Rattle.segment_invariant.proofs.Prelude.Invariant.{is_claimed, Piece, Listed, Anatomy, layout_of, order_of, free_of, claims_of, StandsAs, Invariant}
use Rattle.std.specs.Prelude as std
use Rattle.std.proofs.lemmas.List.Elements.{Contains-get_or}
use Rattle.std.proofs.lemmas.List.Sorted.{All-permutation}
use Rattle.alloc_core.proofs.Layouts.{free_word}
use Rattle.list_core.proofs.Chains.{chain_of}
use Rattle.segment_machine.specs.declared.actor.Made.TheVariants as made
use Rattle.segment_invariant.specs.Consistent.{all_claims, places_of}
use Rattle.segment_invariant.proofs.Blocks.Pieces.{claim_of}
use Rattle.segment_invariant.proofs.Consistency.Records.{listed_there}
use Rattle.segment_invariant.proofs.Consistency.Blocks.{all_claims_of, claim_there, lawful_piece}

module _ (shape : Dimensions) (opened : Anatomy) (state : State) (kept : Invariant shape opened state) where
  abbrev anatomy : Anatomy
  anatomy = kept.anatomy

  abbrev words : List ℕ
  words = state.words

  abbrev chain : List ℕ
  chain = order_of anatomy

  -- its words say its shape, its tail and its free pointer
  pub shape_is : (head_of words).shape ≡ shape
  shape_is =
      let size_word = ap (λ (ws : List ℕ). word_at ws 2) kept.shown.shows in
      let page_word = ap (λ (ws : List ℕ). word_at ws 3) kept.shown.shows in
      λ k. record { size = size_word k; page = page_word k }

  pub tail_is : word_at words 8 ≡ anatomy.tail
  tail_is = ap (λ (ws : List ℕ). word_at ws 8) kept.shown.shows

  pub free_is : word_at words 7 ≡ free_of anatomy
  free_is = free_word shape words (layout_of anatomy) kept.shown

  -- a record of the list is a claimed block
  record_block : (at : ℕ) → Contains chain at
      → (k : ℕ) × (p : Piece) × (get_elem? anatomy.pieces k ≡ some p) × (is_claimed p.body ≡ true) × (p.at ≡ at)
  record_block at there =
      let (l, among, place, standing) = listed_there anatomy at kept.list.standing there in
      stands l l.made at standing place
    where
      stands : (l : Listed) (made : std.Option Made) (at : ℕ) → StandsAs anatomy.pieces l made → l.reference ≡ at
          → (k : ℕ) × (p : Piece) × (get_elem? anatomy.pieces k ≡ some p) × (is_claimed p.body ≡ true) × (p.at ≡ at)
      stands l (Some (made.Histogram name spec)) at (r, (k, there), named, specified) is = (k, _, there, refl, is)
      stands l (Some (made.Sample of value)) at (s, (k, there), mine, valued) is = (k, _, there, refl, is)
      stands l None at (long, tag, next, payload, (k, there), neither, behind) is = (k, _, there, refl, is)

  lawful_record : (k : ℕ) → k < length chain → is_block words (head_of words) (slice_index chain k) ≡ true
  lawful_record k below =
      let block = record_block (slice_index chain k) (Contains-get_or chain k 0 below) in
      subst (λ (at : ℕ). is_block words (head_of words) at ≡ true) block.4
      (lawful_piece shape words anatomy kept.shown kept.blocks block.0 block.1 block.2 block.3)

  -- so the list is a chain
  pub chained : IsChain words (head_of words) chain
  chained = chain_of words chain (head_of words) kept.list.linked lawful_record

  -- the claims are those of the opening and of actors
  pub claims_are : IsPermutation (claims_of anatomy.pieces) (all_claims (claims_of opened.pieces) state.actors)
  claims_are = kept.claims

  pub all_of_claims : (P : Claim → Type 0) → ((k : ℕ) (p : Piece) → get_elem? anatomy.pieces k ≡ some p → is_claimed p.body ≡ true → P (claim_of p))
      → All P (all_claims (claims_of opened.pieces) state.actors)
  all_of_claims P each = All-permutation P (claims_of anatomy.pieces) (all_claims (claims_of opened.pieces) state.actors) claims_are (all_claims_of P anatomy.pieces each)

  -- a claimed block was claimed
  pub claimed_at : (k : ℕ) (p : Piece) → get_elem? anatomy.pieces k ≡ some p → is_claimed p.body ≡ true → Contains (places_of (all_claims (claims_of opened.pieces) state.actors)) p.at
  claimed_at k p there claimed =
      let claim = at_from (all_claims (claims_of opened.pieces) state.actors) (claim_of p)
      (Contains-permutation _ _ _ claims_are (claim_there anatomy.pieces k p there claimed)) in
      contains_at (places_of (all_claims (claims_of opened.pieces) state.actors)) claim.0 p.at
      (at_map (λ (claim : Claim). claim.at) (all_claims (claims_of opened.pieces) state.actors) claim.0 (claim_of p) claim.1)

  pub claimed : (at : ℕ) → Contains chain at → Contains (places_of (all_claims (claims_of opened.pieces) state.actors)) at
  claimed at there =
      let block = record_block at there in
      subst (Contains (places_of (all_claims (claims_of opened.pieces) state.actors))) block.4 (claimed_at block.0 block.1 block.2 block.3)
