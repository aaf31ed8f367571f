-- The list that a reader finds in words that are laid out: the records, in their order, up to the end.
use Rattle.segment_invariant.proofs.Prelude.Std.{◌≡◌, true, ℕ, List, length, refl, ap, subst, ◌∙◌, eq-eqb, Some, None, slice_index, if◌then◌else◌, ◌==◌, Bool, Contains, none}
use Rattle.segment_invariant.proofs.Prelude.Machine.{first_fault, Dimensions, head_of, is_block, IsListed, Reading, reading_along, IsChain, Made, State}
use Rattle.segment_invariant.proofs.Prelude.Invariant.{Body, is_claimed, Listed, Anatomy, order_of, Stands, StandsAs, Invariant}
use Rattle.std.specs.Prelude as std
use Rattle.std.proofs.lemmas.List.Elements.{Contains-get_or}
use Rattle.bucket_ranges.specs.Reading.{before, next_of, next_checks, stop_of, IsReading}
use Rattle.bucket_ranges.proofs.Walks.{IsListed-from_end, listed_agree}
use Rattle.list_core.proofs.Chains.{chain_of}
use Rattle.segment_machine.specs.declared.actor.Made.TheVariants as made
use Rattle.segment_invariant.specs.Words.{AreLaid}
use Rattle.segment_invariant.proofs.Frames.LaidOut.{laid_out}
use Rattle.segment_invariant.proofs.Consistency.Blocks.{lawful_piece}
use Rattle.segment_invariant.proofs.Consistency.Records.{listed_there}

module _ (shape : Dimensions) (opened : Anatomy) (words : List ℕ) (kept : AreLaid shape opened words) where
  abbrev order : List ℕ
  order = order_of kept.anatomy

  -- a published block is a valid one
  published_lawful : (at : ℕ) (body : Body) → Stands kept.anatomy.pieces at none body → is_claimed body ≡ true
      → is_block words (head_of words) at ≡ true
  published_lawful at body (k, there) claimed = lawful_piece shape words kept.anatomy kept.shown kept.blocks k _ there claimed

  -- so is each record of the list
  pub listed_lawful : (at : ℕ) → Contains order at → is_block words (head_of words) at ≡ true
  listed_lawful at there =
      let (l, among, place, standing) = listed_there kept.anatomy at kept.list.standing there in
      subst (λ (at : ℕ). is_block words (head_of words) at ≡ true) place (by_made l l.made standing)
    where
      by_made : (l : Listed) (m : std.Option Made) → StandsAs kept.anatomy.pieces l m → is_block words (head_of words) l.reference ≡ true
      by_made l (Some (made.Histogram name spec)) (r, has, named, specified) = published_lawful l.reference _ has refl
      by_made l (Some (made.Sample of value)) (s, has, mine, valued) = published_lawful l.reference _ has refl
      by_made l None (size, tag, next, payload, has, third, long) = published_lawful l.reference _ has refl

  pub chain_laid : IsChain words (head_of words) order
  chain_laid = chain_of words order (head_of words) kept.list.linked
      (λ k below. listed_lawful (slice_index order k) (Contains-get_or order k 0 below))

  -- the last next is the end
  at_end : (next_of words (before order (length order)) == 12) ≡ true
  at_end = eq-eqb _ 12 chain_laid.ended

  -- a reader's list is that of the records
  pub list_laid : IsListed words (head_of words) order
  list_laid = IsListed-from_end words (head_of words) order chain_laid.walk at_end

  -- and it does not stop
  pub no_stop : stop_of words (head_of words) order ≡ None
  no_stop = ap (λ (b : Bool). if b then None else first_fault (next_checks words (head_of words) order (next_of words (before order (length order))))) at_end

  -- so a reading goes along the records
  pub read_along : (reading : Reading) → IsReading words (head_of words) reading
      → reading ≡ reading_along words (head_of words) order
  read_along reading (references, listed, is) =
      is ∙ ap (reading_along words (head_of words)) (listed_agree words (head_of words) references order listed list_laid)

-- ---- a kept state

module _ (shape : Dimensions) (opened : Anatomy) (state : State) (kept : Invariant shape opened state) where
  pub is_chain : IsChain state.words (head_of state.words) (order_of kept.anatomy)
  is_chain = chain_laid shape opened state.words (laid_out shape opened state kept)

  pub is_list : IsListed state.words (head_of state.words) (order_of kept.anatomy)
  is_list = list_laid shape opened state.words (laid_out shape opened state kept)
