-- The blocks of the list: the queue block and the records are there as blocks without owner, so a store elsewhere leaves the list.
use Rattle.segment_invariant.proofs.Prelude.Std.{◌≡◌, ℕ, zero, suc, ◌+◌, ◌<◌, ◌≤◌, List, set, All, inl, inr, refl, sym, ap, ◌∙◌, subst, arith, slice_index, length-map, some, none, some-injective, some-ne-none, get_elem?, at_map, index_at, all_at}
use Rattle.segment_invariant.proofs.Prelude.Machine.{Dimensions, IsShown, stops, IsStop, IsLinked, Made}
use Rattle.segment_invariant.proofs.Prelude.Invariant.{Piece, extent_of, Listed, Anatomy, layout_of, order_of, StandsAs}
use Rattle.std.specs.Prelude as std
use Rattle.list_core.proofs.Chains.{linked_beside}
use Rattle.segment_machine.specs.declared.actor.Made.TheVariants as made
use Rattle.list_lemmas.proofs.Elements.{there_below}
use Rattle.segment_invariant.proofs.Blocks.Pieces.{first_piece, some_first, piece_from, one_index}

-- a block without owner, of four words or more, begins at a word
pub record IsOpen (pieces : List Piece) (at : ℕ) : Type 0 where
  pub index : ℕ
  pub piece : Piece
  pub there : get_elem? pieces index ≡ some piece
  pub begins : piece.at ≡ at
  pub free : piece.owner ≡ none
  pub long : 4 ≤ extent_of piece

-- a listed record is one
listed_open : (pieces : List Piece) (l : Listed) (given : std.Option Made) → StandsAs pieces l given → IsOpen pieces l.reference
listed_open pieces l (std.Some (made.Histogram name spec)) s =
    record { index = s.1.0; piece = _; there = s.1.1; begins = refl; free = refl; long = omega arith }
listed_open pieces l (std.Some (made.Sample of value)) s =
    record { index = s.1.0; piece = _; there = s.1.1; begins = refl; free = refl; long = omega arith }
listed_open pieces l std.None s = record { index = s.4.0; piece = _; there = s.4.1; begins = refl; free = refl; long = omega arith }

module _ (shape : Dimensions) (words : List ℕ) (anatomy : Anatomy) (shown : IsShown shape words (layout_of anatomy))
    (standing : All (λ l. StandsAs anatomy.pieces l l.made) anatomy.records) where
  -- the queue block and each record
  pub stop_open : (at : ℕ) → IsStop (order_of anatomy) at → IsOpen anatomy.pieces at
  stop_open at (zero, le, is) =
      let q = some_first shape words anatomy shown in
      let first = first_piece shape words anatomy shown q.0 q.1 in
      record { index = 0; piece = q.0; there = q.1; begins = first.0 ∙ is; free = first.1; long = omega (arith, first.2) }
  stop_open at (suc k, le, is) =
      let (l, there) = there_below anatomy.records k
      (omega (arith, le, length-map anatomy.records (λ (l : Listed). l.reference))) in
      let named : l.reference ≡ at =
      sym (index_at (order_of anatomy) k l.reference 0 (at_map (λ (l : Listed). l.reference) anatomy.records k l there)) ∙ is in
      subst (IsOpen anatomy.pieces) named
      (listed_open anatomy.pieces l l.made (all_at (λ l. StandsAs anatomy.pieces l l.made) anatomy.records k l standing there))

  -- a store into a block that is somebody's own leaves the nexts
  pub linked_beside_own : (k id j v : ℕ) (p : Piece) → get_elem? anatomy.pieces k ≡ some p → p.owner ≡ some id → j < extent_of p
      → IsLinked words (order_of anatomy) → IsLinked (set words (p.at + j) v) (order_of anatomy)
  linked_beside_own k id j v p there owned lt linked = linked_beside words (order_of anatomy) (p.at + j) v linked (λ i le same.
      let stop = stop_open (slice_index (stops (order_of anatomy)) i) (i, le, refl) in
      let long = stop.long in
      let begins = stop.begins in
      let index = one_index shape words anatomy shown stop.index k stop.piece p 3 j stop.there there (omega (arith, long)) lt
      (omega (arith, begins, same)) in
      some-ne-none id (sym owned ∙ (ap (λ (x : Piece). x.owner)
      (some-injective p stop.piece (sym there ∙ (ap (get_elem? anatomy.pieces) (sym index) ∙ stop.there))) ∙ stop.free)))

  -- so does a store into the words before the queue block
  pub linked_beside_head : (at v : ℕ) → at < 12 → IsLinked words (order_of anatomy) → IsLinked (set words at v) (order_of anatomy)
  linked_beside_head at v low linked = linked_beside words (order_of anatomy) at v linked (λ i le same.
      let stop = stop_open (slice_index (stops (order_of anatomy)) i) (i, le, refl) in
      let begins = stop.begins in
      elim (piece_from shape words anatomy shown stop.index stop.piece stop.there) [
        | inl queue ↦ omega (arith, queue, begins, same, low)
        | inr behind ↦ omega (arith, behind, begins, same, low)
      ])
