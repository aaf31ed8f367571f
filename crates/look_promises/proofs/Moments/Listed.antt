-- The records on the list at a moment: where each is, and what it was at an earlier one.
use Rattle.segment_invariant.proofs.Prelude.Std.{◌≡◌, ℕ, ◌+◌, ◌<◌, ◌≤◌, List, length, sym, ap, ◌∙◌, subst, arith, slice_index, length-append, length-map, get_or_append_left, Some, None, none, Contains, at_map, at_from, below_length, contains_map, index_at, all_at}
use Rattle.segment_invariant.proofs.Prelude.Machine.{Dimensions, State, word_at, Made}
use Rattle.segment_invariant.proofs.Prelude.Invariant.{Body, Record, Sample, words_of, Listed, Anatomy, order_of, Piece, Stands, StandsAs, HasRecord, HasSample, Invariant, histogram, sample, other}
use Rattle.std.specs.Prelude as std
use Rattle.segment_machine.specs.declared.actor.Made.TheVariants as made
use Rattle.list_lemmas.proofs.Elements.{there_below}
use Rattle.segment_invariant.specs.Rises.{GoesAs}
use Rattle.segment_invariant.proofs.Blocks.Pieces.{piece_word, piece_ends, free_within, one_stands}
use Rattle.segment_promises.specs.Lists.{links_of}
use Rattle.look_promises.proofs.Moments.Runs.{Run, kept_at, rises_at, chain_at, chain_on, reached}
use Rattle.look_promises.proofs.Moments.Unchanged.{IsOfList, IsUnchanging, list_claimed, list_long, goes_unchanged, unchanging_from}

-- a listed record is a block of the list
list_stands : (pieces : List Piece) (l : Listed) (given : std.Option Made) → StandsAs pieces l given
    → (body : Body) × Stands pieces l.reference none body × IsOfList body
list_stands pieces l (Some (made.Histogram name spec)) s = (histogram s.0, s.1, tt)
list_stands pieces l (Some (made.Sample of value)) s = (sample s.0, s.1, tt)
list_stands pieces l None s = (other s.0 s.1 s.2 s.3, s.4, tt)

-- so does each record of the list of a kept state
pub listed_in : (shape : Dimensions) (opened : Anatomy) (state : State) (kept : Invariant shape opened state) (k : ℕ) → k < length (order_of kept.anatomy)
    → (body : Body) × Stands kept.anatomy.pieces (slice_index (order_of kept.anatomy) k) none body × IsOfList body
listed_in shape opened state kept k below =
    let (l, there) = there_below kept.anatomy.records k (omega (arith, below, length-map kept.anatomy.records (λ (l : Listed). l.reference))) in
    let named : l.reference ≡ slice_index (order_of kept.anatomy) k =
    sym (index_at (order_of kept.anatomy) k l.reference 0 (at_map (λ (l : Listed). l.reference) kept.anatomy.records k l there)) in
    let (body, stands, list) = list_stands kept.anatomy.pieces l l.made (all_at (λ l. StandsAs kept.anatomy.pieces l l.made) kept.anatomy.records k l kept.list.standing there) in
    (body, subst (λ (at : ℕ). Stands kept.anatomy.pieces at none body) named stands, list)

module _ (run : Run) where
  open run use {shape, opened, at}

  pub listed_at : (n k : ℕ) → k < length (chain_at run n)
      → (body : Body) × Stands (kept_at run n).anatomy.pieces (slice_index (chain_at run n) k) none body × IsOfList body
  listed_at n k below = listed_in shape opened (at n) (kept_at run n) k below

  -- a record keeps its place on the list
  pub same_place : (m n k : ℕ) → m ≤ n → k < length (chain_at run m)
      → (k < length (chain_at run n)) × (slice_index (chain_at run n) k ≡ slice_index (chain_at run m) k)
  same_place m n k le below =
      let more = links_of opened.version (at m) (at n) (reached run m n le) in
      let is = chain_on run m n le in
      let all = ap length is in
      let long = length-append (chain_at run m) more in (
        omega (arith, below, all, long),
        ap (λ (list : List ℕ). slice_index list k) is ∙ get_or_append_left (chain_at run m) more 0 k below,
      )

  -- its block ends below the free pointer, and in the words
  pub ends_at : (n r : ℕ) (body : Body) → Stands (kept_at run n).anatomy.pieces r none body → r + length (words_of body) ≤ shape.size
  ends_at n r body (k, there) =
      let kept = kept_at run n in
      let ends = piece_ends shape (at n).words kept.anatomy kept.shown k (record { at = r; owner = none; body = body }) there in
      let free = free_within shape (at n).words kept.anatomy kept.shown in
      omega (arith, ends, free)

  -- a word of a block that is there at a moment
  pub block_word : (n r i : ℕ) (body : Body) → Stands (kept_at run n).anatomy.pieces r none body → i < length (words_of body)
      → word_at (at n).words (r + i) ≡ slice_index (words_of body) i
  block_word n r i body (k, there) below =
      piece_word shape (at n).words (kept_at run n).anatomy (kept_at run n).shown k (record { at = r; owner = none; body = body }) i there below

  -- a histogram's record, or a sample, is on the list
  place_among : (n : ℕ) (l : Listed) → Contains (kept_at run n).anatomy.records l → (k : ℕ) × (k < length (chain_at run n)) × (slice_index (chain_at run n) k ≡ l.reference)
  place_among n l among =
      let there : Contains (chain_at run n) l.reference = contains_map (λ (l : Listed). l.reference) (kept_at run n).anatomy.records l among in
      let (k, here) = at_from (chain_at run n) l.reference there in
      (k, below_length (chain_at run n) k l.reference here, index_at (chain_at run n) k l.reference 0 here)

  pub place_of : (n reference : ℕ) (r : Record) → HasRecord (kept_at run n).anatomy.pieces reference r
      → (k : ℕ) × (k < length (chain_at run n)) × (slice_index (chain_at run n) k ≡ reference)
  place_of n reference r has = place_among n _ ((kept_at run n).list.alone reference (histogram r) has)

  pub sample_place : (n reference : ℕ) (s : Sample) → HasSample (kept_at run n).anatomy.pieces reference s
      → (k : ℕ) × (k < length (chain_at run n)) × (slice_index (chain_at run n) k ≡ reference)
  sample_place n reference s has = place_among n _ ((kept_at run n).list.alone reference (sample s) has)

  -- what a block of the list was at an earlier moment, if it was on the list
  pub record BlockWas (m n k : ℕ) (body : Body) : Type 0 where
    pub of : Body
    pub stands : Stands (kept_at run m).anatomy.pieces (slice_index (chain_at run n) k) none of
    pub of_list : IsOfList of
    pub goes : GoesAs (kept_at run m).anatomy.version of body

  pub block_was : (m n k : ℕ) (body : Body) → m ≤ n → k < length (chain_at run m)
      → Stands (kept_at run n).anatomy.pieces (slice_index (chain_at run n) k) none body → BlockWas m n k body
  block_was m n k body le below late =
      let x : ℕ = slice_index (chain_at run n) k in
      let kept = kept_at run m in
      let after = kept_at run n in
      let (before, stood, of_list) = listed_at m k below in
      let stands = subst (λ (r : ℕ). Stands kept.anatomy.pieces r none before) (sym (same_place m n k le below).1) stood in
      let (then_is, still, goes) = (rises_at run m n le).goes x before (list_claimed before of_list) stands in
      let same : then_is ≡ body = (one_stands shape (at n).words after.anatomy after.shown x none none then_is body still late).1 in
      record { of = before; stands = stands; of_list = of_list; goes = subst (GoesAs kept.anatomy.version before) same goes }

  -- a word of a record that never changes is the same at each moment from which on the record is on the list
  pub word_kept : (m n k i : ℕ) (body : Body) → m ≤ n → k < length (chain_at run m)
      → Stands (kept_at run n).anatomy.pieces (slice_index (chain_at run m) k) none body → IsUnchanging body i → i < length (words_of body)
      → word_at (at m).words (slice_index (chain_at run m) k + i) ≡ slice_index (words_of body) i
  word_kept m n k i body le below late stays inside =
      let place = (same_place m n k le below).1 in
      let was = block_was m n k body le below (subst (λ (r : ℕ). Stands (kept_at run n).anatomy.pieces r none body) (sym place) late) in
      let version : ℕ = (kept_at run m).anatomy.version in
      let long = list_long version was.of body was.of_list was.goes in
      ap (λ (r : ℕ). word_at (at m).words (r + i)) (sym place)
      ∙ (block_word m (slice_index (chain_at run n) k) i was.of was.stands (omega (arith, inside, long))
      ∙ sym (goes_unchanged version was.of body i was.goes (unchanging_from version was.of body i was.of_list was.goes stays)))
