-- The sum of a record and the sum mark that was loaded before it are no bad sums.
use Rattle.segment_invariant.proofs.Prelude.Std.{◌≡◌, false, ℕ, ◌+◌, ◌<◌, ◌≤◌, ◌||◌, ℤ, pos, ◌-ℤ◌, unsigned_abs, length, inl, inr, refl, sym, subst, ◌∙◌, arith, slice_index, w64, cast_signed, le-ltb, none}
use Rattle.segment_invariant.proofs.Prelude.Machine.{Dimensions, State, word_at, units_of}
use Rattle.segment_invariant.proofs.Prelude.Invariant.{Anatomy, Body, Stands, Record, histogram, HasRecord, summed_cost, Invariant}
use Rattle.std.proofs.Math.Decide.{dec_lt}
use Rattle.std.proofs.lemmas.List.Sums.{sum_by-le-sum_by}
use Rattle.bucket_ranges.specs.Reading.{is_bad_sum, is_beyond}
use Rattle.segment_invariant.proofs.Blocks.Pieces.{piece_word}
use Rattle.segment_invariant.proofs.Counting.Learned.{summed_least}
use Rattle.segment_promises.proofs.Reached.{states_rise}
use Rattle.segment_promises.proofs.Readings.LaterSums.{sums_near_later}
use Rattle.segment_promises.proofs.Readings.Records.{small}
use Rattle.look_promises.specs.Images.{LooksHaveSums}
use Rattle.look_promises.proofs.Moments.Runs.{Run, kept_at, chain_at, reached}
use Rattle.look_promises.proofs.Copies.ThreeCopies.{ThreeCopies, three_copies}
use Rattle.look_promises.proofs.Moments.Listed.{ends_at, place_of}
use Rattle.look_promises.proofs.NewRecords.Starts.{not_yet}
use Rattle.look_promises.proofs.Moments.Room.{record_was, word_was}

-- the sum of a record and a mark of 0
module _ (shape : Dimensions) (opened : Anatomy) (state : State) (kept : Invariant shape opened state) (at : ℕ) (r : Record) (has : HasRecord kept.anatomy.pieces at r) where
  abbrev sum : ℤ
  sum = cast_signed w64 r.sum

  from_none : is_beyond (sum -ℤ pos 0) ≡ false
  from_none =
      let near = kept.sums at r sum (pos 0) has (inr (inl refl)) (inl refl) in
      let few = sum_by-le-sum_by (summed_cost r.name) units_of state.actors (summed_least r.name) in
      let pool = kept.pool in
      le-ltb 9223372034707292160 (unsigned_abs (sum -ℤ pos 0)) (omega (arith, near, few, pool))

  near_none : is_bad_sum sum (pos 0) ≡ false
  near_none = λ i. small shape opened state kept at r has sum (inr (inl refl)) i || false || from_none i

module _ (run : Run) (m n last k : ℕ) (order : m ≤ n) (le : n ≤ last) (below : k < length (chain_at run last))
    (r : Record) (has : HasRecord (kept_at run last).anatomy.pieces (slice_index (chain_at run last) k) r) where
  open run use {shape, opened, at}

  abbrev h : ℕ
  h = slice_index (chain_at run last) k

  before : m ≤ last
  before = omega (arith, order, le)

  abbrev Near : ℕ → ℕ → Type 0
  Near sum mark = is_bad_sum (cast_signed w64 sum) (cast_signed w64 mark) ≡ false

  -- on the list already when the mark was loaded
  both : k < length (chain_at run m) → Near (word_at (at n).words (h + 11)) (word_at (at m).words (h + 12))
  both there =
      let was = record_was run m last k before r has there in
      let kept = kept_at run m in
      let (next, rises, sums) = states_rise shape opened (at m) (at n) kept (reached run m n order) in
      let (body, stands, (s, is, goes)) = rises.goes h (histogram was.of) refl was.stands in
      let now : HasRecord next.anatomy.pieces h s = subst (λ (b : Body). Stands next.anatomy.pieces h none b) is stands in
      let sum_word : word_at (at n).words (h + 11) ≡ s.sum =
      piece_word shape (at n).words next.anatomy next.shown now.0 (record { at = h; owner = none; body = histogram s }) 11 now.1 (omega arith) in
      let mark_word : word_at (at m).words (h + 12) ≡ was.of.sum_mark = word_was run m last k before r has there 12 (omega arith) in
      (λ i. is_bad_sum (cast_signed w64 (sum_word i)) (cast_signed w64 (mark_word i)))
      ∙ sums_near_later shape opened (at m) (at n) kept next sums h was.of s was.stands now

  -- not yet
  mark_none : length (chain_at run m) ≤ k → word_at (at m).words (h + 12) ≡ 0
  mark_none far = not_yet run m last k 12 before (histogram r) below far has (omega arith, omega arith)

  alone : length (chain_at run m) ≤ k → Near (word_at (at n).words (h + 11)) (word_at (at m).words (h + 12))
  alone far = elim (dec_lt k (length (chain_at run n))) [
    | yes there ↦
        let was = record_was run n last k le r has there in
        let sum_word : word_at (at n).words (h + 11) ≡ was.of.sum = word_was run n last k le r has there 11 (omega arith) in
        (λ i. is_bad_sum (cast_signed w64 (sum_word i)) (cast_signed w64 (mark_none far i)))
        ∙ near_none shape opened (at n) (kept_at run n) h was.of was.stands
    | no beyond ↦
        let nothing = not_yet run n last k 11 le (histogram r) below (omega (arith, beyond)) has (omega arith, omega arith) in
        λ i. is_bad_sum (cast_signed w64 (nothing i)) (cast_signed w64 (mark_none far i))
  ]

  pub sums_near : Near (word_at (at n).words (h + 11)) (word_at (at m).words (h + 12))
  sums_near = elim (dec_lt k (length (chain_at run m))) [ yes there ↦ both there | no far ↦ alone (omega (arith, far)) ]

module _ (copies : ThreeCopies) where
  open copies use {run, shape, at, last, moments, one, two, loaded}

  pub have_sums : (reference : ℕ) (r : Record) → HasRecord (kept_at run last).anatomy.pieces reference r
      → is_bad_sum (cast_signed w64 (word_at two (reference + 11))) (cast_signed w64 (word_at one (reference + 12))) ≡ false
  have_sums reference r has =
      let (k, below, place) = place_of run last reference r has in
      let ends = ends_at run last reference (histogram r) has in
      let sum_spot : reference + 11 < shape.size = omega (arith, ends) in
      let mark_spot : reference + 12 < shape.size = omega (arith, ends) in
      let order = loaded.ordered.second (reference + 12) (reference + 11) mark_spot sum_spot in
      let more = loaded.ordered.third (reference + 11) (reference + 11) sum_spot sum_spot in
      let done = loaded.ordered.ends (reference + 11) sum_spot in
      (λ i. is_bad_sum (cast_signed w64 (loaded.copy_two.each (reference + 11) sum_spot i)) (cast_signed w64 (loaded.copy_one.each (reference + 12) mark_spot i)))
      ∙ subst (λ (x : ℕ). is_bad_sum (cast_signed w64 (word_at (at (moments.two (reference + 11))).words (x + 11)))
      (cast_signed w64 (word_at (at (moments.one (reference + 12))).words (x + 12))) ≡ false) place
      (sums_near run (moments.one (reference + 12)) (moments.two (reference + 11)) last k order (omega (arith, more, done)) below r
      (subst (λ (x : ℕ). HasRecord (kept_at run last).anatomy.pieces x r) (sym place) has))

pub looks_have_sums : LooksHaveSums
looks_have_sums shape opened at first last moments one two three run loaded =
    let copies = three_copies shape opened at first last moments one two three run loaded in (kept_at copies.run last, have_sums copies)
