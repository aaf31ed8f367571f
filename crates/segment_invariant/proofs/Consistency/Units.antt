-- The units of a kept state are kept: its sums are near each other, by what was spent on their histogram.
use Rattle.segment_invariant.proofs.Prelude.Std.{◌≡◌, ℕ, ◌*◌, ◌≤◌, ℤ, List, inl, inr, ap, subst, ◌∙◌, arith, unsigned_abs, ◌-ℤ◌, w64, cast_signed, at_from}
use Rattle.segment_invariant.proofs.Prelude.Machine.{Dimensions, State}
use Rattle.segment_invariant.proofs.Prelude.Invariant.{IsHistogram, Record, Anatomy, order_of, HasRecord, IsSumOf, Invariant}
use Rattle.segment_machine.specs.Actor.{all_costs}
use Rattle.segment_invariant.specs.Consistent.{IsSum}
use Rattle.segment_invariant.specs.Keeps.{KeptUnitsAreKept}
use Rattle.segment_invariant.proofs.Frames.LaidOut.{laid_out}
use Rattle.segment_invariant.proofs.Consistency.Firsts.{first_of_name}
use Rattle.segment_invariant.proofs.Consistency.Records.{record_word}
use Rattle.segment_invariant.proofs.Consistency.Sums.{noted_is}
use Rattle.segment_invariant.proofs.Counting.Bounds.{counted_covered, noted_covered, sums_covered, sum_covered}

-- ---- a kept state

module _ (shape : Dimensions) (opened : Anatomy) (state : State) (kept : Invariant shape opened state) where
  -- a histogram of the list is a record of its name
  histogram_record : (name : List ℕ) (at : ℕ) → IsHistogram state.words (order_of kept.anatomy) name at
      → (r : Record) × HasRecord kept.anatomy.pieces at r × (r.name ≡ name)
  histogram_record name at is =
      let (kind, r, first, (has, named, specified)) = first_of_name shape opened state.words (laid_out shape opened state kept) name at is in (r, has, named)

  -- a sum of it is one of its record
  sum_of_record : (at : ℕ) (r : Record) (sum : ℤ) → HasRecord kept.anatomy.pieces at r → IsSum state.words state.actors at sum → IsSumOf state.actors at r sum
  sum_of_record at r sum there (inl now) = inr (inl (now ∙ ap (cast_signed w64) (record_word shape state.words kept.anatomy kept.shown at r 11 there (omega arith))))
  sum_of_record at r sum there (inr (inl mark)) =
      inr (inr (inl (mark ∙ ap (cast_signed w64) (record_word shape state.words kept.anatomy kept.shown at r 12 there (omega arith)))))
  sum_of_record at r sum there (inr (inr (a, among, loaded))) =
      let place = at_from state.actors a among in inr (inr (inr (place.0, a, place.1, loaded)))

pub units_are_kept : KeptUnitsAreKept
units_are_kept shape opened state kept = record {
  pool = kept.pool;
  counted = counted_covered shape opened state kept;
  redundant = λ name at is.
      let (kind, r, first, (there, named, specified)) = first_of_name shape opened state.words (laid_out shape opened state kept) name at is in
      let noted = noted_is shape opened state.words (laid_out shape opened state kept) name kind at r first there named in
      let all = noted_covered shape opened state kept name in
      let word = record_word shape state.words kept.anatomy kept.shown at r 13 there (omega arith) in
      let balance = kept.balanced.noted name in
      omega (arith, word, noted, balance, all);
  sums = λ name at a is sum.
      let (r, there, named) = histogram_record shape opened state kept name at is in
      subst (λ (name : List ℕ). unsigned_abs a ≤ 2147483648 * all_costs state.actors name) named
      (sum_covered shape opened state kept at r a there (sum_of_record shape opened state kept at r a there sum));
  differences = λ name at a b is first second.
      let (r, there, named) = histogram_record shape opened state kept name at is in
      subst (λ (name : List ℕ). unsigned_abs (a -ℤ b) ≤ 2147483648 * all_costs state.actors name) named
      (sums_covered shape opened state kept at r a b there (sum_of_record shape opened state kept at r a there first)
      (sum_of_record shape opened state kept at r b there second));
}
