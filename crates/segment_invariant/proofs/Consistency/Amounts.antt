-- The sums of a kept state are the amounts, and its redundant counts grew by the units since the opening.
use Rattle.segment_invariant.proofs.Prelude.Std.{◌≡◌, ℕ, ◌+◌, List, sym, ap, subst, ◌∙◌, arith, w64, cast_signed, Contains}
use Rattle.segment_invariant.proofs.Prelude.Machine.{Dimensions, head_of, field_at, IsChain, all_noted, tally_noted, State}
use Rattle.segment_invariant.proofs.Prelude.Invariant.{IsHistogram, Anatomy, order_of, Invariant}
use Rattle.segment_invariant.specs.Keeps.{KeptSumsAreAmounts, opening_of}
use Rattle.segment_invariant.proofs.Frames.LaidOut.{laid_out}
use Rattle.segment_invariant.proofs.Consistency.Records.{record_word}
use Rattle.segment_invariant.proofs.Consistency.Firsts.{first_of_name}
use Rattle.segment_invariant.proofs.Consistency.Sums.{sum_is, noted_is}
use Rattle.segment_invariant.proofs.Consistency.Opened.{Opens, opens_as, front_is}
use Rattle.segment_invariant.proofs.Consistency.Since.{noted_there, none_noted}

module _ (shape : Dimensions) (opened : Anatomy) (state : State) (opens : Opens shape opened) (kept : Invariant shape opened state) where
  abbrev before : List ℕ
  before = (opening_of shape opened).words

  -- the redundant count of a record
  redundant : (front name : List ℕ) (at : ℕ) → IsChain before (head_of before) front → IsHistogram state.words (order_of kept.anatomy) name at
      → (Contains front at → field_at state.words at 13 ≡ field_at before at 13 + tally_noted (all_noted state.actors) name)
      × (¬ (Contains front at) → field_at state.words at 13 ≡ tally_noted (all_noted state.actors) name)
  redundant front name at chain is =
      let (kind, r, first, (has, named, specified)) = first_of_name shape opened state.words (laid_out shape opened state kept) name at is in
      let word = record_word shape state.words kept.anatomy kept.shown at r 13 has (omega arith) in
      let held = noted_is shape opened state.words (laid_out shape opened state kept) name kind at r first has named in
      let balance = kept.balanced.noted name in
      let order : front ≡ order_of opened = front_is shape opened opens front chain in (
        λ there.
            let was = noted_there shape opened state opens kept name kind at first (subst (λ (list : List ℕ). Contains list at) order there) in
            omega (arith, word, held, balance, was),
        λ absent.
            let none = none_noted shape opened state opens kept name kind at first (λ there. absent (subst (λ (list : List ℕ). Contains list at) (sym order) there)) in
            omega (arith, word, held, balance, none),
      )

pub sums_are_amounts : KeptSumsAreAmounts
sums_are_amounts shape opened state opens kept = record {
  sum = λ name at is.
      let (kind, r, first, (has, named, specified)) = first_of_name shape opened state.words (laid_out shape opened state kept) name at is in
      ap (cast_signed w64) (record_word shape state.words kept.anatomy kept.shown at r 11 has (omega arith))
      ∙ (sym (sum_is shape opened state.words (laid_out shape opened state kept) name kind at r first has named) ∙ kept.balanced.sums name);
  redundant = redundant shape opened state (opens_as shape opened opens) kept;
}
