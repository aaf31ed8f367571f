-- The count of a value that a look has counts the calls that had ended at its first moment, and none that had not begun at its last.
use Rattle.segment_invariant.proofs.Prelude.Std.{◌≡◌, ℕ, ◌+◌, ◌<◌, ◌≤◌, ℤ, List, ◌++◌, length, inl, inr, refl, sym, ap, subst, ◌∙◌, arith, slice_index}
use Rattle.segment_invariant.proofs.Prelude.Machine.{Dimensions, State, Spec, buckets_of, word_at, all_counted, tally_units}
use Rattle.segment_invariant.proofs.Prelude.Invariant.{Anatomy, Sample, sample, Listed, HasSample, HasKey, IsFirst, IsFirstOf, Invariant}
use Rattle.std.specs.List.{flat_map}
use Rattle.std.proofs.Math.Decide.{dec_lt}
use Rattle.bucket_ranges.specs.declared.spec.Spec.TheVariants as spec
use Rattle.segment_machine.specs.Actor.{log_of}
use Rattle.segment_invariant.proofs.Lists.Tallies.{tally_at}
use Rattle.segment_invariant.proofs.Counting.AddSample.{one_sample}
use Rattle.segment_invariant.proofs.Frames.LaidOut.{laid_out}
use Rattle.segment_invariant.proofs.Consistency.Books.{one_first, one_name, sample_first}
use Rattle.segment_invariant.proofs.Consistency.Firsts.{sample_of_first}
use Rattle.segment_promises.specs.Reads.{begun_of}
use Rattle.segment_promises.proofs.Readings.Entries.{all_ended, all_begun}
use Rattle.segment_promises.proofs.Readings.Samples.{first_held}
use Rattle.look_promises.specs.Images.{LooksCountValues}
use Rattle.look_promises.proofs.Moments.Runs.{kept_at, rises_at}
use Rattle.look_promises.proofs.Moments.Firsts.{first_on, value_on}
use Rattle.look_promises.proofs.Moments.Listed.{sample_place}
use Rattle.look_promises.proofs.Copies.ThreeCopies.{ThreeCopies, three_copies, seen_in}
use Rattle.look_promises.proofs.Copies.Following.{first_last}
use Rattle.look_promises.proofs.Copies.Between.{between}
use Rattle.look_promises.proofs.Amounts.Calls.{no_moving}

-- ---- a state of version 2

module _ (shape : Dimensions) (opened : Anatomy) (state : State) (kept : Invariant shape opened state) (two : kept.anatomy.version ≡ 2) where
  -- the first sample of a value has what was counted of it
  counted_is : (x : ℕ) (s : Sample) → HasSample kept.anatomy.pieces x s → IsFirstOf kept.anatomy.records s.of s.value x
      → s.units ≡ tally_units (all_counted state.actors) s.name s.value
  counted_is x s has first =
      let held = first_held shape opened state.words (laid_out shape opened state kept) x s has first in
      let balance = kept.balanced.units s.name s.value in
      let still = no_moving shape opened state kept two s.name s.value in
      omega (arith, held, balance, still)

-- ---- a look

module _ (copies : ThreeCopies) where
  open copies use {run, shape, opened, at, first, last, two}
  open seen_in copies use {early, late, list}

  version_at : (m : ℕ) → (kept_at run m).anatomy.version ≡ 2
  version_at m = (kept_at run m).same.0 ∙ run.version

  module _ (k : ℕ) (below : k < length list) (s : Sample) (has : HasSample late.anatomy.pieces (slice_index list k) s)
      (its : IsFirstOf late.anatomy.records s.of s.value (slice_index list k)) where
    abbrev x : ℕ
    x = slice_index list k

    counted_most : word_at two (x + 6) ≤ tally_units (all_counted (at last).actors) s.name s.value
    counted_most =
        let up = (between copies k 6 (sample s) below has (inl refl)).1.1 in
        let counted = counted_is shape opened (at last) late (version_at last) x s has its in
        omega (arith, up, counted)

    -- its histogram is the first of its name
    its_histogram : IsFirst late.anatomy.records s.name spec.Sparse s.of
    its_histogram = sample_first shape opened (at last).words (laid_out shape opened (at last) late) x s has

    abbrev Later : (more : List Listed) → Type 0
    Later more = late.anatomy.records ≡ early.anatomy.records ++ more

    -- if something was counted of a key at the first moment, this was the first sample of the value then
    pub some_counted : 0 < tally_units (all_counted (at first).actors) s.name s.value → tally_units (all_counted (at first).actors) s.name s.value ≤ word_at two (x + 6)
    some_counted more =
        let (entry, among, named, keyed, some_units) = tally_at (all_counted (at first).actors) s.name s.value more in
        let key : HasKey early.anatomy.records s.name s.value = subst (λ (p : List ℕ × ℤ). HasKey early.anatomy.records p.0 p.1) (λ j. (named j, keyed j)) (early.keys entry among some_units) in
        let (behind, longer) = (rises_at run first last (first_last copies)).records in
        by_key key behind longer
      where
        by_sample : IsFirst early.anatomy.records s.name spec.Sparse s.of → IsFirstOf early.anatomy.records s.of s.value x
            → tally_units (all_counted (at first).actors) s.name s.value ≤ word_at two (x + 6)
        by_sample mine was =
            let laid = laid_out shape opened (at first) early in
            let (t, (stands, of, valued)) = sample_of_first shape opened (at first).words laid s.of s.value x was in
            let its_name : t.name ≡ s.name = one_name shape opened (at first) early t.name s.name spec.Sparse spec.Sparse s.of
            (subst (λ (of : ℕ). IsFirst early.anatomy.records t.name spec.Sparse of) of (sample_first shape opened (at first).words laid x t stands)) mine in
            let its_first : IsFirstOf early.anatomy.records t.of t.value x = subst (λ (p : ℕ × ℤ). IsFirstOf early.anatomy.records p.0 p.1 x) (λ j. (sym of j, sym valued j)) was in
            let counted = counted_is shape opened (at first) early (version_at first) x t stands its_first in
            let tally : tally_units (all_counted (at first).actors) t.name t.value ≡ tally_units (all_counted (at first).actors) s.name s.value =
            (λ j. tally_units (all_counted (at first).actors) (its_name j) (valued j)) in
            let least = (between copies k 6 (sample s) below has (inl refl)).1.0 (sample t) stands (inl refl) in
            omega (arith, counted, tally, least)

        by_key : HasKey early.anatomy.records s.name s.value → (more : List Listed) → Later more
            → tally_units (all_counted (at first).actors) s.name s.value ≤ word_at two (x + 6)
        by_key (kind, place, mine, by) more longer =
            let later : IsFirst late.anatomy.records s.name kind place = first_on early.anatomy.records late.anatomy.records more longer s.name kind place mine in
            let (at_of, sparse) = one_first shape opened (at last) late s.name kind spec.Sparse place s.of later its_histogram in
            elim by [
              | inl (bucket, few, is) ↦ let none = ap buckets_of sparse in absurd (omega (arith, few, none))
              | inr (kind_is, where_at, its_sample) ↦
                  let was : IsFirstOf early.anatomy.records s.of s.value where_at = subst (λ (of : ℕ). IsFirstOf early.anatomy.records of s.value where_at) at_of its_sample in
                  let on : IsFirstOf late.anatomy.records s.of s.value where_at = value_on early.anatomy.records late.anatomy.records more longer s.of s.value where_at was in
                  let same = one_sample late.anatomy.records s.of s.value where_at x on its in
                  by_sample
                  (subst (λ (kind : Spec). IsFirst early.anatomy.records s.name kind s.of) sparse (subst (λ (of : ℕ). IsFirst early.anatomy.records s.name kind of) at_of mine))
                  (subst (IsFirstOf early.anatomy.records s.of s.value) same was)
            ]

    ended : tally_units (flat_map log_of (at first).actors) s.name s.value ≤ word_at two (x + 6)
    ended =
        let least = all_ended shape opened (at first) early s.name s.value in
        elim (dec_lt 0 (tally_units (all_counted (at first).actors) s.name s.value)) [
          | yes more ↦ let most = some_counted more in omega (arith, least, most)
          | no none ↦ omega (arith, least, none)
        ]

    pub both : (tally_units (flat_map log_of (at first).actors) s.name s.value ≤ word_at two (x + 6))
        × (word_at two (x + 6) ≤ tally_units (all_counted (at last).actors) s.name s.value)
    both = (ended, counted_most)

  -- what was counted at the last moment
  pub values_held : (reference : ℕ) (s : Sample) → HasSample late.anatomy.pieces reference s → IsFirstOf late.anatomy.records s.of s.value reference
      → (tally_units (flat_map log_of (at first).actors) s.name s.value ≤ word_at two (reference + 6))
      × (word_at two (reference + 6) ≤ tally_units (all_counted (at last).actors) s.name s.value)
  values_held reference s has its =
      let (k, below, place) = sample_place run last reference s has in
      subst (λ (x : ℕ). (tally_units (flat_map log_of (at first).actors) s.name s.value ≤ word_at two (x + 6))
      × (word_at two (x + 6) ≤ tally_units (all_counted (at last).actors) s.name s.value)) place
      (both k below s (subst (λ (x : ℕ). HasSample late.anatomy.pieces x s) (sym place) has)
      (subst (IsFirstOf late.anatomy.records s.of s.value) (sym place) its))

  values_counted : (reference : ℕ) (s : Sample) → HasSample late.anatomy.pieces reference s → IsFirstOf late.anatomy.records s.of s.value reference
      → (tally_units (flat_map log_of (at first).actors) s.name s.value ≤ word_at two (reference + 6))
      × (word_at two (reference + 6) ≤ tally_units (flat_map begun_of (at last).actors) s.name s.value)
  values_counted reference s has its =
      let (least, counted) = values_held reference s has its in
      let most = all_begun shape opened (at last) late s.name s.value in
      (least, omega (arith, counted, most))

pub looks_count_values : LooksCountValues
looks_count_values shape opened at first last moments one two three run loaded =
    let copies = three_copies shape opened at first last moments one two three run loaded in (kept_at copies.run last, values_counted copies)
