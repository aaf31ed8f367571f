-- The count of a sample that a look has is at most what a segment may count, and its mark at most its count.
use Rattle.segment_invariant.proofs.Prelude.Std.{◌≡◌, ◌≢◌, ℕ, ◌+◌, ◌<◌, ◌≤◌, ◌==◌, Bool, true, false, length, inl, inr, refl, sym, subst, ◌∙◌, arith, slice_index, eqb-true, eqb-false}
use Rattle.segment_invariant.proofs.Prelude.Machine.{Dimensions, State, word_at}
use Rattle.segment_invariant.proofs.Prelude.Invariant.{Anatomy, Sample, sample, HasSample, IsFirstOf, Invariant}
use Rattle.std.proofs.Math.Decide.{dec_lt}
use Rattle.segment_invariant.proofs.Consistency.Firsts.{first_value_there}
use Rattle.segment_promises.proofs.Readings.Kept.{first_fits}
use Rattle.look_promises.specs.Images.{LooksBoundSamples}
use Rattle.look_promises.proofs.Moments.Runs.{kept_at, chain_at}
use Rattle.look_promises.proofs.Moments.Room.{sample_was}
use Rattle.look_promises.proofs.Copies.ThreeCopies.{ThreeCopies, three_copies, seen_in}
use Rattle.look_promises.proofs.Moments.Listed.{sample_place, ends_at}
use Rattle.look_promises.proofs.NewRecords.Starts.{not_yet}
use Rattle.look_promises.proofs.Copies.Between.{at_least, between}
use Rattle.look_promises.proofs.Copies.Named.{one_within}

-- ---- a state

module _ (shape : Dimensions) (opened : Anatomy) (state : State) (kept : Invariant shape opened state) (x : ℕ) (s : Sample) (has : HasSample kept.anatomy.pieces x s) where
  -- the first of its value has at most what a segment may count, and a later one nothing
  sample_most : s.units ≤ 4294967295
  sample_most =
      let among = kept.list.alone x (sample s) has in
      let (place, first) = first_value_there kept.anatomy.records s.of s.value _ among refl in
      by_place place first (place == x) (eqb-true place x) (eqb-false place x)
    where
      by_place : (place : ℕ) → IsFirstOf kept.anatomy.records s.of s.value place → (b : Bool) → (b ≡ true → place ≡ x) → (b ≡ false → place ≢ x) → s.units ≤ 4294967295
      by_place place first true same apart = first_fits shape opened state kept x s has (subst (IsFirstOf kept.anatomy.records s.of s.value) (same refl) first)
      by_place place first false same apart = let nothing = (kept.records.later_samples x place s has first (apart refl)).0 in omega (arith, nothing)

-- ---- a look

module _ (copies : ThreeCopies) where
  open copies use {run, shape, opened, at, last, moments, one, two, loaded}
  open seen_in copies use {late, list}

  module _ (k : ℕ) (below : k < length list) (s : Sample) (has : HasSample late.anatomy.pieces (slice_index list k) s) where
    abbrev x : ℕ
    x = slice_index list k

    spot : (j : ℕ) → j < 8 → x + j < shape.size
    spot j lt = let ends = ends_at run last x (sample s) has in omega (arith, ends, lt)

    few : word_at two (x + 6) ≤ 4294967295
    few =
        let up = (between copies k 6 (sample s) below has (inl refl)).1.1 in
        let most = sample_most shape opened (at last) late x s has in
        omega (arith, up, most)

    abbrev mark_moment : ℕ
    mark_moment = moments.one (x + 7)

    down : mark_moment ≤ last
    down = (one_within copies (x + 7) (spot 7 (omega arith))).1

    mark_there : k < length (chain_at run mark_moment) → word_at (at mark_moment).words (x + 7) ≤ word_at two (x + 6)
    mark_there there =
        let was = sample_was run mark_moment last k down s has there in
        let taken = ((kept_at run mark_moment).records.valued x was.of was.stands).taken in
        let word = was.word 7 (omega arith) in
        let up = at_least run mark_moment (moments.two (x + 6)) x 6 (sample was.of)
        (loaded.ordered.second (x + 7) (x + 6) (spot 7 (omega arith)) (spot 6 (omega arith))) was.stands (inl refl) in
        let second = loaded.copy_two.each (x + 6) (spot 6 (omega arith)) in
        omega (arith, word, taken, up, second)

    pub sample_below : (word_at two (x + 6) ≤ 4294967295) × (word_at one (x + 7) ≤ word_at two (x + 6))
    sample_below = (
      few,
      elim (dec_lt k (length (chain_at run mark_moment))) [
        | yes there ↦
            let word = loaded.copy_one.each (x + 7) (spot 7 (omega arith)) in
            let most = mark_there there in
            omega (arith, word, most)
        | no far ↦
            let nothing = loaded.copy_one.each (x + 7) (spot 7 (omega arith))
            ∙ not_yet run mark_moment last k 7 down (sample s) below (omega (arith, far)) has (inr refl) in
            omega (arith, nothing)
      ],
    )

  pub samples_bounded : (reference : ℕ) (s : Sample) → HasSample late.anatomy.pieces reference s
      → (word_at two (reference + 6) ≤ 4294967295) × (word_at one (reference + 7) ≤ word_at two (reference + 6))
  samples_bounded reference s has =
      let (k, below, place) = sample_place run last reference s has in
      subst (λ (x : ℕ). (word_at two (x + 6) ≤ 4294967295) × (word_at one (x + 7) ≤ word_at two (x + 6))) place
      (sample_below k below s (subst (λ (x : ℕ). HasSample late.anatomy.pieces x s) (sym place) has))

pub looks_bound_samples : LooksBoundSamples
looks_bound_samples shape opened at first last moments one two three run loaded =
    let copies = three_copies shape opened at first last moments one two three run loaded in (kept_at copies.run last, samples_bounded copies)
