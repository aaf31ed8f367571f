-- The single word that a look has of a record has a form, and if it is off, there is a counts reference: it was there before.
use Rattle.segment_invariant.proofs.Prelude.Std.{◌≡◌, ◌≢◌, ℕ, ◌+◌, ◌^◌, ◌<◌, ◌≤◌, ◌==◌, ◌&&◌, Bool, true, false, length, refl, sym, ap, subst, ◌∙◌, arith, slice_index, if◌then◌else◌, None, dite, ℕ_discrete, eq-eqb, leb-true}
use Rattle.segment_invariant.proofs.Prelude.Machine.{word_at, buckets_of, single_of, is_off}
use Rattle.segment_invariant.proofs.Prelude.Invariant.{Record, histogram, form_at, HasRecord}
use Rattle.std.proofs.Math.Decide.{dec_lt}
use Rattle.segment_looks.specs.Looks.{counts_reference, is_frozen}
use Rattle.segment_invariant.proofs.Consistency.Records.{record_word}
use Rattle.look_promises.specs.Images.{LooksHaveForms}
use Rattle.look_promises.proofs.Moments.Runs.{kept_at, chain_at}
use Rattle.look_promises.proofs.Copies.ThreeCopies.{ThreeCopies, three_copies, seen_in}
use Rattle.look_promises.proofs.Moments.Listed.{ends_at, place_of}
use Rattle.look_promises.proofs.NewRecords.Starts.{not_yet}
use Rattle.look_promises.proofs.Moments.Room.{record_was, word_was}
use Rattle.look_promises.proofs.Copies.Named.{two_within}
use Rattle.look_promises.proofs.Amounts.Totals.{goes_to}

module _ (copies : ThreeCopies) where
  open copies use {run, shape, at, last, moments, two, three, loaded}
  open seen_in copies use {late, list}

  module _ (k : ℕ) (below : k < length list) (r : Record) (has : HasRecord late.anatomy.pieces (slice_index list k) r) where
    abbrev x : ℕ
    x = slice_index list k

    abbrev w : ℕ
    w = word_at two (x + 9)

    spot : (j : ℕ) → j < 15 → x + j < shape.size
    spot j lt = let ends = ends_at run last x (histogram r) has in omega (arith, ends, lt)

    abbrev m : ℕ
    m = moments.two (x + 9)

    down : m ≤ last
    down = (two_within copies (x + 9) (spot 9 (omega arith))).1

    w_zero : length (chain_at run m) ≤ k → w ≡ 0
    w_zero far = loaded.copy_two.each (x + 9) (spot 9 (omega arith)) ∙ not_yet run m last k 9 down (histogram r) below far has (omega arith, omega arith)

    module _ (there : k < length (chain_at run m)) where
      abbrev q : Record
      q = (record_was run m last k down r has there).of

      abbrev was : HasRecord (kept_at run m).anatomy.pieces x q
      was = (record_was run m last k down r has there).stands

      word : w ≡ q.single
      word = loaded.copy_two.each (x + 9) (spot 9 (omega arith)) ∙ word_was run m last k down r has there 9 (omega arith)

      kinds : buckets_of r.spec ≡ buckets_of q.spec
      kinds = ap (λ (z : Record). buckets_of z.spec) (record_was run m last k down r has there).goes.is

      version : (kept_at run m).anatomy.version ≡ 2
      version = (kept_at run m).same.0 ∙ run.version

      formed_then : single_of 2 (buckets_of r.spec) w ≢ None
      formed_then none = ((kept_at run m).records.lawful x q was).formed
          (ap (λ (v : ℕ). form_at v q) version ∙ ((λ j. single_of 2 (sym kinds j) (sym word j)) ∙ none))

      third_then : is_frozen two x ≡ true → word_at three (x + 8) ≢ 0
      third_then off =
          let is : is_off q.single ≡ true = ap is_off (sym word) ∙ off in
          let some_there = ((kept_at run m).records.lawful x q was).off is in
          let later : ℕ = moments.three (x + 8) in
          let (p, stands, goes) = goes_to run m (moments.three (x + 8)) x q (loaded.ordered.third (x + 9) (x + 8) (spot 9 (omega arith)) (spot 8 (omega arith))) was in
          let after = kept_at run (moments.three (x + 8)) in
          let third : word_at three (x + 8) ≡ p.counts = loaded.copy_three.each (x + 8) (spot 8 (omega arith))
          ∙ record_word shape (at (moments.three (x + 8))).words after.anatomy after.shown x p 8 stands (omega arith) in
          λ nothing. some_there (sym (goes.counts some_there) ∙ (sym third ∙ nothing))

    formed : single_of 2 (buckets_of r.spec) w ≢ None
    formed none = elim (dec_lt k (length (chain_at run m))) [
      | yes there ↦ formed_then there none
      | no far ↦ absurd (cc (sym (ap (single_of 2 (buckets_of r.spec)) (w_zero (omega (arith, far)))) ∙ none))
    ]

    third_there : is_frozen two x ≡ true → word_at three (x + 8) ≢ 0
    third_there off = elim (dec_lt k (length (chain_at run m))) [
      | yes there ↦ third_then there off
      | no far ↦ let big = leb-true (2 ^ 63) w off in let nothing = w_zero (omega (arith, far)) in absurd (omega (arith, big, nothing))
    ]

    named : is_frozen two x ≡ true → counts_reference two three x ≢ 0
    named off = by_test ((word_at two (x + 8) == 0) && is_frozen two x) (dite (ℕ_discrete (word_at two (x + 8)) 0)
        (λ none_there. λ is. absurd (cc (eq-eqb (word_at two (x + 8)) 0 none_there, off, is)))
        (λ some_there. λ is. some_there)) refl
      where
        by_test : (b : Bool) → (((word_at two (x + 8) == 0) && is_frozen two x) ≡ false → word_at two (x + 8) ≢ 0)
            → ((word_at two (x + 8) == 0) && is_frozen two x) ≡ b → (if b then word_at three (x + 8) else word_at two (x + 8)) ≢ 0
        by_test true some_there is = third_there off
        by_test false some_there is = some_there is

  pub both : (reference : ℕ) (r : Record) → HasRecord late.anatomy.pieces reference r
      → (single_of 2 (buckets_of r.spec) (word_at two (reference + 9)) ≢ None) × (is_frozen two reference ≡ true → counts_reference two three reference ≢ 0)
  both reference r has =
      let (k, below, place) = place_of run last reference r has in
      subst (λ (x : ℕ). (single_of 2 (buckets_of r.spec) (word_at two (x + 9)) ≢ None) × (is_frozen two x ≡ true → counts_reference two three x ≢ 0)) place
      (let mine = subst (λ (x : ℕ). HasRecord late.anatomy.pieces x r) (sym place) has in (formed k below r mine, named k below r mine))

pub looks_have_forms : LooksHaveForms
looks_have_forms shape opened at first last moments one two three run loaded =
    let copies = three_copies shape opened at first last moments one two three run loaded in (kept_at copies.run last, both copies)
