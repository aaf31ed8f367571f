-- A look has no single mark of a record whose single word packs no bucket: none was packed when the mark was loaded.
use Rattle.segment_invariant.proofs.Prelude.Std.{◌≡◌, ℕ, ◌+◌, ◌<◌, ◌≤◌, length, inl, inr, sym, ap, subst, ◌∙◌, arith, slice_index, None}
use Rattle.segment_invariant.proofs.Prelude.Machine.{word_at, buckets_of, single_of, packed_bucket}
use Rattle.segment_invariant.proofs.Prelude.Invariant.{Record, histogram, form_at, HasRecord}
use Rattle.std.proofs.Math.Decide.{dec_lt}
use Rattle.segment_invariant.proofs.Consistency.Records.{record_word}
use Rattle.look_promises.specs.Images.{LooksMarkPacked}
use Rattle.look_promises.proofs.Moments.Runs.{kept_at, chain_at}
use Rattle.look_promises.proofs.Copies.ThreeCopies.{ThreeCopies, three_copies, seen_in}
use Rattle.look_promises.proofs.Moments.Listed.{ends_at, place_of}
use Rattle.look_promises.proofs.NewRecords.Starts.{not_yet}
use Rattle.look_promises.proofs.Moments.Room.{record_was, word_was}
use Rattle.look_promises.proofs.Copies.Named.{one_within}
use Rattle.look_promises.proofs.Amounts.Marks.{same_packed, single_none}
use Rattle.look_promises.proofs.Amounts.Totals.{goes_to}

module _ (copies : ThreeCopies) where
  open copies use {run, shape, opened, at, last, moments, one, two, loaded}
  open seen_in copies use {late, list}

  module _ (k : ℕ) (below : k < length list) (r : Record) (has : HasRecord late.anatomy.pieces (slice_index list k) r)
      (none_packed : packed_bucket (single_of 2 (buckets_of r.spec) (word_at two (slice_index list k + 9))) ≡ None) where
    abbrev x : ℕ
    x = slice_index list k

    spot : (j : ℕ) → j < 15 → x + j < shape.size
    spot j lt = let ends = ends_at run last x (histogram r) has in omega (arith, ends, lt)

    abbrev m : ℕ
    m = moments.one (x + 10)

    down : m ≤ last
    down = (one_within copies (x + 10) (spot 10 (omega arith))).1

    mark_then : k < length (chain_at run m) → word_at (at m).words (x + 10) ≡ 0
    mark_then there =
        let kept = kept_at run m in
        let was = record_was run m last k down r has there in
        let (p, stands, goes) = goes_to run m (moments.two (x + 9)) x was.of (loaded.ordered.second (x + 10) (x + 9) (spot 10 (omega arith)) (spot 9 (omega arith))) was.stands in
        let after = kept_at run (moments.two (x + 9)) in
        let word : word_at two (x + 9) ≡ p.single = loaded.copy_two.each (x + 9) (spot 9 (omega arith))
        ∙ record_word shape (at (moments.two (x + 9))).words after.anatomy after.shown x p 9 stands (omega arith) in
        let kinds : buckets_of r.spec ≡ buckets_of was.of.spec = ap (λ (z : Record). buckets_of z.spec) was.goes.is in
        let later : packed_bucket (single_of 2 (buckets_of was.of.spec) p.single) ≡ None = (λ j. packed_bucket (single_of 2 (sym kinds j) (sym word j))) ∙ none_packed in
        let nothing : packed_bucket (form_at 2 was.of) ≡ None = elim (same_packed (buckets_of was.of.spec) was.of.single p.single goes.single) [
          | inl none_then ↦ none_then
          | inr same ↦ sym same ∙ later
        ] in
        word_was run m last k down r has there 10 (omega arith)
        ∙ single_none shape opened (at m) kept (kept.same.0 ∙ run.version) x was.of was.stands nothing

    pub no_mark : word_at one (x + 10) ≡ 0
    no_mark = loaded.copy_one.each (x + 10) (spot 10 (omega arith)) ∙ elim (dec_lt k (length (chain_at run m))) [
      | yes there ↦ mark_then there
      | no far ↦ not_yet run m last k 10 down (histogram r) below (omega (arith, far)) has (omega arith, omega arith)
    ]

  pub marks_packed : (reference : ℕ) (r : Record) → HasRecord late.anatomy.pieces reference r
      → packed_bucket (single_of 2 (buckets_of r.spec) (word_at two (reference + 9))) ≡ None → word_at one (reference + 10) ≡ 0
  marks_packed reference r has none_packed =
      let (k, below, place) = place_of run last reference r has in
      subst (λ (x : ℕ). word_at one (x + 10) ≡ 0) place
      (no_mark k below r (subst (λ (x : ℕ). HasRecord late.anatomy.pieces x r) (sym place) has)
      (subst (λ (x : ℕ). packed_bucket (single_of 2 (buckets_of r.spec) (word_at two (x + 9))) ≡ None) (sym place) none_packed))

pub looks_mark_packed : LooksMarkPacked
looks_mark_packed shape opened at first last moments one two three run loaded =
    let copies = three_copies shape opened at first last moments one two three run loaded in (kept_at copies.run last, marks_packed copies)
