-- How large the totals and marks of a histogram are in a kept state's words, if it is the first of its name: no total is above what
-- a segment may count, and no mark above its total, except that of the packed bucket in version 1, whose units may be in transit.
use Rattle.segment_invariant.proofs.Prelude.Std.{◌≡◌, ◌≢◌, Bool, true, false, ◌==◌, if◌then◌else◌, ℕ, ◌+◌, ◌<◌, ◌≤◌, ℤ, inl, inr, refl, sym, ap, ◌∙◌, arith, Option, Some, unwrap_or, eq-eqb, none}
use Rattle.segment_invariant.proofs.Prelude.Machine.{Dimensions, field_at, SingleWord, Spec, buckets_of, packed_bucket, is_packed_bucket, record_buckets, record_single, total_of, mark_of, State}
use Rattle.segment_invariant.proofs.Prelude.Invariant.{Record, histogram, Anatomy, form_at, key_of_bucket, HasRecord, IsFirst, Invariant}
use Rattle.std.specs.Prelude.{option_map}
use Rattle.std.proofs.lemmas.Bool.{cases_lt}
use Rattle.bucket_ranges.specs.declared.spec.Spec.TheVariants as spec
use Rattle.segment_machine.specs.Actor.{transit_of}
use Rattle.segment_invariant.specs.Words.{IsMarkBounded, AreBounded}
use Rattle.segment_invariant.proofs.Frames.LaidOut.{laid_out}
use Rattle.segment_invariant.proofs.Blocks.Pieces.{one_stands}
use Rattle.segment_invariant.proofs.Counting.Bounds.{counted_fits}
use Rattle.segment_invariant.proofs.Consistency.Records.{record_word}
use Rattle.segment_invariant.proofs.Consistency.Specs.{form_is}
use Rattle.segment_invariant.proofs.Consistency.Totals.{bucketed_kind, has_buckets, total_held, moved_all}
use Rattle.segment_invariant.proofs.Consistency.Marks.{mark_held, mark_bound}
use Rattle.segment_invariant.proofs.Consistency.Transit.{in_transit}

-- the packed bucket, by its test
pub packed_test : (form : Option SingleWord) (i : ℕ) → packed_bucket form ≡ Some i → is_packed_bucket form i ≡ true
packed_test form i is = ap (λ (packed : Option ℕ). unwrap_or (option_map (λ (bucket : ℕ). bucket == i) packed) false) is ∙ eq-eqb i i refl

module _ (shape : Dimensions) (opened : Anatomy) (state : State) (kept : Invariant shape opened state) (at : ℕ) (r : Record)
    (has : HasRecord kept.anatomy.pieces at r) where
  abbrev total : ℕ → ℕ
  total i = total_of kept.anatomy.version state.words at i

  abbrev mark : ℕ → ℕ
  mark i = mark_of kept.anatomy.version state.words at i

  form : record_single kept.anatomy.version state.words at ≡ form_at kept.anatomy.version r
  form = form_is shape state.words kept.anatomy kept.shown kept.anatomy.version at r has (kept.records.lawful at r has) kept.anatomy.version

  -- the mark of the packed bucket is the single mark
  packed_mark : (i : ℕ) → packed_bucket (record_single kept.anatomy.version state.words at) ≡ Some i → mark i ≡ r.mark
  packed_mark i packed =
      ap (λ (b : Bool). if b then field_at state.words at 10
      else (if field_at state.words at 8 == 0 then 0 else field_at state.words (field_at state.words at 8) (4 + record_buckets state.words at + i)))
      (packed_test (record_single kept.anatomy.version state.words at) i packed)
      ∙ record_word shape state.words kept.anatomy kept.shown at r 10 has (omega arith)

  -- if units of a bucket are in transit, it is the packed one in version 1
  moving_bounded : (i : ℕ) → 0 < transit_of state.actors at i → IsMarkBounded kept.anatomy.version state.words at i
  moving_bounded i moves =
      let (q, stands, one, packs) = in_transit shape opened state kept at i moves in
      let bodies : histogram q ≡ histogram r = (one_stands shape state.words kept.anatomy kept.shown at none none (histogram q) (histogram r) stands has).1 in
      let same : q ≡ r = cc bodies in
      let packed : packed_bucket (form_at kept.anatomy.version r) ≡ Some i = (λ j. packed_bucket (form_at (one j) (sym same j))) ∙ packs in
      let here : packed_bucket (record_single kept.anatomy.version state.words at) ≡ Some i = ap packed_bucket form ∙ packed in
      let bound = mark_bound shape opened state.words (laid_out shape opened state kept) at r has one i packed in
      let its = packed_mark i here in
      elim (cases_lt (total i) (mark i)) [
        | inl above ↦ inr (one, here, omega (arith, bound, its, above))
        | inr within ↦ inl within
      ]

  module _ (kind : Spec) (first : IsFirst kept.anatomy.records r.name kind at) (specified : r.spec ≡ kind) (i : ℕ) (below : i < buckets_of r.spec) where
    bucketed : r.spec ≢ spec.Sparse
    bucketed = bucketed_kind r.spec (has_buckets r.spec i below)

    abbrev key : ℤ
    key = key_of_bucket r.spec i

    -- a total is no more than all units
    total_small : total i ≤ 4294967295
    total_small =
        let held = total_held shape opened state.words (laid_out shape opened state kept) r.name kind at r first has refl specified bucketed i below in
        let balance = kept.balanced.units r.name key in
        let most = counted_fits shape opened state kept r.name key in
        omega (arith, held, balance, most)

    -- a mark is no more than its total and what is in transit
    mark_counted : mark i ≤ total i + transit_of state.actors at i
    mark_counted =
        let held = total_held shape opened state.words (laid_out shape opened state kept) r.name kind at r first has refl specified bucketed i below in
        let moved = moved_all shape opened state kept r.name kind at r first has refl specified bucketed i below in
        let balance = kept.balanced.units r.name key in
        let marked = mark_held shape opened state.words (laid_out shape opened state kept) r.name kind at r first has refl specified bucketed i below in
        let taken = kept.balanced.marks r.name key in
        let most = kept.balanced.taken r.name key in
        omega (arith, held, moved, balance, marked, taken, most)

    mark_bounded : IsMarkBounded kept.anatomy.version state.words at i
    mark_bounded = elim (cases_lt 0 (transit_of state.actors at i)) [
      | inl moves ↦ moving_bounded i moves
      | inr still ↦ inl (omega (arith, mark_counted, still))
    ]

  -- the totals and marks of the first record of a name are bounded
  pub first_bounded : (kind : Spec) → IsFirst kept.anatomy.records r.name kind at → r.spec ≡ kind
      → AreBounded kept.anatomy.version state.words at (buckets_of r.spec)
  first_bounded kind first specified = record { total = total_small kind first specified; mark = mark_bounded kind first specified }
