-- The histograms on the list of words that are kept are the first of their names or later ones. In a later one nothing is counted. So the totals and
-- marks of each are bounded.
use Rattle.segment_invariant.proofs.Prelude.Std.{◌≡◌, ◌≢◌, Bool, true, false, ℕ, List, inl, refl, sym, ap, subst, ◌∙◌, arith, Some, ◌==◌, eqb-true, eqb-false, none}
use Rattle.segment_invariant.proofs.Prelude.Machine.{Dimensions, field_at, Empty, Spec, single_of, buckets_of, record_buckets, record_single, total_of, mark_of}
use Rattle.segment_invariant.proofs.Prelude.Invariant.{Record, histogram, Anatomy, HasRecord, IsFirst, CountsNothing}
use Rattle.bucket_ranges.specs.Reading.{mark_at}
use Rattle.bucket_ranges.specs.Units.{total_at}
use Rattle.segment_invariant.specs.Words.{AreBounded, AreLaid, WordsAreKept}
use Rattle.segment_invariant.proofs.Blocks.Pieces.{one_stands}
use Rattle.segment_invariant.proofs.Consistency.Records.{record_word}
use Rattle.segment_invariant.proofs.Consistency.Specs.{form_is}
use Rattle.segment_invariant.proofs.Consistency.Firsts.{first_there, record_of_first}

-- ---- words that are laid out

module _ (shape : Dimensions) (opened : Anatomy) (words : List ℕ) (kept : AreLaid shape opened words) (at : ℕ) (r : Record)
    (has : HasRecord kept.anatomy.pieces at r) where
  -- the name of a record has a first one
  pub its_first : (kind : Spec) × (place : ℕ) × IsFirst kept.anatomy.records r.name kind place
  its_first = first_there kept.anatomy.records r.name _ (kept.list.alone at (histogram r) has) (r.spec, refl)

  -- what counts nothing is bounded
  pub nothing_bounded : CountsNothing r → AreBounded kept.anatomy.version words at (buckets_of r.spec)
  nothing_bounded nothing = record {
    total = λ i below. let e = total_none i in omega (arith, e);
    mark = λ i below. let e = mark_none i in inl (omega (arith, e));
  }
    where
      counts_none : field_at words at 8 ≡ 0
      counts_none = record_word shape words kept.anatomy kept.shown at r 8 has (omega arith) ∙ nothing.0

      form_none : record_single kept.anatomy.version words at ≡ Some Empty
      form_none =
          form_is shape words kept.anatomy kept.shown kept.anatomy.version at r has (kept.records.lawful at r has) kept.anatomy.version
          ∙ ap (single_of kept.anatomy.version (buckets_of r.spec)) nothing.1

      total_none : (i : ℕ) → total_of kept.anatomy.version words at i ≡ 0
      total_none i = λ j. total_at words (counts_none j) (form_none j) i

      mark_none : (i : ℕ) → mark_of kept.anatomy.version words at i ≡ 0
      mark_none i = λ j. mark_at words (counts_none j) (record_buckets words at) (form_none j) (field_at words at 10) i

-- ---- and whose numbers are in bounds

module _ (shape : Dimensions) (opened : Anatomy) (words : List ℕ) (kept : WordsAreKept shape opened words) (at : ℕ) (r : Record)
    (has : HasRecord kept.laid.anatomy.pieces at r) where
  -- the totals and marks of each record are bounded
  pub all_bounded : AreBounded kept.laid.anatomy.version words at (buckets_of r.spec)
  all_bounded = let (kind, place, first) = its_first shape opened words kept.laid at r has in by_place kind place first (place == at) (eqb-true place at) (eqb-false place at)
    where
      by_place : (kind : Spec) (place : ℕ) → IsFirst kept.laid.anatomy.records r.name kind place → (b : Bool) → (b ≡ true → place ≡ at) → (b ≡ false → place ≢ at)
          → AreBounded kept.laid.anatomy.version words at (buckets_of r.spec)
      by_place kind place first true same apart =
          let here = subst (λ (at : ℕ). IsFirst kept.laid.anatomy.records r.name kind at) (same refl) first in
          let (q, (stands, named, specified)) = record_of_first shape opened words kept.laid r.name kind at here in
          let bodies : histogram q ≡ histogram r = (one_stands shape words kept.laid.anatomy kept.laid.shown at none none (histogram q) (histogram r) stands has).1 in
          let equal : q ≡ r = cc bodies in
          let same_spec : kind ≡ r.spec = sym specified ∙ ap (λ (r : Record). r.spec) equal in
          kept.bounds.buckets at r has (subst (λ (kind : Spec). IsFirst kept.laid.anatomy.records r.name kind at) same_spec here)
      by_place kind place first false same apart = nothing_bounded shape opened words kept.laid at r has (kept.laid.records.later at place r kind has first (apart refl))
