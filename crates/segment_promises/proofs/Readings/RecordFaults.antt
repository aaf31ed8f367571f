-- No record of a histogram among words that are kept has a fault.
use Rattle.segment_invariant.proofs.Prelude.Std.{◌≡◌, ℕ, [], ◌∷◌, ap, ◌∙◌, None, List, true, false}
use Rattle.segment_invariant.proofs.Prelude.Machine.{Dimensions, first_fault, head_of, record_fault, IsShown, buckets_of}
use Rattle.segment_invariant.proofs.Prelude.Invariant.{Record, Anatomy, layout_of, histogram, Listed, HasRecord, IsLawfulRecord, IsPassedOver}
use Rattle.bucket_ranges.specs.declared.reading.RecordFault.TheVariants.{BadKind, BadName, BadSpec, BadCounts, BadSingle, BadMark, BadSum}
use Rattle.bucket_ranges.specs.Reading.{is_bad_record_single, is_bad_mark, has_counts, is_bad_record_sum}
use Rattle.segment_invariant.specs.Words.{AreBounded, AreLaid, WordsAreKept}
use Rattle.segment_promises.proofs.Readings.Heads.{version_shown}
use Rattle.segment_promises.proofs.Readings.Records.{kind_is_right, name_is_right, spec_is_right, single_is_right, sum_is_right}
use Rattle.segment_promises.proofs.Readings.Counts.{counts_are_right}
use Rattle.segment_promises.proofs.Readings.Marks.{marks_are_right}
use Rattle.segment_promises.proofs.Readings.Later.{all_bounded}
use Rattle.segment_invariant.proofs.Consistency.PassedOver.{told, told_shown, told_stands}
use Rattle.segment_invariant.proofs.Consistency.Forms.{counts_are, told_counts, tells_passed}
use Rattle.segment_promises.proofs.Readings.PassedOver.{passed_bounded, passed_sum}

-- a record whose counts are there, whose totals and marks are bounded, and whose sums are valid
module _ (shape : Dimensions) (words : List ℕ) (anatomy : Anatomy) (shown : IsShown shape words (layout_of anatomy)) (version at : ℕ) (r : Record)
    (has : HasRecord anatomy.pieces at r) (right : IsLawfulRecord version shape.page r) where
  pub no_fault_of : (head_of words).version ≡ version → has_counts words (head_of words) at ≡ true → AreBounded version words at (buckets_of r.spec)
      → is_bad_record_sum words at ≡ false → record_fault words (head_of words) at ≡ None
  no_fault_of version_is there bounded sum =
      let kind = kind_is_right shape words anatomy shown version at r has right in
      let name = name_is_right shape words anatomy shown version at r has right in
      let spec = spec_is_right shape words anatomy shown version at r has right in
      let counts = counts_are_right shape words anatomy shown version at r has right bounded there version_is in
      let single = ap (λ (v : ℕ). is_bad_record_single v words at) version_is ∙ single_is_right shape words anatomy shown version at r has right in
      let marks = ap (λ (v : ℕ). is_bad_mark v words at) version_is ∙ marks_are_right shape words anatomy shown version at r has right bounded in
      λ i. first_fault ((kind i, BadKind) ∷ (name i, BadName) ∷ (spec i, BadSpec) ∷ (counts i, BadCounts) ∷ (single i, BadSingle) ∷ (marks i, BadMark) ∷ (sum i, BadSum) ∷ [])

module _ (shape : Dimensions) (opened : Anatomy) (words : List ℕ) (kept : WordsAreKept shape opened words) where
  -- so is each record in which somebody counts, or nobody has
  pub no_record_fault : (at : ℕ) (r : Record) → HasRecord kept.laid.anatomy.pieces at r → record_fault words (head_of words) at ≡ None
  no_record_fault at r has =
      no_fault_of shape words kept.laid.anatomy kept.laid.shown kept.laid.anatomy.version at r has (kept.laid.records.lawful at r has) (version_shown shape words kept.laid.anatomy kept.laid.shown)
      (counts_are shape opened words kept.laid at r has) (all_bounded shape opened words kept at r has) (sum_is_right shape opened words kept at r has)

module _ (shape : Dimensions) (opened : Anatomy) (words : List ℕ) (kept : AreLaid shape opened words) where
  -- and each that is passed over
  pub no_passed_fault : (front : List Listed) (at : ℕ) (r : Record) → IsPassedOver kept.anatomy.version shape.page kept.anatomy.pieces front at r
      → record_fault words (head_of words) at ≡ None
  no_passed_fault front at r over =
      no_fault_of shape words (told shape opened words kept at (histogram r) over.stands) (told_shown shape opened words kept at (histogram r) over.stands)
      kept.anatomy.version at r (told_stands shape opened words kept at (histogram r) over.stands) over.lawful (version_shown shape words kept.anatomy kept.shown)
      (told_counts words shape.page kept.anatomy.version at r (tells_passed shape opened words kept front at r over)) (passed_bounded shape opened words kept front at r over) (passed_sum shape opened words kept front at r over)
