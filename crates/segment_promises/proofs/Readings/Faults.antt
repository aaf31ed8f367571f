-- No record on the list of words that are kept is bad, and the list does not stop.
use Rattle.segment_invariant.proofs.Prelude.Std.{◌≡◌, Bool, true, false, ◌&&◌, if◌then◌else◌, ℕ, suc, List, [], ◌∷◌, take, refl, ap, ◌∙◌, Option, Some, None, eqb-true, some, get_elem?, contains_at}
use Rattle.segment_invariant.proofs.Prelude.Machine.{Dimensions, head_of, field_at, is_of_type, record_fault, Reading}
use Rattle.segment_invariant.proofs.Prelude.Invariant.{Anatomy, order_of}
use Rattle.std.specs.Prelude.{option_map}
use Rattle.std.specs.List.{cons_option, filter_map}
use Rattle.segment_image.specs.declared.head.SegmentHead.{SegmentHead}
use Rattle.bucket_ranges.specs.declared.reading.RecordFault.{RecordFault}
use Rattle.bucket_ranges.specs.declared.reading.RecordFault.TheVariants.{BadSample}
use Rattle.bucket_ranges.specs.Reading.{is_bad_sample, with_earlier, fault_behind, bad_record, IsReading}
use Rattle.segment_promises.specs.Reads.{HasNoFault}
use Rattle.segment_invariant.specs.Words.{WordsAreKept}
use Rattle.segment_promises.proofs.Readings.Lists.{no_stop, read_along}
use Rattle.segment_promises.proofs.Readings.Names.{no_listed_fault}
use Rattle.segment_promises.proofs.Readings.Samples.{earlier_at, sample_is_right}

-- ---- lists

-- if nothing is made of any element, nothing is made of all
none_made : {X Y : Type 0} (f : X → Option Y) (l : List X) → ((i : ℕ) (x : X) → get_elem? l i ≡ some x → f x ≡ None) → filter_map f l ≡ []
none_made f [] none = refl
none_made f (x ∷ xs) none = ap (λ o. cons_option o (filter_map f xs)) (none 0 x refl) ∙ none_made f xs (λ i y there. none (suc i) y there)

-- a record that is neither a histogram with a fault nor a bad sample has no fault
none_behind : (words : List ℕ) (head : SegmentHead) (earlier : List ℕ) (at : ℕ)
    → (field_at words at 2 ≡ 1 → record_fault words head at ≡ None) → (field_at words at 2 ≡ 3 → is_bad_sample words head earlier at ≡ false)
    → fault_behind words head earlier at ≡ None
none_behind words head earlier at histogram sample =
    by_type (is_of_type words 1 at) (is_of_type words 3 at) (eqb-true (field_at words at 2) 1) (eqb-true (field_at words at 2) 3)
  where
    by_type : (first third : Bool) → (first ≡ true → field_at words at 2 ≡ 1) → (third ≡ true → field_at words at 2 ≡ 3)
        → (if first then record_fault words head at else (if third && is_bad_sample words head earlier at then Some BadSample else None)) ≡ None
    by_type true third one three = histogram (one refl)
    by_type false true one three = λ i. if sample (three refl) i then Some BadSample else None
    by_type false false one three = refl

-- ---- words that are kept

module _ (shape : Dimensions) (opened : Anatomy) (words : List ℕ) (kept : WordsAreKept shape opened words) where
  -- no record of the list has a fault
  no_fault_at : (k at : ℕ) → get_elem? (order_of kept.laid.anatomy) k ≡ some at
      → fault_behind words (head_of words) (take k (order_of kept.laid.anatomy)) at ≡ None
  no_fault_at k at there =
      none_behind words (head_of words) (take k (order_of kept.laid.anatomy)) at
      (no_listed_fault shape opened words kept at (contains_at (order_of kept.laid.anatomy) k at there)) (sample_is_right shape opened words kept k at there)

  none_bad : filter_map (bad_record words (head_of words)) (with_earlier (order_of kept.laid.anatomy)) ≡ []
  none_bad = none_made (bad_record words (head_of words)) (with_earlier (order_of kept.laid.anatomy)) (λ k placed there.
      let (before, here) = earlier_at (order_of kept.laid.anatomy) k placed there in
      let beside : Option RecordFault → Option (ℕ × RecordFault) = option_map (λ (fault : RecordFault). (placed.1, fault)) in
      ap (λ (earlier : List ℕ). beside (fault_behind words (head_of words) earlier placed.1)) before
      ∙ ap beside (no_fault_at k placed.1 here))

  pub no_fault : (reading : Reading) → IsReading words (head_of words) reading → HasNoFault reading
  no_fault reading is =
      let along = read_along shape opened words kept.laid reading is in
      (ap (λ (r : Reading). r.bad) along ∙ none_bad, ap (λ (r : Reading). r.stopped) along ∙ no_stop shape opened words kept.laid)
