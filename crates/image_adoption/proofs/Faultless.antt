-- What is known of records that have no fault.
use Rattle.std.proofs.Common.{◌≡◌, ◌≢◌, Bool, true, false, not, ◌||◌, ◌&&◌, ◌==◌, ℕ, ◌+◌, ◌<◌, ◌≤◌, List, [], ◌∷◌, length, get_or, take, All, refl, sym, subst, ◌∙◌, arith, Option, Some, None, Ok}
use Rattle.std.specs.Prelude.{if◌then◌else◌, option_map}
use Rattle.std.specs.List.{filter_map, cons_option}
use Rattle.std.proofs.lemmas.Bool.{and_parts, or_parts, eq-eqb, eqb-true, ltb-false}
use Rattle.std.proofs.lemmas.List.{get_or_default}
use Rattle.std.proofs.lemmas.List.Elements.{All-nil, All-cons}
use Rattle.std.proofs.lemmas.List.FromFn.{get_or-map-range_with_len, length-map-range_with_len}
use Rattle.segment_image.specs.Head.{header_of}
use Rattle.segment_image.specs.Blocks.{field_at, is_block}
use Rattle.segment_image.specs.declared.head.SegmentHead.{SegmentHead}
use Rattle.bucket_ranges.specs.declared.reading.RecordFault.{RecordFault}
use Rattle.bucket_ranges.specs.declared.reading.RecordFault.TheVariants.{BadSample}
use Rattle.bucket_ranges.specs.Reading.{bad_record, fault_behind, has_bad_sample, is_bad_sample, is_counts_block, is_sample, is_of_type, is_sparse, record_buckets, record_fault, totals_of, has_large, with_earlier}
use Rattle.image_reader.proofs.Headers.{block_in_words}
use Rattle.image_reader.proofs.Sound.{HasBuckets-from_none, IsReadable-from_none}
use Rattle.image_adoption.specs.Records.{AreFaultless, HasNoBad, LiesInWords, IsFaultless}

-- ---- one record

module _ (words : List ℕ) (head : SegmentHead) (at : ℕ) (header : header_of words ≡ Ok head) where
  -- a histogram's lies in the words, and its counts do
  pub room_of : is_block words head at ≡ true → record_fault words head at ≡ None → LiesInWords words at
  room_of block none =
      let readable = IsReadable-from_none words head at none in
      let lies = block_in_words words head at header block in
      let long = readable.long in
      record {
        within = omega (arith, lies, long);
        buckets = readable.buckets;
        few = readable.few;
        counts = λ bucketed some.
            let room = (HasBuckets-from_none words head at header none (λ sparse. bucketed_not bucketed sparse)).room some in
            omega (arith, room, readable.buckets);
      }
    where
      bucketed_not : is_sparse words at ≡ false → field_at words at 4 ≡ 4 → ⊥
      bucketed_not bucketed sparse = cc (sym (eq-eqb (field_at words at 4) 4 sparse) ∙ bucketed)

  -- a sample's lies in the words
  pub sample_room : is_block words head at ≡ true → has_bad_sample words at ≡ false → at + 8 ≤ length words
  sample_room block good =
      let lies = block_in_words words head at header block in
      let tests = or_parts _ _ (or_parts _ _ (or_parts _ _ good).0).0 in
      let long = ltb-false (field_at words at 0) 8 tests.0 in
      omega (arith, lies, long)

-- the counts that a histogram's record names are a block
pub counts_block : (words : List ℕ) (head : SegmentHead) (at : ℕ) → record_fault words head at ≡ None → field_at words at 8 ≢ 0
    → is_block words head (field_at words at 8) ≡ true
counts_block words head at none named =
    by_tests (is_sparse words at) (field_at words at 8 == 0) _ _ (is_counts_block words head (record_buckets words at) (field_at words at 8))
    (has_large (totals_of head.version words at)) (eqb-true (field_at words at 8) 0) (IsReadable-from_none words head at none).counts
    (λ block. (and_parts _ _ (and_parts _ _ block).0).0)
  where
    by_tests : (sparse zero single mark block large : Bool) → (zero ≡ true → field_at words at 8 ≡ 0)
        → (if sparse then not (zero && single && mark) else (not (zero || block) || large)) ≡ false
        → (block ≡ true → is_block words head (field_at words at 8) ≡ true)
        → is_block words head (field_at words at 8) ≡ true
    by_tests true true single mark block large is good lies = absurd (named (is refl))
    by_tests true false single mark block large is good lies = cc good
    by_tests false true single mark block large is good lies = absurd (named (is refl))
    by_tests false false single mark true large is good lies = lies refl
    by_tests false false single mark false large is good lies = cc good

-- ---- all on a list

-- if nothing is made from a list, nothing is made from any of its elements
none_made : {X Y : Type 0} (f : X → Option Y) (l : List X) → filter_map f l ≡ [] → All (λ x. f x ≡ None) l
none_made f [] none = All-nil (λ x. f x ≡ None)
none_made {X} {Y} f (x ∷ rest) none = by_first (none_made f rest) (f x) refl none
  where
    by_first : (filter_map f rest ≡ [] → All (λ x. f x ≡ None) rest) → (o : Option Y) → f x ≡ o → cons_option o (filter_map f rest) ≡ []
        → All (λ x. f x ≡ None) (x ∷ rest)
    by_first later (Some y) is none = cc none
    by_first later None is none = All-cons (λ x. f x ≡ None) x rest is (later none)

-- for a list on which no record is bad
module _ (words : List ℕ) (head : SegmentHead) (references : List ℕ) (none : HasNoBad words head references) (k : ℕ) (below : k < length references) where
  abbrev at : ℕ
  at = get_or references k 0

  no_bad : bad_record words head (take k references, at) ≡ None
  no_bad =
      subst (λ (p : List ℕ × ℕ). bad_record words head p ≡ None)
      (get_or-map-range_with_len {X = List ℕ × ℕ} (λ i. (take i references, get_or references i 0)) 0 (length references) k k (take k references, at) below (omega arith))
      (none_made (bad_record words head) (with_earlier references) none k (take k references, at)
      (omega (arith, below, length-map-range_with_len {X = List ℕ × ℕ} (λ i. (take i references, get_or references i 0)) 0 (length references))))

  no_fault : fault_behind words head (take k references) at ≡ None
  no_fault = by_fault (fault_behind words head (take k references) at) refl no_bad
    where
      by_fault : (o : Option RecordFault) → fault_behind words head (take k references) at ≡ o
          → option_map {U = ℕ × RecordFault} (λ (fault : RecordFault). (at, fault)) o ≡ None → fault_behind words head (take k references) at ≡ None
      by_fault (Some fault) is none = cc none
      by_fault None is none = is

  -- a histogram's record has no fault
  pub good_histogram : field_at words at 2 ≡ 1 → record_fault words head at ≡ None
  good_histogram one = by_test (is_of_type words 1 at) (eq-eqb _ 1 one) no_fault
    where
      by_test : (b : Bool) → b ≡ true
          → (if b then record_fault words head at else (if is_of_type words 3 at && is_bad_sample words head (take k references) at then Some BadSample else None)) ≡ None
          → record_fault words head at ≡ None
      by_test true is none = none
      by_test false is none = cc is

  -- nor has a sample's
  pub good_sample : field_at words at 2 ≡ 3 → is_bad_sample words head (take k references) at ≡ false
  good_sample three = by_tests (is_of_type words 1 at) (is_of_type words 3 at) (is_bad_sample words head (take k references) at)
      (eqb-true (field_at words at 2) 1) (eq-eqb _ 3 three) no_fault
    where
      by_tests : (one third bad : Bool) → (one ≡ true → field_at words at 2 ≡ 1) → third ≡ true
          → (if one then record_fault words head at else (if third && bad then Some BadSample else None)) ≡ None → bad ≡ false
      by_tests true third bad first is none = let e = first refl in absurd (omega (arith, e, three))
      by_tests false true true first is none = cc none
      by_tests false true false first is none = refl
      by_tests false false bad first is none = cc is

  -- so the sample is read
  pub read_sample : field_at words at 2 ≡ 3 → is_sample words head (take k references, at) ≡ true
  read_sample three = λ i. eq-eqb _ 3 three i && not (good_sample three i)

-- none of them has a fault if no record is bad
pub faultless_of : (words : List ℕ) (head : SegmentHead) (references : List ℕ)
    → ((i : ℕ) → i < length references → is_block words head (get_or references i 0) ≡ true)
    → HasNoBad words head references → AreFaultless words head references
faultless_of words head references lawful none k d below =
    subst (IsFaultless words head) (get_or_default references k 0 d below)
    (record {
      block = lawful k below;
      histogram = good_histogram words head references none k below;
      sample = λ three. (or_parts _ _ (good_sample words head references none k below three)).0;
    })
