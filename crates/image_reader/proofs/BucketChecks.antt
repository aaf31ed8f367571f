-- The checks of a record's buckets, from what the reader holds of them.
use Rattle.std.proofs.Common.{◌≡◌, Bool, true, false, ◌||◌, ◌&&◌, ◌==◌, nat_le, if◌then◌else◌, ◌+◌, ◌*◌, ℕ, List, [], ◌∷◌, map, Some, None, Ok, refl, ap, sym, ◌∙◌}
use Rattle.std.specs.List.{range_with_len}
use Rattle.std.proofs.lemmas.Bool.{ne_eqb}
use Rattle.segment_image.specs.declared.head.SegmentHead.{SegmentHead}
use Rattle.segment_image.specs.Checks.{first_fault}
use Rattle.segment_image.specs.Blocks.{field_at, block_of}
use Rattle.segment_image.specs.declared.blocks.BlockHead.{BlockHead}
use Rattle.bucket_ranges.specs.declared.reading.RecordFault.TheVariants.{BadSpec, BadCounts, BadSingle, BadMark, BadSum}
use Rattle.bucket_ranges.specs.declared.reading.RecordFault.{RecordFault}
use Rattle.bucket_ranges.specs.Reading.{units_checks, checks_behind_name}
use Rattle.bucket_ranges.specs.Reading.{is_block, has_counts, has_large, totals_of, total_at, record_single, record_buckets, is_bad_single, is_bad_mark, is_bad_mark_at, is_bad_spec, is_bad_counts, is_bad_sum, sum_of, sum_mark_of}
use Rattle.image_reader.specs.declared.buckets.Buckets.{Buckets}
use Rattle.image_reader.specs.Buckets.{AreBucketsAt}
use Rattle.image_reader.proofs.Headers.{IsBlockHead-from_block}

-- what is found of the buckets is what the record has
pub large-found : (version : ℕ) (words : List ℕ) (at : ℕ) (b : Buckets) → AreBucketsAt version words at b
    → has_large (map (total_at words b.counts b.single) (range_with_len 0 b.number)) ≡ has_large (totals_of version words at)
large-found version words at b are = λ i. has_large (map (total_at words (are.counts i) (are.single i)) (range_with_len 0 (are.number i)))

pub single-found : (version : ℕ) (words : List ℕ) (at : ℕ) (b : Buckets) → AreBucketsAt version words at b
    → is_bad_single b.single b.counts ≡ is_bad_single (record_single version words at) (field_at words at 8)
single-found version words at b are = λ i. is_bad_single (are.single i) (are.counts i)

pub mark-found : (version : ℕ) (words : List ℕ) (at : ℕ) (b : Buckets) → AreBucketsAt version words at b
    → is_bad_mark_at b.version words b.counts b.number b.single b.single_mark ≡ is_bad_mark version words at
mark-found version words at b are = λ i. is_bad_mark_at (are.version_is i) words (are.counts i) (are.number i) (are.single i) (are.single_mark i)

-- three checks: the first, the second, the third or none fails
pub three-first : (counts single mark : Bool) → counts ≡ true
    → first_fault ((counts, BadCounts) ∷ (single, BadSingle) ∷ (mark, BadMark) ∷ []) ≡ Some BadCounts
three-first counts single mark c = rw c refl

pub three-second : (counts single mark : Bool) → counts ≡ false → single ≡ true
    → first_fault ((counts, BadCounts) ∷ (single, BadSingle) ∷ (mark, BadMark) ∷ []) ≡ Some BadSingle
three-second counts single mark c s = rw (c, s) refl

pub three-third : (counts single mark : Bool) → counts ≡ false → single ≡ false → mark ≡ true
    → first_fault ((counts, BadCounts) ∷ (single, BadSingle) ∷ (mark, BadMark) ∷ []) ≡ Some BadMark
three-third counts single mark c s m = rw (c, s, m) refl

pub three-none : (counts single mark : Bool) → counts ≡ false → single ≡ false → mark ≡ false
    → first_fault ((counts, BadCounts) ∷ (single, BadSingle) ∷ (mark, BadMark) ∷ []) ≡ None
three-none counts single mark c s m = rw (c, s, m) refl

no_counts : (none block typed long : Bool) → none ≡ false → block ≡ false → (none || (block && typed && long)) ≡ false
no_counts none block typed long n b = rw (n, b) refl

-- if there is no block at a counts reference, there are no counts
pub has_counts-none : (words : List ℕ) (head : SegmentHead) (at : ℕ) → (field_at words at 8 ≡ 0 → ⊥)
    → is_block words head (field_at words at 8) ≡ false → has_counts words head at ≡ false
has_counts-none words head at some block =
    no_counts (field_at words at 8 == 0) (is_block words head (field_at words at 8)) (field_at words (field_at words at 8) 2 == 2)
    (nat_le (4 + 2 * record_buckets words at) (field_at words (field_at words at 8) 0)) (ne_eqb _ 0 some) block

some_counts : (none block typed long : Bool) → none ≡ false → block ≡ true → (none || (block && typed && long)) ≡ (typed && long)
some_counts none block typed long n b = rw (n, b) refl

-- if there is one, its header says whether there are counts
pub has_counts-found : (words : List ℕ) (head : SegmentHead) (at counts n : ℕ) (found : BlockHead) → counts ≡ field_at words at 8
    → n ≡ record_buckets words at → (counts ≡ 0 → ⊥) → block_of words head counts ≡ Ok found
    → has_counts words head at ≡ ((found.tag == 2) && nat_le (4 + 2 * n) found.size)
has_counts-found words head at counts n found here number some is =
    let at_counts : ℕ = field_at words at 8 in
    let block = IsBlockHead-from_block words head at_counts found (ap (block_of words head) (sym here) ∙ is) in
    some_counts (at_counts == 0) (is_block words head at_counts) (field_at words at_counts 2 == 2)
    (nat_le (4 + 2 * record_buckets words at) (field_at words at_counts 0)) (ne_eqb at_counts 0 (λ none. some (here ∙ none))) block.lawful
    ∙ (ap (λ (b : BlockHead). (b.tag == 2) && nat_le (4 + 2 * record_buckets words at) b.size) block.found_is
    ∙ ap (λ (m : ℕ). (found.tag == 2) && nat_le (4 + 2 * m) found.size) (sym number))

pub of_type : (typed long : Bool) → typed ≡ true → (typed && long) ≡ long
of_type typed long t = rw t refl

pub of_other_type : (typed long : Bool) → typed ≡ false → (typed && long) ≡ typed
of_other_type typed long t = rw t refl

-- the checks of a spec, of the units and of the sums, one after the other
behind-units : (spec counts single mark sum : Bool) (fault : RecordFault) → spec ≡ false
    → first_fault ((counts, BadCounts) ∷ (single, BadSingle) ∷ (mark, BadMark) ∷ []) ≡ Some fault
    → first_fault ((spec, BadSpec) ∷ (counts, BadCounts) ∷ (single, BadSingle) ∷ (mark, BadMark) ∷ (sum, BadSum) ∷ []) ≡ Some fault
behind-units true counts single mark sum fault s e = absurd (cc)
behind-units false true single mark sum fault s e = e
behind-units false false true mark sum fault s e = e
behind-units false false false true sum fault s e = e
behind-units false false false false sum fault s e = absurd (cc)

behind-sum : (spec counts single mark sum : Bool) → spec ≡ false
    → first_fault ((counts, BadCounts) ∷ (single, BadSingle) ∷ (mark, BadMark) ∷ []) ≡ None
    → first_fault ((spec, BadSpec) ∷ (counts, BadCounts) ∷ (single, BadSingle) ∷ (mark, BadMark) ∷ (sum, BadSum) ∷ [])
    ≡ (if sum then Some BadSum else None)
behind-sum true counts single mark sum s e = absurd (cc)
behind-sum false true single mark sum s e = absurd (cc)
behind-sum false false true mark sum s e = absurd (cc)
behind-sum false false false true sum s e = absurd (cc)
behind-sum false false false false sum s e = refl

pub fault_of-units : (words : List ℕ) (head : SegmentHead) (at : ℕ) (fault : RecordFault)
    → is_bad_spec words head.shape.page at ≡ false → first_fault (units_checks words head at) ≡ Some fault
    → first_fault (checks_behind_name words head at) ≡ Some fault
fault_of-units words head at fault s e =
    behind-units (is_bad_spec words head.shape.page at) (is_bad_counts words head at)
    (is_bad_single (record_single head.version words at) (field_at words at 8)) (is_bad_mark head.version words at)
    (is_bad_sum (sum_of words at) (sum_mark_of words at)) fault s e

pub fault_of-sum : (words : List ℕ) (head : SegmentHead) (at : ℕ) (bad : Bool)
    → is_bad_spec words head.shape.page at ≡ false → first_fault (units_checks words head at) ≡ None
    → is_bad_sum (sum_of words at) (sum_mark_of words at) ≡ bad
    → first_fault (checks_behind_name words head at) ≡ (if bad then Some BadSum else None)
fault_of-sum words head at bad s e b =
    behind-sum (is_bad_spec words head.shape.page at) (is_bad_counts words head at)
    (is_bad_single (record_single head.version words at) (field_at words at 8)) (is_bad_mark head.version words at)
    (is_bad_sum (sum_of words at) (sum_mark_of words at)) s e
    ∙ ap (λ t. if t then Some BadSum else None) b
