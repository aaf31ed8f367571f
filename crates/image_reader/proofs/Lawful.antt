-- The histograms of a reading have no fault: their counts are small, and a sparse one has at most as many counts as the list has records.
use Rattle.std.proofs.Common.{◌≡◌, refl, ℕ, suc, ◌+◌, ◌≤◌, Bool, true, false, not, ◌==◌, List, [], ◌∷◌, length, take, Option, Some, None, is_none, All, pos, slice_index, ℤ, get_or, map, filter, arith, if◌then◌else◌}
use Rattle.std.specs.Prelude.{nat_lt}
use Rattle.std.specs.List.{range_with_len, list_any, fold}
use Rattle.std.proofs.lemmas.Bool.{ltb-false, not-true, or_parts, and_parts}
use Rattle.std.proofs.lemmas.List.Elements.{filter_passes, All-filter, All-map, All-cons, All-tail}
use Rattle.std.proofs.lemmas.List.FromFn.{length-map-range_with_len}
use Rattle.std.proofs.lemmas.List.Sums.{length-filter, count_by-le-length}
use Rattle.std.proofs.lemmas.List.{length-map}
use Rattle.std.proofs.lemmas.Map.Views.{All-insert_key}
use Rattle.std.specs.BTreeSet.{insert_key}
use Rattle.std.specs.declared.cmp.Ordering.{Ordering}
use Rattle.std.specs.declared.cmp.Ordering.TheVariants.{Less, Equal, Greater}
use Rattle.std.specs.Ordering.{match_ordering}
use Rattle.segment_image.specs.Checks.{first_fault}
use Rattle.segment_image.specs.Blocks.{field_at}
use Rattle.segment_image.specs.declared.head.SegmentHead.{SegmentHead}
use Rattle.bucket_ranges.specs.Ranges.{boundaries_of}
use Rattle.bucket_ranges.specs.Reading.{read_records, lawful_records, histogram_records, lawful_samples, with_earlier, is_sample, is_bad_sample, first_of_each, same_name, first_samples, by_value, bucket_counts, sample_counts, sample_value, has_large, record_fault, spec_of, total_of, totals_of, record_buckets}

-- a check that comes first, if none fails
no_first_fault : {F : Type 0} (failed : Bool) (fault : F) (rest : Option F) → (if failed then Some fault else rest) ≡ None → (failed ≡ false) × (rest ≡ None)
no_first_fault false fault rest e = (refl, e)
no_first_fault true fault rest e = absurd (cc e)

-- if none fails, each check passes
pub all_pass : {F : Type 0} (checks : List (Bool × F)) → first_fault checks ≡ None → All (λ check. check.0 ≡ false) checks
all_pass [] e = λ k d h. absurd (omega (arith, h))
all_pass (check ∷ rest) e =
    let (here, later) = no_first_fault check.0 check.1 (first_fault rest) e in
    All-cons (λ check. check.0 ≡ false) check rest here (all_pass rest later)

-- an option that is none
none_is : {X : Type 0} (o : Option X) → is_none o ≡ true → o ≡ None
none_is None e = refl
none_is (Some x) e = absurd (cc e)

-- what holds of all holds of the first of each group of equals
pub All-first_of_each : {X : Type 0} (same : X → X → Bool) (P : X → Type 0) (xs : List X) → All P xs → All P (first_of_each same xs)
All-first_of_each same P [] all = all
All-first_of_each same P (x ∷ xs) all =
    All-cons P x (filter (λ y. not (same x y)) (first_of_each same xs)) (all 0 x (omega arith))
    (All-filter (λ y. not (same x y)) P (first_of_each same xs) (All-first_of_each same P xs (All-tail P x xs all)))

-- the records that are read have no fault
pub read_records-lawful : (words : List ℕ) (head : SegmentHead) (references : List ℕ)
    → All (λ reference. record_fault words head reference ≡ None) (read_records words head references)
read_records-lawful words head references =
    let passes : ℕ → Bool = λ reference. is_none (record_fault words head reference) in
    let firsts = All-first_of_each (same_name words) (λ reference. passes reference ≡ true) (lawful_records words head references)
    (filter_passes passes (histogram_records words references)) in
    λ k d h. none_is (record_fault words head (get_or (read_records words head references) k d)) (firsts k d h)

-- ---- buckets

-- none of the images is above the limit
all_within : (limit : ℕ) (f : ℕ → ℕ) (is : List ℕ) → list_any (λ total. nat_lt limit total) (map f is) ≡ false → All (λ i. f i ≤ limit) is
all_within limit f [] e = λ k d h. absurd (omega (arith, h))
all_within limit f (i ∷ is) e =
    let parts = or_parts (nat_lt limit (f i)) (list_any (λ total. nat_lt limit total) (map f is)) e in
    All-cons (λ i. f i ≤ limit) i is (ltb-false limit (f i) parts.0) (all_within limit f is parts.1)

-- the count of a bucket, under its least value
abbrev pub bucket_at : ℕ → List ℕ → ℕ → ℕ → ℤ × ℕ
bucket_at version words reference i =
    (pos (slice_index (boundaries_of (spec_of words reference)) i), total_of version words reference i)

-- the counts of all buckets are small if none is too large
pub bucket_counts-small : (version : ℕ) (words : List ℕ) (reference : ℕ) → has_large (totals_of version words reference) ≡ false
    → All (λ count. count.1 ≤ 4294967295) (bucket_counts version words reference)
bucket_counts-small version words reference small =
    All-map (λ count. count.1 ≤ 4294967295) (bucket_at version words reference) (range_with_len 0 (record_buckets words reference))
    (all_within 4294967295 (total_of version words reference) (range_with_len 0 (record_buckets words reference)) small)

-- ---- samples

length-choice : (o : Ordering) (n : ℕ) (less same more : List ℕ) → length less ≤ n → length same ≤ n → length more ≤ n
    → length (match_ordering o less same more) ≤ n
length-choice Less n less same more a b c = a
length-choice Equal n less same more a b c = b
length-choice Greater n less same more a b c = c

-- one more in its place, or none
length-insert_key : (cmp : ℕ → ℕ → Ordering) (keys : List ℕ) (key : ℕ) → length (insert_key cmp keys key) ≤ length keys + 1
length-insert_key cmp [] key = omega arith
length-insert_key cmp (x ∷ xs) key =
    length-choice (cmp key x) (suc (length xs) + 1) (key ∷ x ∷ xs) (x ∷ xs) (x ∷ insert_key cmp xs key) (omega arith) (omega arith)
    (omega (arith, length-insert_key cmp xs key))

-- samples put in order: no more of them, and what holds of all holds of those
ordered : (cmp : ℕ → ℕ → Ordering) (P : ℕ → Type 0) (samples keys : List ℕ) → All P keys → All P samples
    → All P (fold (insert_key cmp) keys samples) × (length (fold (insert_key cmp) keys samples) ≤ length keys + length samples)
ordered cmp P [] keys all more = (all, omega arith)
ordered cmp P (sample ∷ rest) keys all more =
    let first : P sample = more 0 sample (omega arith) in
    let (kept, few) = ordered cmp P rest (insert_key cmp keys sample) (All-insert_key cmp sample P keys all first) (All-tail P sample rest more) in
    (kept, omega (arith, few, length-insert_key cmp keys sample))

-- the count of a sample is small
abbrev pub IsSmallSample : List ℕ → ℕ → Type 0
IsSmallSample words sample = field_at words sample 6 ≤ 4294967295

sample_small : (words : List ℕ) (head : SegmentHead) (placed : List ℕ × ℕ) → is_sample words head placed ≡ true → IsSmallSample words placed.1
sample_small words head placed e =
    let good : is_bad_sample words head placed.0 placed.1 ≡ false = not-true _ (and_parts (field_at words placed.1 2 == 3) _ e).1 in
    ltb-false 4294967295 (field_at words placed.1 6) (or_parts _ _ (or_parts _ _ (or_parts _ _ good).0).0).1

-- the counts of the samples of a list are small, and there are no more samples than records
pub lawful_samples-small : (words : List ℕ) (head : SegmentHead) (references : List ℕ) → All (IsSmallSample words) (lawful_samples words head references)
lawful_samples-small words head references =
    All-map (IsSmallSample words) (λ (placed : List ℕ × ℕ). placed.1) (filter (is_sample words head) (with_earlier references))
    (λ k d h. sample_small words head (get_or (filter (is_sample words head) (with_earlier references)) k d)
    (filter_passes (is_sample words head) (with_earlier references) k d h))

pub lawful_samples-few : (words : List ℕ) (head : SegmentHead) (references : List ℕ) → length (lawful_samples words head references) ≤ length references
lawful_samples-few words head references =
    let values = length-map (filter (is_sample words head) (with_earlier references)) (λ (placed : List ℕ × ℕ). placed.1) in
    omega (
      arith,
      values,
      length-filter (is_sample words head) (with_earlier references),
      count_by-le-length (is_sample words head) (with_earlier references),
      length-map-range_with_len {X = List ℕ × ℕ} (λ i. (take i references, slice_index references i)) 0 (length references),
    )

-- the counts of the samples of a histogram: no more of them than samples, and each is small if all samples are
pub sample_counts-few : (words samples : List ℕ) (reference : ℕ) → length (sample_counts words (first_samples words samples reference)) ≤ length samples
sample_counts-few words samples reference =
    let of_it : ℕ → Bool = λ sample. field_at words sample 4 == reference in
    let nothing : All (λ sample. sample ≡ sample) [] = λ k d h. absurd (omega (arith, h)) in
    let (_, fewer) = ordered (by_value words) (λ sample. sample ≡ sample) (filter of_it samples) [] nothing (λ k d h. refl) in
    let first : List ℕ = first_samples words samples reference in
    let same : length (sample_counts words first) ≡ length first = length-map first (λ sample. (sample_value words sample, field_at words sample 6)) in
    omega (arith, fewer, same, length-filter of_it samples, count_by-le-length of_it samples)

pub sample_counts-small : (words samples : List ℕ) (reference : ℕ) → All (IsSmallSample words) samples
    → All (λ count. count.1 ≤ 4294967295) (sample_counts words (first_samples words samples reference))
sample_counts-small words samples reference small =
    let of_it : ℕ → Bool = λ sample. field_at words sample 4 == reference in
    let nothing : All (IsSmallSample words) [] = λ k d h. absurd (omega (arith, h)) in
    let (in_order, _) = ordered (by_value words) (IsSmallSample words) (filter of_it samples) [] nothing (All-filter of_it (IsSmallSample words) samples small) in
    All-map (λ (c : ℤ × ℕ). c.1 ≤ 4294967295) (λ sample. (sample_value words sample, field_at words sample 6)) (first_samples words samples reference) in_order
