-- What words read as is whole.
use Rattle.std.proofs.Common.{◌≡◌, ◌≢◌, ◌++◌, Bool, true, false, not, ◌==◌, if◌then◌else◌, ℕ, ◌<◌, ◌^◌, ℤ, List, [], ◌∷◌, map, get_or, sum_by, None, Ok, refl, ap, sym, subst, ◌∙◌, arith}
use Rattle.std.specs.Str.{bytes_eq}
use Rattle.std.specs.List.{All, AllByRecursion, AllPairs, IsDistinct, filter}
use Rattle.std.proofs.lemmas.Bool.{and_parts, not-true}
use Rattle.std.proofs.lemmas.List.Elements.{All-map, filter_passes}
use Rattle.std.proofs.lemmas.List.Kept.{AllPairs-cons, AllPairs-filter}
use Rattle.std.proofs.lemmas.Map.Keys.{IsDistinct-from_apart, sorted_from_strictly_increasing}
use Rattle.std.proofs.lemmas.Simd.{map-map}
use Rattle.segment_image.specs.Blocks.{field_at}
use Rattle.segment_image.specs.Head.{header_of}
use Rattle.segment_image.specs.declared.head.SegmentHead.{SegmentHead}
use Rattle.bucket_ranges.specs.declared.spec.Spec.{Spec}
use Rattle.bucket_ranges.specs.declared.spec.Spec.TheVariants.{Linear, Boolean, Custom, Sparse}
use Rattle.bucket_ranges.specs.Spec.{spec_fault}
use Rattle.bucket_ranges.specs.Reading.{Histogram, Reading, IsReading, ascends_above, is_custom_named, inner_ranges, spec_of, has_spec, is_sparse, histogram_of, read_records, lawful_records, lawful_samples, first_of_each, same_name, name_of, first_samples, sample_counts, sample_marks, bucket_counts, bucket_marks, total_of}
use Rattle.bucket_ranges.proofs.Distinct.{increasing-from}
use Rattle.bucket_ranges.proofs.Named.{IsInner-from_named, inner-between, inner-ascends}
use Rattle.image_reader.specs.Readable.{IsReadable}
use Rattle.image_reader.proofs.Lawful.{read_records-lawful}
use Rattle.image_reader.proofs.Readables.{head_within, hist_readable, record_lawful}
use Rattle.reading_sums.specs.Whole.{HasNamesOnce, IsInForm, IsWholeList, IsWholeHistogram, IsWholeReading, lows_of}
use Rattle.reading_sums.specs.Keys.{keys_from}
use Rattle.reading_sums.proofs.OneReading.{eq-flips}
use Rattle.reading_sums.proofs.WholeKeys.{Rise, buckets-rise, buckets-low, samples-rise, whole-list}

-- ---- names

firsts-apart : {X : Type 0} (same : X → X → Bool) (xs : List X) → AllPairs (λ a b. same a b ≡ false) (first_of_each same xs)
firsts-apart same [] = λ i j d below within. absurd (omega (arith, within))
firsts-apart same (x ∷ xs) =
    let firsts = first_of_each same xs in
    let others = filter (λ y. not (same x y)) firsts in
    AllPairs-cons (λ a b. same a b ≡ false) x others
    (λ k d h. not-true (same x (get_or others k d)) (filter_passes (λ y. not (same x y)) firsts k d h))
    (AllPairs-filter (λ a b. same a b ≡ false) (λ y. not (same x y)) firsts (firsts-apart same xs))

names-apart : (name : ℕ → List ℕ) (x : ℕ) (xs : List ℕ) → AllByRecursion (λ y. bytes_eq (name y) (name x) ≡ false) xs
    → AllByRecursion (λ other. bytes_eq (name x) other ≡ false) (map name xs)
names-apart name x [] apart = tt
names-apart name x (y ∷ ys) apart = (eq-flips (name x) (name y) ∙ apart.0, names-apart name x ys apart.1)

names-once : (name : ℕ → List ℕ) (xs : List ℕ) → IsDistinct (λ a b. bytes_eq (name b) (name a)) xs → IsDistinct bytes_eq (map name xs)
unfolding IsDistinct
names-once name [] once = tt
names-once name (x ∷ xs) once = (names-apart name x xs once.0, names-once name xs once.1)

read-once : (words : List ℕ) (head : SegmentHead) (references : List ℕ) → IsDistinct bytes_eq (map (name_of words) (read_records words head references))
read-once words head references =
    names-once (name_of words) (read_records words head references)
    (IsDistinct-from_apart (same_name words) (read_records words head references) (firsts-apart (same_name words) (lawful_records words head references)))

-- ---- specs

-- inner ranges are in form
inner-form : (inner : List ℕ) → ascends_above 0 (inner ++ 2147483647 ∷ []) ≡ true → IsInForm (Custom inner)
inner-form inner up = sorted_from_strictly_increasing (0 ∷ inner) (increasing-from (0 ∷ inner) ((λ y m. (inner-between 0 inner up y m).0), inner-ascends 0 inner up))

named-form : (min max n : ℕ) (inner : List ℕ) (sparse custom boolean : Bool) (a b c : Bool)
    → (if sparse then a else (if custom then is_custom_named min max n inner else (if boolean then b else c))) ≡ true
    → IsInForm (if sparse then Sparse else (if custom then Custom inner else (if boolean then Boolean else Linear min max n)))
named-form min max n inner true custom boolean a b c e = tt
named-form min max n inner false true boolean a b c e = inner-form inner (IsInner-from_named min max n inner e).up
named-form min max n inner false false true a b c e = tt
named-form min max n inner false false false a b c e = tt

spec-form : (words : List ℕ) (reference : ℕ) → has_spec words reference ≡ true → IsInForm (spec_of words reference)
spec-form words reference has =
    let kind = field_at words reference 4 in
    named-form (field_at words reference 5) (field_at words reference 6) (field_at words reference 7) (inner_ranges words reference)
    (kind == 4) (kind == 3) (kind == 2) _ _ _ (and_parts _ _ has).1

ranged : (custom boolean : Bool) (inner : List ℕ) (min max n : ℕ) → (if custom then Custom inner else (if boolean then Boolean else Linear min max n)) ≢ Sparse
ranged true boolean inner min max n e = absurd (cc)
ranged false true inner min max n e = absurd (cc)
ranged false false inner min max n e = absurd (cc)

-- ---- histograms

-- a histogram of samples or of buckets
whole-either : (sparse : Bool) (other : Spec) (sampled bucketed : List (ℤ × ℕ)) (marks ranged_marks : List ℕ) → other ≢ Sparse
    → spec_fault (if sparse then Sparse else other) ≡ None → IsInForm (if sparse then Sparse else other) → Rise sampled
    → ((if sparse then Sparse else other) ≢ Sparse → Rise bucketed) → ((if sparse then Sparse else other) ≢ Sparse → map (λ (count : ℤ × ℕ). count.0) bucketed ≡ lows_of (if sparse then Sparse else other))
    → sum_by (λ (count : ℤ × ℕ). count.1) (if sparse then sampled else bucketed) < 2 ^ 64
    → IsWholeList (if sparse then Sparse else other) (keys_from (if sparse then sampled else bucketed) (if sparse then marks else ranged_marks))
whole-either true other sampled bucketed marks ranged_marks split lawful form rise buckets lows small =
    whole-list Sparse sampled marks lawful form rise (λ wrong. absurd (wrong refl)) small
whole-either false other sampled bucketed marks ranged_marks split lawful form rise buckets lows small =
    whole-list other bucketed ranged_marks lawful form (buckets split) lows small

record-whole : (words : List ℕ) (head : SegmentHead) (samples : List ℕ) (reference : ℕ) → has_spec words reference ≡ true
    → IsReadable (histogram_of head.version words samples reference) → IsWholeHistogram (histogram_of head.version words samples reference)
record-whole words head samples reference has readable =
    let firsts : List ℕ = first_samples words samples reference in
    let units : ℕ → ℕ = total_of head.version words reference in
    let kind = field_at words reference 4 in
    whole-either (is_sparse words reference) _ (sample_counts words firsts) (bucket_counts head.version words reference)
    (sample_marks words firsts) (bucket_marks head.version words reference)
    (ranged (kind == 3) (kind == 2) (inner_ranges words reference) (field_at words reference 5) (field_at words reference 6) (field_at words reference 7))
    readable.lawful (spec-form words reference has) (samples-rise words samples reference)
    (buckets-rise units (spec_of words reference) readable.lawful) (buckets-low units (spec_of words reference) readable.lawful) readable.small

-- ---- readings

pub words-whole : (words : List ℕ) (head : SegmentHead) (reading : Reading) → header_of words ≡ Ok head → IsReading words head reading → IsWholeReading reading
words-whole words head reading opened is =
    let references : List ℕ = is.0 in
    let samples : List ℕ = lawful_samples words head references in
    let made : ℕ → Histogram = histogram_of head.version words samples in
    let records : List ℕ = read_records words head references in
    let hists : reading.hists ≡ map made records = ap (λ (r : Reading). r.hists) is.2 in
    let lawful = read_records-lawful words head references in
    let names : HasNamesOnce (map made records) =
    subst (IsDistinct bytes_eq) (sym (map-map (λ (h : Histogram). h.name) made records)) (read-once words head references) in
    let whole : All IsWholeHistogram (map made records) = All-map IsWholeHistogram made records (λ k d h.
    let none = lawful k d h in
    record-whole words head samples (get_or records k d) (record_lawful words head (get_or records k d) none).0
    (hist_readable words head references (get_or records k d) (head_within words head opened) is.1 none)) in record {
      names = subst HasNamesOnce (sym hists) names;
      whole = subst (All IsWholeHistogram) (sym hists) whole;
    }
