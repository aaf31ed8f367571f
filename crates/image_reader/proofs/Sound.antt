-- What is known of a record without a fault.
use Rattle.std.proofs.Common.{◌≡◌, Bool, true, false, not, ◌&&◌, ◌||◌, ◌==◌, nat_lt, nat_le, if◌then◌else◌, ℕ, ◌+◌, ◌-◌, ◌*◌, ◌<◌, ◌≤◌, List, [], ◌∷◌, length, Option, Some, None, Ok, refl, ap, sym, ◌∙◌, arith}
use Rattle.std.specs.Prelude.{is_none, MatchOption, map, pos, slice_index}
use Rattle.std.proofs.lemmas.Bool.{or_parts, and_parts, not-false, leb-true, ltb-false, eqb-true, eq-eqb, ne_eqb}
use Rattle.segment_image.specs.Checks.{first_fault}
use Rattle.segment_image.specs.Head.{header_of}
use Rattle.segment_image.specs.Blocks.{field_at}
use Rattle.segment_image.specs.declared.head.SegmentHead.{SegmentHead}
use Rattle.bucket_ranges.specs.declared.spec.Spec.TheVariants.{Linear}
use Rattle.bucket_ranges.specs.declared.spec.SpecFault.{SpecFault}
use Rattle.bucket_ranges.specs.declared.spec.SpecFault.TheVariants.{BadMin, BadMax, TooFew, TooMany}
use Rattle.bucket_ranges.specs.Spec.{spec_fault}
use Rattle.bucket_ranges.specs.Reading.{record_fault, is_block, is_kind, has_name, has_spec, is_bad_counts, has_counts, has_large, totals_of, record_buckets, spec_of, inner_ranges, is_custom_named, total_at, mark_at, bucket_counts, bucket_marks, histogram_of, first_samples, sample_counts, sample_marks}
use Rattle.image_reader.specs.declared.sample.Samples.{Samples}
use Rattle.image_reader.specs.Samples.{HoldsSamples, held, sample_entry, entry_count, entry_mark}
use Rattle.bucket_ranges.proofs.Named.{named-lawful, IsInner-from_named}
use Rattle.image_reader.proofs.Headers.{block_in_words}
use Rattle.std.proofs.lemmas.Simd.{map-map}
use Rattle.image_reader.proofs.SpecWords.{has_spec-parts, has_spec-buckets}
use Rattle.image_reader.proofs.Records.{IsSound-from_none}
use Rattle.image_reader.proofs.BucketChecks.{large-found}
use Rattle.image_reader.specs.declared.buckets.Buckets.{Buckets}
use Rattle.image_reader.specs.Buckets.{AreBucketsAt, IsRoomFor}
use Rattle.bucket_ranges.specs.Ranges.{boundaries_of}
use Rattle.std.specs.List.{range_with_len}

pub record IsReadable (words : List ℕ) (head : SegmentHead) (at : ℕ) : Type 0 where
  pub long : 16 ≤ field_at words at 0
  pub name : has_name words at ≡ true
  pub spec : has_spec words at ≡ true
  pub lawful : spec_fault (spec_of words at) ≡ None
  pub buckets : record_buckets words at ≡ field_at words at 7
  pub few : field_at words at 7 ≤ 1000
  pub counts : is_bad_counts words head at ≡ false

-- a linear spec without a fault has at most 1,000 buckets
linear-few : (a b c d e : Bool) → is_none (first_fault ((a, BadMin) ∷ (b, BadMax) ∷ (c, TooFew) ∷ (d || e, TooMany) ∷ [])) ≡ true → d ≡ false
linear-few true b c d e n = absurd (cc)
linear-few false true c d e n = absurd (cc)
linear-few false false true d e n = absurd (cc)
linear-few false false false true e n = absurd (cc)
linear-few false false false false e n = refl

-- and so has each spec whose words are valid
named-few : (min max n : ℕ) (inner : List ℕ) (sparse custom boolean : Bool)
    → (if sparse then (min == 0) && (max == 0) && (n == 0)
    else (if custom then is_custom_named min max n inner
    else (if boolean then (min == 1) && (max == 2) && (n == 3) else is_none (spec_fault (Linear min max n))))) ≡ true
    → n ≤ 1000
named-few min max n inner true custom boolean e =
    omega (arith, eqb-true n 0 (and_parts ((min == 0) && (max == 0)) (n == 0) e).1)
named-few min max n inner false true boolean e = (IsInner-from_named min max n inner e).many
named-few min max n inner false false true e =
    omega (arith, eqb-true n 3 (and_parts ((min == 1) && (max == 2)) (n == 3) e).1)
named-few min max n inner false false false e =
    ltb-false 1000 n (linear-few (min == 0) (nat_le max min || nat_lt 2147483646 max) (nat_lt n 3) (nat_lt 1000 n) (nat_lt (max - min + 2) n) e)

pub IsReadable-from_none : (words : List ℕ) (head : SegmentHead) (at : ℕ) → record_fault words head at ≡ None
    → IsReadable words head at
IsReadable-from_none words head at none =
    let sound = IsSound-from_none words head at none in
    let kind = or_parts (nat_lt (field_at words at 0) 16) (not (is_kind (field_at words at 4))) sound.kind in
    let spec : has_spec words at ≡ true =
    not-false (has_spec words at) (or_parts (not (has_spec words at)) (nat_lt head.shape.page (4 + 2 * record_buckets words at)) sound.spec).0 in
    record {
      long = ltb-false (field_at words at 0) 16 kind.0;
      name = sound.name;
      spec = spec;
      lawful = named-lawful (field_at words at 4) (field_at words at 5) (field_at words at 6) (field_at words at 7)
          (inner_ranges words at) (has_spec-parts words at spec).1;
      buckets = has_spec-buckets words at spec;
      few = named-few (field_at words at 5) (field_at words at 6) (field_at words at 7) (inner_ranges words at)
          (field_at words at 4 == 4) (field_at words at 4 == 3) (field_at words at 4 == 2) (has_spec-parts words at spec).1;
      counts = sound.counts;
    }

not-sparse : (sparse zeros counts large : Bool) → sparse ≡ false
    → (if sparse then not zeros else (not counts || large)) ≡ false → (counts ≡ true) × (large ≡ false)
not-sparse true zeros counts large s e = absurd (cc)
not-sparse false zeros true large s e = (refl, e)
not-sparse false zeros false large s e = absurd (cc)

-- what is known of its buckets
pub record HasBuckets (version : ℕ) (words : List ℕ) (at : ℕ) : Type 0 where
  pub room : 0 < field_at words at 8 → field_at words at 8 + (4 + 2 * record_buckets words at) ≤ length words
  pub small : has_large (totals_of version words at) ≡ false

or-second : (a b : Bool) → a ≡ false → (a || b) ≡ true → b ≡ true
or-second true b f e = absurd (cc)
or-second false b f e = e

room-from : (words : List ℕ) (head : SegmentHead) (at : ℕ) → header_of words ≡ Ok head → has_counts words head at ≡ true
    → 0 < field_at words at 8 → field_at words at 8 + (4 + 2 * record_buckets words at) ≤ length words
room-from words head at h e some =
    let counts : ℕ = field_at words at 8 in
    let block : Bool = is_block words head counts in
    let typed : Bool = field_at words counts 2 == 2 in
    let long : Bool = nat_le (4 + 2 * record_buckets words at) (field_at words counts 0) in
    let here : (block && typed && long) ≡ true = or-second (counts == 0) (block && typed && long) (ne_eqb counts 0 (λ z. absurd (omega arith))) e in
    let parts = and_parts (block && typed) long here in
    let enough : 4 + 2 * record_buckets words at ≤ field_at words counts 0 = leb-true _ _ parts.1 in
    let lies = block_in_words words head counts h (and_parts block typed parts.0).0 in
    omega (arith, enough, lies)

pub HasBuckets-from_none : (words : List ℕ) (head : SegmentHead) (at : ℕ) → header_of words ≡ Ok head
    → record_fault words head at ≡ None → (field_at words at 4 ≡ 4 → ⊥) → HasBuckets head.version words at
HasBuckets-from_none words head at h none kind =
    let readable = IsReadable-from_none words head at none in
    let parts = not-sparse (field_at words at 4 == 4)
    ((field_at words at 8 == 0) && (field_at words at 9 == 0) && (field_at words at 10 == 0)) (has_counts words head at)
    (has_large (totals_of head.version words at)) (ne_eqb (field_at words at 4) 4 kind) readable.counts in
    record { room = room-from words head at h parts.0; small = parts.1 }

-- if there is no fault, what a match says
pub match-none : (P : Type 0) (Q : SpecFault → Type 0) (o : Option SpecFault) → o ≡ None → MatchOption o P Q → P
match-none P Q None e m = m
match-none P Q (Some fault) e m = absurd (cc)

-- what is read of the buckets is what the record has
pub counts-read : (version : ℕ) (words : List ℕ) (at : ℕ) (b : Buckets) (ranges : List ℕ) → AreBucketsAt version words at b
    → ranges ≡ boundaries_of (spec_of words at)
    → map (λ i. (pos (slice_index ranges i), total_at words b.counts b.single i)) (range_with_len 0 b.number) ≡ bucket_counts version words at
counts-read version words at b ranges are is =
    λ j. map (λ i. (pos (slice_index (is j) i), total_at words (are.counts j) (are.single j) i)) (range_with_len 0 (are.number j))

pub marks-read : (version : ℕ) (words : List ℕ) (at : ℕ) (b : Buckets) → AreBucketsAt version words at b
    → map (mark_at words b.counts b.number b.single b.single_mark) (range_with_len 0 b.number) ≡ bucket_marks version words at
marks-read version words at b are =
    λ j. map (mark_at words (are.counts j) (are.number j) (are.single j) (are.single_mark j)) (range_with_len 0 (are.number j))

-- and there is room for it
pub room-read : (version : ℕ) (words : List ℕ) (at : ℕ) (b : Buckets) → AreBucketsAt version words at b → HasBuckets version words at → IsRoomFor words b
room-read version words at b are has some =
    let room = has.room (omega (arith, are.counts)) in
    omega (arith, are.counts, are.number, room)

pub small-read : (version : ℕ) (words : List ℕ) (at : ℕ) (b : Buckets) → AreBucketsAt version words at b → HasBuckets version words at
    → has_large (map (total_at words b.counts b.single) (range_with_len 0 b.number)) ≡ false
small-read version words at b are has = large-found version words at b are ∙ has.small

-- ---- the histogram

if-true : {X : Type 0} (b : Bool) (x y : X) → b ≡ true → (if b then x else y) ≡ x
if-true b x y e = ap (λ t. if t then x else y) e

if-false : {X : Type 0} (b : Bool) (x y : X) → b ≡ false → (if b then x else y) ≡ y
if-false b x y e = ap (λ t. if t then x else y) e

-- the counts and the marks of a histogram that is not sparse are those of its buckets
pub counts-buckets : (version : ℕ) (words listed : List ℕ) (at : ℕ) → (field_at words at 4 ≡ 4 → ⊥)
    → bucket_counts version words at ≡ (histogram_of version words listed at).counts
counts-buckets version words listed at kind =
    sym (if-false (field_at words at 4 == 4) _ (bucket_counts version words at) (ne_eqb (field_at words at 4) 4 kind))

pub marks-buckets : (version : ℕ) (words listed : List ℕ) (at : ℕ) → (field_at words at 4 ≡ 4 → ⊥)
    → bucket_marks version words at ≡ (histogram_of version words listed at).marks
marks-buckets version words listed at kind =
    sym (if-false (field_at words at 4 == 4) _ (bucket_marks version words at) (ne_eqb (field_at words at 4) 4 kind))

-- those of a sparse one are what is held of it
pub counts-held : (version : ℕ) (words listed : List ℕ) (samples : Samples) (at : ℕ) → HoldsSamples words listed samples → field_at words at 4 ≡ 4
    → map entry_count (held samples at) ≡ (histogram_of version words listed at).counts
counts-held version words listed samples at holds kind =
    ap (map entry_count) (holds at) ∙ (map-map entry_count (sample_entry words) (first_samples words listed at)
    ∙ sym (if-true (field_at words at 4 == 4) (sample_counts words (first_samples words listed at)) (bucket_counts version words at) (eq-eqb _ 4 kind)))

pub marks-held : (version : ℕ) (words listed : List ℕ) (samples : Samples) (at : ℕ) → HoldsSamples words listed samples → field_at words at 4 ≡ 4
    → map entry_mark (held samples at) ≡ (histogram_of version words listed at).marks
marks-held version words listed samples at holds kind =
    ap (map entry_mark) (holds at) ∙ (map-map entry_mark (sample_entry words) (first_samples words listed at)
    ∙ sym (if-true (field_at words at 4 == 4) (sample_marks words (first_samples words listed at)) (bucket_marks version words at) (eq-eqb _ 4 kind)))
