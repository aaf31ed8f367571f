-- Samples as lines, and labels whose values need no escapes.
use Rattle.std.proofs.Common.{◌≡◌, ◌∙◌, ℕ, suc, ◌^◌, ◌<◌, ◌≤◌, List, [], ◌∷◌, ◌++◌, map, refl, ap, sym, append_assoc, arith}
use Rattle.std.specs.Prelude.{codes, ℤ, pos, negsuc, ◌-ℤ◌}
use Rattle.std.specs.Char.{digit_value}
use Rattle.std.specs.Fmt.{decimal, signed_decimal}
use Rattle.std.specs.Int.Signed.{mag}
use Rattle.std.specs.List.{flat_map}
use Rattle.std.specs.Str.Parse.{AllDigits}
use Rattle.std.proofs.lemmas.Bool.Decides.{nat_tests}
use Rattle.std.proofs.lemmas.Fmt.{decimal_is_IsNumeral}
use Rattle.std.proofs.lemmas.List.{append-nil}
use Rattle.std.proofs.lemmas.List.Concat.{flat_map-append}
use Rattle.std.proofs.lemmas.List.Folds.{flat_map-map}
use Rattle.bucket_ranges.specs.Reading.{Histogram}
use Rattle.reading_texts.specs.declared.rows.HistRow.{HistRow}
use Rattle.reading_texts.specs.Rows.{units_of}
use Rattle.reading_texts.specs.Labels.{quoted, value_byte}
use Rattle.reading_texts.specs.Lines.{bucket_line, value_line, total_line, total_lines}
use Rattle.reading_texts.specs.Exporting.{joined, next_label_text, inner_text, sample_text, bucket_sample, infinite_sample, total_sample, total_samples, value_sample}

-- ---- digits

-- a digit lies in this range
pub digit_range : (b : ℕ) → digit_value b < 10 → (48 ≤ b) × (b < 58)
digit_range b h = (grind (arith, nat_tests), grind (arith, nat_tests))

-- a digit needs no escape
plain_byte : (b : ℕ) → 48 ≤ b → b < 58 → value_byte b ≡ b ∷ []
plain_byte b low high = grind (arith, nat_tests)

pub quoted-digits : (bs : List ℕ) → AllDigits 10 bs → quoted bs ≡ bs
quoted-digits [] h = refl
quoted-digits (b ∷ bs) h =
    let range = digit_range b h.0 in
    ap (λ s. s ++ quoted bs) (plain_byte b range.0 range.1) ∙ ap (λ s. b ∷ s) (quoted-digits bs h.1)

pub digits-of : (n : ℕ) → n < 2 ^ 64 → AllDigits 10 (decimal n)
digits-of n small = (decimal_is_IsNumeral n small).0.1

-- a whole number needs no escapes
pub quoted-number : (z : ℤ) → mag z < 2 ^ 63 → quoted (signed_decimal z) ≡ signed_decimal z
quoted-number (pos n) small = quoted-digits (decimal n) (digits-of n (omega (arith, small)))
quoted-number (negsuc n) small = ap (λ s. 45 ∷ s) (quoted-digits (decimal (suc n)) (digits-of (suc n) (omega (arith, small))))

-- ---- lists

-- what is the same at each element
pub flat_map-same : {X Y : Type 0} (f g : X → List Y) (xs : List X) → ((x : X) → f x ≡ g x) → flat_map f xs ≡ flat_map g xs
flat_map-same f g [] same = refl
flat_map-same f g (x ∷ xs) same = ap (λ s. s ++ flat_map f xs) (same x) ∙ ap (λ s. g x ++ s) (flat_map-same f g xs same)

-- what is made of what is made
pub flat_map-twice : {X Y Z : Type 0} (f : Y → List Z) (g : X → List Y) (xs : List X) → flat_map f (flat_map g xs) ≡ flat_map (λ x. flat_map f (g x)) xs
flat_map-twice f g [] = refl
flat_map-twice f g (x ∷ xs) = flat_map-append f (g x) (flat_map g xs) ∙ ap (λ s. flat_map f (g x) ++ s) (flat_map-twice f g xs)

-- ---- samples

-- the line of a sample whose last label comes after others
behind_labels : (metric : List ℕ) (first : List ℕ × List ℕ) (more : List (List ℕ × List ℕ)) (last : List ℕ × List ℕ) (number : List ℕ)
    → sample_text (record { metric = metric; labels = (first ∷ more) ++ last ∷ []; number = number })
    ≡ joined (metric ∷ codes "{" ∷ inner_text (first ∷ more) ∷ next_label_text last ∷ codes "} " ∷ number ∷ codes "\n" ∷ [])
behind_labels metric first more last number =
    simp (flat_map-append next_label_text more (last ∷ []), append_assoc, append-nil)

-- the line of a bucket
pub bucket_is : (name : List ℕ) (first : List ℕ × List ℕ) (more : List (List ℕ × List ℕ)) (row : HistRow)
    → bucket_line name (inner_text (first ∷ more)) row ≡ sample_text (bucket_sample name (first ∷ more) row)
bucket_is name first more row =
    sym (behind_labels (name ++ codes "_bucket") first more (codes "le", signed_decimal (row.high -ℤ pos 1)) (decimal row.up_to)
    ∙ simp (append_assoc, append-nil))

-- the line of a value
pub value_is : (name : List ℕ) (first : List ℕ × List ℕ) (more : List (List ℕ × List ℕ)) (row : HistRow)
    → value_line name (inner_text (first ∷ more)) row ≡ sample_text (value_sample name (first ∷ more) row)
value_is name first more row =
    sym (behind_labels name first more (codes "value", signed_decimal row.low) (decimal row.units) ∙ simp (append_assoc, append-nil))

-- the lines of the totals
pub totals_are : (name : List ℕ) (first : List ℕ × List ℕ) (more : List (List ℕ × List ℕ)) (hist : Histogram)
    → total_lines name (inner_text (first ∷ more)) hist ≡ flat_map sample_text (total_samples name (first ∷ more) hist)
totals_are name first more hist =
    let infinite : total_line name (codes "_bucket") (inner_text (first ∷ more)) (codes ",le=\"+Inf\"") (decimal (units_of hist))
    ≡ sample_text (infinite_sample name (first ∷ more) hist) =
    sym (behind_labels (name ++ codes "_bucket") first more (codes "le", codes "+Inf") (decimal (units_of hist)) ∙ simp (append_assoc, append-nil)) in
    let whole : (suffix number : List ℕ) → total_line name suffix (inner_text (first ∷ more)) (codes "") number ≡ sample_text (total_sample (name ++ suffix) (first ∷ more) number) =
    λ suffix number. simp (append_assoc, append-nil) in
    ap (λ s. s ++ total_line name (codes "_sum") (inner_text (first ∷ more)) (codes "") (signed_decimal hist.sum)
    ++ total_line name (codes "_count") (inner_text (first ∷ more)) (codes "") (decimal (units_of hist))) infinite
    ∙ ap (λ s. sample_text (infinite_sample name (first ∷ more) hist) ++ s
    ++ total_line name (codes "_count") (inner_text (first ∷ more)) (codes "") (decimal (units_of hist))) (whole (codes "_sum") (signed_decimal hist.sum))
    ∙ ap (λ s. sample_text (infinite_sample name (first ∷ more) hist) ++ sample_text (total_sample (name ++ codes "_sum") (first ∷ more) (signed_decimal hist.sum)) ++ s)
    (whole (codes "_count") (decimal (units_of hist)))
    ∙ simp (append_assoc, append-nil)

-- the lines of a histogram that has ranges
pub ranged_is : (name : List ℕ) (first : List ℕ × List ℕ) (more : List (List ℕ × List ℕ)) (rows : List HistRow) (hist : Histogram)
    → flat_map (bucket_line name (inner_text (first ∷ more))) rows ++ total_lines name (inner_text (first ∷ more)) hist
    ≡ flat_map sample_text (map (bucket_sample name (first ∷ more)) rows ++ total_samples name (first ∷ more) hist)
ranged_is name first more rows hist =
    let labels : List (List ℕ × List ℕ) = first ∷ more in
    let buckets : flat_map (bucket_line name (inner_text labels)) rows ≡ flat_map sample_text (map (bucket_sample name labels) rows) =
    flat_map-same (bucket_line name (inner_text labels)) (λ row. sample_text (bucket_sample name labels row)) rows (bucket_is name first more)
    ∙ sym (flat_map-map sample_text (bucket_sample name labels) rows) in
    ap (λ s. s ++ total_lines name (inner_text labels) hist) buckets
    ∙ ap (λ s. flat_map sample_text (map (bucket_sample name labels) rows) ++ s) (totals_are name first more hist)
    ∙ sym (flat_map-append sample_text (map (bucket_sample name labels) rows) (total_samples name labels hist))

-- the lines of a sparse one
pub values_are : (name : List ℕ) (first : List ℕ × List ℕ) (more : List (List ℕ × List ℕ)) (rows : List HistRow)
    → flat_map (value_line name (inner_text (first ∷ more))) rows ≡ flat_map sample_text (map (value_sample name (first ∷ more)) rows)
values_are name first more rows =
    flat_map-same (value_line name (inner_text (first ∷ more))) (λ row. sample_text (value_sample name (first ∷ more) row)) rows (value_is name first more)
    ∙ sym (flat_map-map sample_text (value_sample name (first ∷ more)) rows)
