-- The samples that are not the first of their histogram and value, with one more record.
use Rattle.std.proofs.Common.{◌≡◌, Bool, true, false, cond, ◌||◌, ◌&&◌, ◌==◌, ℕ, ℤ, List, [], ◌∷◌, ◌++◌, map, inl, inr, ◌⊎◌, refl, ap, sym, ◌∙◌}
use Rattle.std.specs.Prelude.{is_some}
use Rattle.std.specs.List.{filter, fold, list_any}
use Rattle.std.specs.declared.cmp.Ordering.{Ordering}
use Rattle.std.specs.declared.cmp.Ordering.TheVariants.{Less, Equal, Greater}
use Rattle.std.specs.Ordering.{int_cmp, is_eq, match_ordering, nat_cmp}
use Rattle.std.specs.BTreeMap.{is_at}
use Rattle.std.specs.BTreeSet.{insert_key}
use Rattle.std.specs.Cmp.{nat_cmp_is, tied_then}
use Rattle.std.specs.Map.{keys_of, lookup}
use Rattle.std.proofs.lemmas.Bool.{cases_Bool, eq-eqb, eqb-true}
use Rattle.std.proofs.lemmas.Cmp.{int_ranked, ranked}
use Rattle.std.proofs.lemmas.List.{map-append}
use Rattle.std.proofs.lemmas.List.Elements.{filter-append}
use Rattle.std.proofs.lemmas.Map.Made.{is_some-lookup}
use Rattle.std.proofs.Math.Bool.{or_assoc, or_comm}
use Rattle.segment_image.specs.declared.head.SegmentHead.{SegmentHead}
use Rattle.bucket_ranges.specs.Reading.{by_value, first_samples, is_sample, lawful_samples, sample_histogram, sample_value, with_earlier}
use Rattle.bucket_ranges.proofs.Earlier.{with_earlier-push}
use Rattle.image_reader.specs.declared.sample.Samples.{Samples}
use Rattle.image_reader.specs.Later.{is_later, later_samples}
use Rattle.image_reader.specs.Samples.{Entry, HoldsSamples, by_entry_value, by_key, holds_sample, sample_entry}
use Rattle.image_reader.proofs.Gathered.{samples-push}
use Rattle.image_reader.proofs.SampleMaps.{of}

-- ---- a test of what is put in order

-- a test that has the same result for equals
any-step : {X : Type 0} (p : X → Bool) (o : Ordering) (y x : X) (rest put : List X) → (o ≡ Equal → p y ≡ p x)
    → list_any p put ≡ (list_any p rest || p y)
    → list_any p (match_ordering o (y ∷ x ∷ rest) (x ∷ rest) (x ∷ put)) ≡ ((p x || list_any p rest) || p y)
any-step p Less y x rest put same more = or_comm (p y) (p x || list_any p rest)
any-step p Equal y x rest put same more = kept (p x) (list_any p rest) ∙ ap (λ b. (p x || list_any p rest) || b) (sym (same refl))
  where
    kept : (a b : Bool) → (a || b) ≡ ((a || b) || a)
    kept true b = refl
    kept false true = refl
    kept false false = refl
any-step p Greater y x rest put same more = ap (λ b. p x || b) more ∙ sym (or_assoc (p x) (list_any p rest) (p y))

any-insert : {X : Type 0} (p : X → Bool) (cmp : X → X → Ordering) → ((a b : X) → cmp a b ≡ Equal → p a ≡ p b) → (xs : List X) (y : X)
    → list_any p (insert_key cmp xs y) ≡ (list_any p xs || p y)
any-insert p cmp same [] y = or_comm (p y) false
any-insert p cmp same (x ∷ xs) y = any-step p (cmp y x) y x xs (insert_key cmp xs y) (same y x) (any-insert p cmp same xs y)

any-fold : {X : Type 0} (p : X → Bool) (cmp : X → X → Ordering) → ((a b : X) → cmp a b ≡ Equal → p a ≡ p b) → (put xs : List X)
    → list_any p (fold (insert_key cmp) put xs) ≡ (list_any p put || list_any p xs)
any-fold p cmp same put [] = or_comm false (list_any p put)
any-fold p cmp same put (x ∷ xs) =
    any-fold p cmp same (insert_key cmp put x) xs
    ∙ (ap (λ b. b || list_any p xs) (any-insert p cmp same put x) ∙ or_assoc (list_any p put) (p x) (list_any p xs))

any-map : {X Y : Type 0} (p : Y → Bool) (f : X → Y) (xs : List X) → list_any p (map f xs) ≡ list_any (λ x. p (f x)) xs
any-map p f [] = refl
any-map p f (x ∷ xs) = ap (λ b. p (f x) || b) (any-map p f xs)

any-filter : {X : Type 0} (p q : X → Bool) (xs : List X) → list_any p (filter q xs) ≡ list_any (λ x. q x && p x) xs
any-filter p q [] = refl
any-filter p q (x ∷ xs) = by_test (q x) ∙ ap (λ b. (q x && p x) || b) (any-filter p q xs)
  where
    by_test : (b : Bool) → list_any p (cond b (x ∷ filter q xs) (filter q xs)) ≡ ((b && p x) || list_any p (filter q xs))
    by_test true = refl
    by_test false = refl

-- ---- the map of samples

key-step : (h : ℕ) (v : ℤ) (q : ℕ × ℤ) → is_eq (by_key (h, v) q) ≡ ((q.0 == h) && is_eq (int_cmp v q.1))
key-step h v q = sym (tied_then (nat_cmp h q.0) (int_cmp v q.1)) ∙ ap (λ b. b && is_eq (int_cmp v q.1)) (by_test (cases_Bool (q.0 == h)))
  where
    by_order : (o : Ordering) → o ≡ nat_cmp h q.0 → (q.0 == h) ≡ false → is_eq o ≡ false
    by_order Less is other = refl
    by_order Equal is other = absurd (let e = eq-eqb q.0 h (sym (ranked h q.0 Equal is)) in cc)
    by_order Greater is other = refl

    by_test : ((q.0 == h) ≡ true) ⊎ ((q.0 == h) ≡ false) → is_eq (nat_cmp h q.0) ≡ (q.0 == h)
    by_test (inl own) = ap is_eq (sym (nat_cmp_is h q.0 Equal (sym (eqb-true q.0 h own)))) ∙ sym own
    by_test (inr other) = by_order (nat_cmp h q.0) refl other ∙ sym other

any-keys : (h : ℕ) (v : ℤ) (es : List Entry)
    → list_any (is_at (by_key (h, v))) (keys_of es) ≡ list_any (λ (e : Entry). (e.0.0 == h) && is_eq (int_cmp v e.0.1)) es
any-keys h v [] = refl
any-keys h v (e ∷ es) = λ i. key-step h v e.0 i || any-keys h v es i

-- the map has a key exactly if a sample with that key is held
pub known-is : (h : ℕ) (v : ℤ) (es : List Entry)
    → is_some (lookup (is_at (by_key (h, v))) es) ≡ list_any (λ (e : Entry). is_eq (int_cmp v e.0.1)) (filter (of h) es)
known-is h v es =
    is_some-lookup (is_at (by_key (h, v))) es
    ∙ (any-keys h v es ∙ sym (any-filter (λ (e : Entry). is_eq (int_cmp v e.0.1)) (of h) es))

-- and so exactly if the sample comes after another one of its histogram and value
pub holds-later : (words samples : List ℕ) (reader : Samples) (r : ℕ) → HoldsSamples words samples reader
    → holds_sample reader (sample_entry words r) ≡ is_later words (samples, r)
holds-later words samples reader r holds =
    ap (list_any (λ (e : Entry). is_eq (by_entry_value (sample_entry words r) e))) (holds (sample_histogram words r))
    ∙ (any-map (λ (e : Entry). is_eq (by_entry_value (sample_entry words r) e)) (sample_entry words) (first_samples words samples (sample_histogram words r))
    ∙ (any-fold tied (by_value words) same [] (filter (λ s. sample_histogram words s == sample_histogram words r) samples)
    ∙ any-filter tied (λ s. sample_histogram words s == sample_histogram words r) samples))
  where
    tied : ℕ → Bool
    tied other = is_eq (by_value words r other)

    same : (a b : ℕ) → by_value words a b ≡ Equal → tied a ≡ tied b
    same a b equal = ap (λ (v : ℤ). is_eq (int_cmp (sample_value words r) v)) (int_ranked (sample_value words a) (sample_value words b) Equal (sym equal))

-- ---- the later samples, with one more record

-- a record that is no sample without a fault adds none
pub later-same : (words : List ℕ) (head : SegmentHead) (earlier : List ℕ) (r : ℕ)
    → lawful_samples words head (earlier ++ r ∷ []) ≡ lawful_samples words head earlier
    → later_samples words head (earlier ++ r ∷ []) ≡ later_samples words head earlier
later-same words head earlier r same = ap (λ samples. map (λ placed. placed.1) (filter (is_later words) (with_earlier samples))) same

-- a sample without a fault adds itself if it is a later one
pub later-push : (words : List ℕ) (head : SegmentHead) (earlier : List ℕ) (r : ℕ) → is_sample words head (earlier, r) ≡ true
    → later_samples words head (earlier ++ r ∷ [])
    ≡ later_samples words head earlier ++ cond (is_later words (lawful_samples words head earlier, r)) (r ∷ []) []
later-push words head earlier r one =
    ap (λ samples. map (λ placed. placed.1) (filter (is_later words) (with_earlier samples))) (samples-push words head earlier r one)
    ∙ (ap (λ placed. map (λ placed. placed.1) (filter (is_later words) placed)) (with_earlier-push samples r)
    ∙ (ap (map (λ placed. placed.1)) (filter-append (is_later words) (with_earlier samples) ((samples, r) ∷ []))
    ∙ (map-append (λ placed. placed.1) (filter (is_later words) (with_earlier samples)) (filter (is_later words) ((samples, r) ∷ []))
    ∙ ap (λ more. later_samples words head earlier ++ more) (by_test (is_later words (samples, r))))))
  where
    samples : List ℕ
    samples = lawful_samples words head earlier

    by_test : (b : Bool) → map (λ (placed : List ℕ × ℕ). placed.1) (cond b ((samples, r) ∷ []) []) ≡ cond b (r ∷ []) []
    by_test true = refl
    by_test false = refl
