-- The first fault of a record, from what its checks found.
use Rattle.std.proofs.Common.{◌≡◌, Bool, true, false, not, ℕ, ◌+◌, ◌<◌, ◌≤◌, List, [], ◌∷◌, ◌++◌, map, None, get_or, inl, inr, refl, ap, sym, ◌∙◌, arith}
use Rattle.std.specs.List.{range_with_len, list_any}
use Rattle.std.proofs.lemmas.List.{map-id}
use Rattle.std.proofs.lemmas.List.FromFn.{get_or-range_with_len, length-range_with_len, get_or-map-range_with_len, length-map-range_with_len, map-range_with_len_more}
use Rattle.std.specs.Prelude.{nat_lt}
use Rattle.std.proofs.lemmas.List.Folds.{list_any_at}
use Rattle.std.proofs.lemmas.Bool.{lt-ltb, le-ltb, or_from, cases_lt, both_ways}
use Rattle.segment_image.specs.Checks.{first_fault}
use Rattle.segment_image.specs.Blocks.{field_at}
use Rattle.segment_image.specs.declared.head.SegmentHead.{SegmentHead}
use Rattle.bucket_ranges.specs.declared.reading.RecordFault.TheVariants.{BadKind, BadName, BadSpec, BadCounts, BadSingle, BadMark, BadSum}
use Rattle.bucket_ranges.specs.Reading.{Histogram, Reading, record_fault, record_single, is_bad_kind, has_name, is_bad_spec, is_bad_counts, has_large, is_bad_single, is_bad_mark, is_bad_sum, sum_of, sum_mark_of}
use Rattle.image_reader.proofs.Marks.{list_any-push}

-- what is known of a record without a fault
pub record IsSound (words : List ℕ) (head : SegmentHead) (at : ℕ) : Type 0 where
  pub kind : is_bad_kind words at ≡ false
  pub name : has_name words at ≡ true
  pub spec : is_bad_spec words head.shape.page at ≡ false
  pub counts : is_bad_counts words head at ≡ false

sound-name : (kind name spec counts single mark sum : Bool)
    → first_fault ((kind, BadKind) ∷ (not name, BadName) ∷ (spec, BadSpec) ∷ (counts, BadCounts) ∷ (single, BadSingle)
    ∷ (mark, BadMark) ∷ (sum, BadSum) ∷ []) ≡ None
    → (kind ≡ false) × (name ≡ true) × (spec ≡ false) × (counts ≡ false)
sound-name true name spec counts single mark sum e = absurd (cc)
sound-name false false spec counts single mark sum e = absurd (cc)
sound-name false true true counts single mark sum e = absurd (cc)
sound-name false true false true single mark sum e = absurd (cc)
sound-name false true false false single mark sum e = (refl, refl, refl, refl)

pub IsSound-from_none : (words : List ℕ) (head : SegmentHead) (at : ℕ) → record_fault words head at ≡ None
    → IsSound words head at
IsSound-from_none words head at none =
    let p = sound-name (is_bad_kind words at) (has_name words at) (is_bad_spec words head.shape.page at)
    (is_bad_counts words head at) (is_bad_single (record_single head.version words at) (field_at words at 8)) (is_bad_mark head.version words at)
    (is_bad_sum (sum_of words at) (sum_mark_of words at)) none in
    record { kind = p.0; name = p.1; spec = p.2; counts = p.3 }

-- ---- loops over buckets

-- an index that passes a test
pub any-at : (p : ℕ → Bool) (n i : ℕ) → i < n → p i ≡ true → list_any p (range_with_len 0 n) ≡ true
any-at p n i within passes =
    list_any_at p (range_with_len 0 n) i 0 (omega (arith, length-range_with_len 0 n))
    (let here : get_or (range_with_len 0 n) i 0 ≡ i = omega (arith, get_or-range_with_len 0 n i 0 within) in ap p here ∙ passes)

-- the indexes before a next one, and that one
pub range-more : (i : ℕ) → range_with_len 0 (i + 1) ≡ range_with_len 0 i ++ i ∷ []
range-more i =
    sym (map-id (range_with_len 0 (i + 1)))
    ∙ (map-range_with_len_more (λ k. k) 0 i i (omega arith) ∙ ap (λ xs. xs ++ i ∷ []) (map-id (range_with_len 0 i)))

-- one more index that does not
pub none-more : (p : ℕ → Bool) (i : ℕ) → list_any p (range_with_len 0 i) ≡ false → p i ≡ false
    → list_any p (range_with_len 0 (i + 1)) ≡ false
none-more p i none fails = rw (range-more i, list_any-push) (or_from _ _ none fails)

-- a total that is too large is one of the totals
pub has_large-at : (f : ℕ → ℕ) (n i : ℕ) → i < n → 4294967295 < f i → has_large (map f (range_with_len 0 n)) ≡ true
has_large-at f n i within large =
    list_any_at (λ total. nat_lt 4294967295 total) (map f (range_with_len 0 n)) i 0
    (omega (arith, length-map-range_with_len f 0 n))
    (rw (get_or-map-range_with_len f 0 n i i 0 within (omega arith)) (lt-ltb 4294967295 (f i) large))

-- one more total that is not too large
pub has_large-more : (f : ℕ → ℕ) (i : ℕ) → has_large (map f (range_with_len 0 i)) ≡ false → f i ≤ 4294967295
    → has_large (map f (range_with_len 0 (i + 1))) ≡ false
has_large-more f i none small =
    rw (map-range_with_len_more f 0 i i (omega arith), list_any-push) (or_from _ _ none (le-ltb 4294967295 (f i) small))

-- if there is no total that is too large, each total is small
pub small-at : (f : ℕ → ℕ) (n i : ℕ) → has_large (map f (range_with_len 0 n)) ≡ false → i < n → f i ≤ 4294967295
small-at f n i none within = elim (cases_lt 4294967295 (f i)) [
  | inl large ↦ absurd (both_ways _ none (has_large-at f n i within large))
  | inr small ↦ small
]

-- two histograms are the same if their fields are
pub same_histogram : (a b : Histogram) → a.reference ≡ b.reference → a.name ≡ b.name → a.spec ≡ b.spec
    → a.counts ≡ b.counts → a.marks ≡ b.marks → a.sum ≡ b.sum → a.sum_mark ≡ b.sum_mark → a.redundant ≡ b.redundant → a ≡ b
same_histogram a b r n s c m t u d = λ i. record {
  reference = r i;
  name = n i;
  spec = s i;
  counts = c i;
  marks = m i;
  sum = t i;
  sum_mark = u i;
  redundant = d i;
}

-- a loop that appends the values of a function of the index, one after the other
pub map-range-push : {X : Type 0} (f : ℕ → X) (i : ℕ) (old new : List X) (x : X) → old ≡ map f (range_with_len 0 i)
    → new ≡ old ++ x ∷ [] → x ≡ f i → new ≡ map f (range_with_len 0 (i + 1))
map-range-push f i old new x before pushed value =
    pushed ∙ (ap (λ xs. xs ++ x ∷ []) before ∙ (ap (λ y. map f (range_with_len 0 i) ++ y ∷ []) value
    ∙ sym (map-range_with_len_more f 0 i i (omega arith))))

-- two readings are the same if their fields are
pub same_reading : (a b : Reading) → a.id ≡ b.id → a.full ≡ b.full → a.corrupt ≡ b.corrupt → a.hists ≡ b.hists → a.bad ≡ b.bad
    → a.stopped ≡ b.stopped → a ≡ b
same_reading a b d f c h w s = λ i. record { id = d i; full = f i; corrupt = c i; hists = h i; bad = w i; stopped = s i }
