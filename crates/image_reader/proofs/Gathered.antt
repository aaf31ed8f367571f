-- What a reader has gathered, with one more record.
use Rattle.std.proofs.Common.{◌≡◌, Bool, true, false, cond, not, ◌||◌, ◌&&◌, ◌==◌, if◌then◌else◌, ℕ, ◌<◌, List, [], ◌∷◌, ◌++◌, map, length, get_or, set, Option, Some, None, inl, inr, refl, ap, sym, ◌∙◌, get_or-set_other, get_or-set_same}
use Rattle.std.specs.Prelude.{is_none, option_map}
use Rattle.std.specs.List.{filter, filter_map, list_any, cons_option, fold}
use Rattle.std.specs.Str.{bytes_eq}
use Rattle.std.specs.BTreeSet.{insert_key}
use Rattle.std.specs.Ordering.{match_ordering}
use Rattle.std.specs.declared.cmp.Ordering.{Ordering}
use Rattle.std.specs.declared.cmp.Ordering.TheVariants.{Less, Equal, Greater}
use Rattle.std.proofs.lemmas.Bool.{cases_eq, eq-eqb, ne_eqb}
use Rattle.std.proofs.Math.Bool.{or-false, or-true}
use Rattle.std.proofs.lemmas.List.Elements.{filter-append, filter_map-append}
use Rattle.std.proofs.lemmas.List.{map-append, append-nil}
use Rattle.std.proofs.lemmas.List.Sums.{fold-append}
use Rattle.segment_image.specs.Blocks.{field_at}
use Rattle.segment_image.specs.declared.head.SegmentHead.{SegmentHead}
use Rattle.bucket_ranges.specs.declared.reading.RecordFault.{RecordFault}
use Rattle.bucket_ranges.specs.declared.reading.RecordFault.TheVariants.{BadSample}
use Rattle.bucket_ranges.specs.Reading.{record_fault, histogram_records, lawful_records, read_records, first_of_each, same_name, bad_record, fault_behind, with_earlier, is_sample, is_bad_sample, is_sparse, is_sparse_read, lawful_samples, first_samples, by_value, name_of}
use Rattle.bucket_ranges.proofs.Firsts.{first_of_each-push}
use Rattle.bucket_ranges.proofs.Earlier.{with_earlier-push}
use Rattle.image_reader.specs.declared.reading.BadRecord.{BadRecord}
use Rattle.image_reader.specs.Views.{bad_view}
use Rattle.image_reader.specs.Samples.{Entry, by_entry_value, sample_entry}
use Rattle.image_reader.proofs.Marks.{list_any-push}

-- ---- lists with one more element

-- one more element that passes a filter
filter-push_kept : {X : Type 0} (p : X → Bool) (xs : List X) (y : X) → p y ≡ true → filter p (xs ++ y ∷ []) ≡ filter p xs ++ y ∷ []
filter-push_kept p xs y passes = filter-append p xs (y ∷ []) ∙ ap (λ b. filter p xs ++ cond b (y ∷ []) []) passes

-- one more element that does not
filter-push_dropped : {X : Type 0} (p : X → Bool) (xs : List X) (y : X) → p y ≡ false → filter p (xs ++ y ∷ []) ≡ filter p xs
filter-push_dropped p xs y fails =
    filter-append p xs (y ∷ []) ∙ (ap (λ b. filter p xs ++ cond b (y ∷ []) []) fails ∙ append-nil (filter p xs))

-- one more element, for which h gives something, or nothing
filter_map-push : {X Y : Type 0} (h : X → Option Y) (xs : List X) (y : X) (o : Option Y) → h y ≡ o
    → filter_map h (xs ++ y ∷ []) ≡ filter_map h xs ++ cons_option o []
filter_map-push h xs y o e = filter_map-append h xs (y ∷ []) ∙ ap (λ p. filter_map h xs ++ cons_option p []) e

-- ---- the histograms, with one more record

-- a record without a fault is among the valid ones
pub lawful-push : (words : List ℕ) (head : SegmentHead) (references : List ℕ) (reference : ℕ)
    → (field_at words reference 2 == 1) ≡ true → record_fault words head reference ≡ None
    → lawful_records words head (references ++ reference ∷ []) ≡ lawful_records words head references ++ reference ∷ []
lawful-push words head references reference typed none =
    ap (filter (λ r. is_none (record_fault words head r))) (filter-push_kept (λ r. field_at words r 2 == 1) references reference typed)
    ∙ filter-push_kept (λ r. is_none (record_fault words head r)) (histogram_records words references) reference (ap is_none none)

-- a record with a fault is not
pub unlawful-push : (words : List ℕ) (head : SegmentHead) (references : List ℕ) (reference : ℕ) (fault : RecordFault)
    → (field_at words reference 2 == 1) ≡ true → record_fault words head reference ≡ Some fault
    → lawful_records words head (references ++ reference ∷ []) ≡ lawful_records words head references
unlawful-push words head references reference fault typed found =
    ap (filter (λ r. is_none (record_fault words head r))) (filter-push_kept (λ r. field_at words r 2 == 1) references reference typed)
    ∙ filter-push_dropped (λ r. is_none (record_fault words head r)) (histogram_records words references) reference (ap is_none found)

-- nor is a record of another type
pub other-push : (words : List ℕ) (head : SegmentHead) (references : List ℕ) (reference : ℕ)
    → (field_at words reference 2 == 1) ≡ false
    → lawful_records words head (references ++ reference ∷ []) ≡ lawful_records words head references
other-push words head references reference other =
    ap (filter (λ r. is_none (record_fault words head r))) (filter-push_dropped (λ r. field_at words r 2 == 1) references reference other)

-- if the valid records are unchanged, those that are read are unchanged
pub read-same : (words : List ℕ) (head : SegmentHead) (old new : List ℕ)
    → lawful_records words head new ≡ lawful_records words head old → read_records words head new ≡ read_records words head old
read-same words head old new same = ap (first_of_each (same_name words)) same

-- a valid record is read if none before it has its name
pub read-push : (words : List ℕ) (head : SegmentHead) (references : List ℕ) (reference : ℕ)
    → (field_at words reference 2 == 1) ≡ true → record_fault words head reference ≡ None
    → read_records words head (references ++ reference ∷ [])
    ≡ read_records words head references
    ++ (if list_any (λ x. same_name words x reference) (lawful_records words head references) then [] else reference ∷ [])
read-push words head references reference typed none =
    ap (first_of_each (same_name words)) (lawful-push words head references reference typed none)
    ∙ first_of_each-push (same_name words) (lawful_records words head references) reference

-- the names of the valid records
pub names-push : (words : List ℕ) (head : SegmentHead) (references : List ℕ) (reference : ℕ) (name : List ℕ)
    → (field_at words reference 2 == 1) ≡ true → record_fault words head reference ≡ None
    → list_any (λ r. bytes_eq name (name_of words r)) (lawful_records words head (references ++ reference ∷ []))
    ≡ (list_any (λ r. bytes_eq name (name_of words r)) (lawful_records words head references) || bytes_eq name (name_of words reference))
names-push words head references reference name typed none =
    ap (list_any (λ r. bytes_eq name (name_of words r))) (lawful-push words head references reference typed none)
    ∙ list_any-push (λ r. bytes_eq name (name_of words r)) (lawful_records words head references) reference

-- where sparse histograms are read, with one more that is read
pub sparse-push : (words : List ℕ) (head : SegmentHead) (references : List ℕ) (reference h : ℕ)
    → read_records words head (references ++ reference ∷ []) ≡ read_records words head references ++ reference ∷ []
    → is_sparse_read words head (references ++ reference ∷ []) h
    ≡ (is_sparse_read words head references h || ((reference == h) && is_sparse words reference))
sparse-push words head references reference h more =
    ap (list_any (λ r. (r == h) && is_sparse words r)) more
    ∙ list_any-push (λ r. (r == h) && is_sparse words r) (read_records words head references) reference

-- the marks of where they are, with that of one more
pub marked-sparse : (marks : List Bool) (reference h : ℕ) (old : Bool) → reference < length marks
    → get_or marks h false ≡ old
    → get_or (set marks reference true) h false ≡ (old || ((reference == h) && true))
marked-sparse marks reference h old within is = elim (cases_eq h reference) [
  | inl same ↦
      let mine : (reference == h) ≡ true = eq-eqb reference h (sym same) in
      let marked : get_or (set marks reference true) h false ≡ true = rw same (get_or-set_same marks reference true false within) in
      marked ∙ sym (ap (λ b. old || (b && true)) mine ∙ or-true old)
  | inr other ↦
      let mine : (reference == h) ≡ false = ne_eqb reference h (λ e. other (sym e)) in
      get_or-set_other marks reference h true false other ∙ (is ∙ sym (ap (λ b. old || (b && true)) mine ∙ or-false old))
]

-- nothing and something else is nothing
and-false : (b : Bool) → (b && false) ≡ false
and-false true = refl
and-false false = refl

-- and without one more
pub unmarked-sparse : (reference h : ℕ) (old sparse : Bool) → sparse ≡ false → old ≡ (old || ((reference == h) && sparse))
unmarked-sparse reference h old sparse e =
    sym (ap (λ b. old || ((reference == h) && b)) e ∙ (ap (λ b. old || b) (and-false (reference == h)) ∙ or-false old))

-- ---- the faults and the samples, with one more record

pub bad-push : (words : List ℕ) (head : SegmentHead) (references : List ℕ) (reference : ℕ) (o : Option (ℕ × RecordFault))
    → bad_record words head (references, reference) ≡ o
    → filter_map (bad_record words head) (with_earlier (references ++ reference ∷ []))
    ≡ filter_map (bad_record words head) (with_earlier references) ++ cons_option o []
bad-push words head references reference o e =
    ap (filter_map (bad_record words head)) (with_earlier-push references reference)
    ∙ filter_map-push (bad_record words head) (with_earlier references) (references, reference) o e

-- one without a fault
pub bad-none : (words : List ℕ) (head : SegmentHead) (references : List ℕ) (reference : ℕ) (bad : List BadRecord)
    → map bad_view bad ≡ filter_map (bad_record words head) (with_earlier references)
    → fault_behind words head references reference ≡ None
    → map bad_view bad ≡ filter_map (bad_record words head) (with_earlier (references ++ reference ∷ []))
bad-none words head references reference bad so_far none =
    so_far
    ∙ (sym (append-nil (filter_map (bad_record words head) (with_earlier references)))
    ∙ sym (bad-push words head references reference None (ap (option_map (λ f. (reference, f))) none)))

-- one with a fault
pub bad-some : (words : List ℕ) (head : SegmentHead) (references : List ℕ) (reference : ℕ) (bad : List BadRecord) (fault : RecordFault)
    → map bad_view bad ≡ filter_map (bad_record words head) (with_earlier references)
    → fault_behind words head references reference ≡ Some fault
    → map bad_view (bad ++ record { reference = reference; fault = fault } ∷ [])
    ≡ filter_map (bad_record words head) (with_earlier (references ++ reference ∷ []))
bad-some words head references reference bad fault so_far found =
    map-append bad_view bad (record { reference = reference; fault = fault } ∷ [])
    ∙ (ap (λ bs. bs ++ (reference, fault) ∷ []) so_far
    ∙ sym (bad-push words head references reference (Some (reference, fault)) (ap (option_map (λ f. (reference, f))) found)))

fault-by : (histogram sample bad : Bool) (found : Option RecordFault) → histogram ≡ true
    → (if histogram then found else (if sample && bad then Some BadSample else None)) ≡ found
fault-by true sample bad found e = refl
fault-by false sample bad found e = absurd (cc)

-- the fault of a histogram's record
pub fault_behind-histogram : (words : List ℕ) (head : SegmentHead) (earlier : List ℕ) (reference : ℕ)
    → (field_at words reference 2 == 1) ≡ true → fault_behind words head earlier reference ≡ record_fault words head reference
fault_behind-histogram words head earlier reference typed =
    fault-by (field_at words reference 2 == 1) (field_at words reference 2 == 3) (is_bad_sample words head earlier reference)
    (record_fault words head reference) typed

sample-by : (histogram sample bad : Bool) (found : Option RecordFault) → histogram ≡ false → sample ≡ true
    → (if histogram then found else (if sample && bad then Some BadSample else None)) ≡ (if bad then Some BadSample else None)
sample-by true sample bad found e f = absurd (cc)
sample-by false true bad found e f = refl
sample-by false false bad found e f = absurd (cc)

-- the fault of a sample's record
pub fault_behind-sample : (words : List ℕ) (head : SegmentHead) (earlier : List ℕ) (reference : ℕ) (bad : Bool)
    → (field_at words reference 2 == 1) ≡ false → (field_at words reference 2 == 3) ≡ true
    → is_bad_sample words head earlier reference ≡ bad
    → fault_behind words head earlier reference ≡ (if bad then Some BadSample else None)
fault_behind-sample words head earlier reference bad other typed is =
    sample-by (field_at words reference 2 == 1) (field_at words reference 2 == 3) (is_bad_sample words head earlier reference)
    (record_fault words head reference) other typed
    ∙ ap (λ b. if b then Some BadSample else None) is

other-by : (histogram sample bad : Bool) (found : Option RecordFault) → histogram ≡ false → sample ≡ false
    → (if histogram then found else (if sample && bad then Some BadSample else None)) ≡ None
other-by true sample bad found e f = absurd (cc)
other-by false true bad found e f = absurd (cc)
other-by false false bad found e f = refl

-- the fault of a record of another type
pub fault_behind-other : (words : List ℕ) (head : SegmentHead) (earlier : List ℕ) (reference : ℕ)
    → (field_at words reference 2 == 1) ≡ false → (field_at words reference 2 == 3) ≡ false
    → fault_behind words head earlier reference ≡ None
fault_behind-other words head earlier reference a b =
    other-by (field_at words reference 2 == 1) (field_at words reference 2 == 3) (is_bad_sample words head earlier reference)
    (record_fault words head reference) a b

-- the samples with one more record that is no sample
pub samples-same : (words : List ℕ) (head : SegmentHead) (references : List ℕ) (reference : ℕ)
    → is_sample words head (references, reference) ≡ false
    → lawful_samples words head (references ++ reference ∷ []) ≡ lawful_samples words head references
samples-same words head references reference none =
    ap (λ ps. map (λ placed. placed.1) (filter (is_sample words head) ps)) (with_earlier-push references reference)
    ∙ ap (map (λ placed. placed.1)) (filter-push_dropped (is_sample words head) (with_earlier references) (references, reference) none)

-- and with one more sample
pub samples-push : (words : List ℕ) (head : SegmentHead) (references : List ℕ) (reference : ℕ)
    → is_sample words head (references, reference) ≡ true
    → lawful_samples words head (references ++ reference ∷ []) ≡ lawful_samples words head references ++ reference ∷ []
samples-push words head references reference one =
    ap (λ ps. map (λ placed. placed.1) (filter (is_sample words head) ps)) (with_earlier-push references reference)
    ∙ (ap (map (λ placed. placed.1)) (filter-push_kept (is_sample words head) (with_earlier references) (references, reference) one)
    ∙ map-append (λ placed. placed.1) (filter (is_sample words head) (with_earlier references)) ((references, reference) ∷ []))

not-typed : (typed bad : Bool) → typed ≡ false → (typed && not bad) ≡ false
not-typed true bad e = absurd (cc)
not-typed false bad e = refl

-- a record of another type is no sample
pub is_sample-other : (words : List ℕ) (head : SegmentHead) (earlier : List ℕ) (reference : ℕ)
    → (field_at words reference 2 == 3) ≡ false → is_sample words head (earlier, reference) ≡ false
is_sample-other words head earlier reference other =
    not-typed (field_at words reference 2 == 3) (is_bad_sample words head earlier reference) other

-- a sample's record is a sample if it is not bad
pub is_sample-from : (words : List ℕ) (head : SegmentHead) (earlier : List ℕ) (reference : ℕ) (bad : Bool)
    → (field_at words reference 2 == 3) ≡ true → is_bad_sample words head earlier reference ≡ bad
    → is_sample words head (earlier, reference) ≡ not bad
is_sample-from words head earlier reference bad typed is = λ i. typed i && not (is i)

-- the entries of samples are put in the same order as the samples
entries-step : (f : ℕ → Entry) (o : Ordering) (y x : ℕ) (rest put : List ℕ) (entries : List Entry) → map f put ≡ entries
    → map f (match_ordering o (y ∷ x ∷ rest) (x ∷ rest) (x ∷ put))
    ≡ match_ordering o (f y ∷ f x ∷ map f rest) (f x ∷ map f rest) (f x ∷ entries)
entries-step f Less y x rest put entries same = refl
entries-step f Equal y x rest put entries same = refl
entries-step f Greater y x rest put entries same = ap (λ xs. f x ∷ xs) same

map-insert : (words : List ℕ) (xs : List ℕ) (y : ℕ)
    → map (sample_entry words) (insert_key (by_value words) xs y) ≡ insert_key by_entry_value (map (sample_entry words) xs) (sample_entry words y)
map-insert words [] y = refl
map-insert words (x ∷ xs) y =
    entries-step (sample_entry words) (by_value words y x) y x xs (insert_key (by_value words) xs y)
    (insert_key by_entry_value (map (sample_entry words) xs) (sample_entry words y)) (map-insert words xs y)

first-by : (words : List ℕ) (samples : List ℕ) (reference : ℕ) (mine : Bool) (kept : List ℕ)
    → map (sample_entry words) (fold (insert_key (by_value words)) [] (kept ++ cond mine (reference ∷ []) []))
    ≡ (if mine then insert_key by_entry_value (map (sample_entry words) (fold (insert_key (by_value words)) [] kept)) (sample_entry words reference)
    else map (sample_entry words) (fold (insert_key (by_value words)) [] kept))
first-by words samples reference true kept =
    ap (map (sample_entry words)) (fold-append (insert_key (by_value words)) [] kept (reference ∷ []))
    ∙ map-insert words (fold (insert_key (by_value words)) [] kept) reference
first-by words samples reference false kept =
    ap (λ xs. map (sample_entry words) (fold (insert_key (by_value words)) [] xs)) (append-nil kept)

-- the first samples of a histogram with one more sample
pub first_samples-push : (words : List ℕ) (head : SegmentHead) (references : List ℕ) (reference h : ℕ)
    → is_sample words head (references, reference) ≡ true
    → map (sample_entry words) (first_samples words (lawful_samples words head (references ++ reference ∷ [])) h)
    ≡ (if field_at words reference 4 == h
    then insert_key by_entry_value (map (sample_entry words) (first_samples words (lawful_samples words head references) h)) (sample_entry words reference)
    else map (sample_entry words) (first_samples words (lawful_samples words head references) h))
first_samples-push words head references reference h one =
    ap (λ samples. map (sample_entry words) (first_samples words samples h)) (samples-push words head references reference one)
    ∙ (ap (λ xs. map (sample_entry words) (fold (insert_key (by_value words)) [] xs))
    (filter-append (λ sample. field_at words sample 4 == h) (lawful_samples words head references) (reference ∷ []))
    ∙ first-by words (lawful_samples words head references) reference (field_at words reference 4 == h)
    (filter (λ sample. field_at words sample 4 == h) (lawful_samples words head references)))
