-- A gathering with one more record.
use Rattle.std.proofs.Common.{◌≡◌, Bool, true, false, ◌||◌, ◌&&◌, ◌==◌, if◌then◌else◌, ℕ, List, [], ◌∷◌, ◌++◌, get_or, Some, None, cond, refl, ap, sym, ◌∙◌}
use Rattle.std.specs.Prelude.{map}
use Rattle.std.specs.List.{list_any, filter_map}
use Rattle.image_reader.specs.Views.{bad_view}
use Rattle.std.specs.Str.{bytes_eq}
use Rattle.std.specs.BTreeSet.{insert_key}
use Rattle.std.proofs.lemmas.List.{append-nil}
use Rattle.std.proofs.lemmas.Bool.{eq-eqb}
use Rattle.segment_image.specs.Blocks.{field_at}
use Rattle.segment_image.specs.declared.head.SegmentHead.{SegmentHead}
use Rattle.bucket_ranges.specs.declared.reading.RecordFault.{RecordFault}
use Rattle.bucket_ranges.specs.declared.reading.RecordFault.TheVariants.{BadSample}
use Rattle.bucket_ranges.specs.Reading.{is_bad_sample_by, record_fault, lawful_records, read_records, same_name, is_sparse, is_bad_sample, lawful_samples, first_samples, name_of, bad_record, with_earlier}
use Rattle.image_reader.specs.declared.gathering.Gathering.{Gathering}
use Rattle.image_reader.specs.declared.sample.Samples.{Samples}
use Rattle.image_reader.specs.Samples.{by_entry_value, holds_sample, sample_entry, held}
use Rattle.image_reader.specs.Names.{holds}
use Rattle.image_reader.specs.Gathering.{IsGathered}
use Rattle.image_reader.specs.Later.{later_samples}
use Rattle.image_reader.proofs.Laters.{holds-later, later-push, later-same}
use Rattle.image_reader.proofs.Gathered.{unlawful-push, other-push, read-same, read-push, names-push, sparse-push, bad-none, bad-some, fault_behind-histogram, fault_behind-sample, fault_behind-other, samples-same, is_sample-other, is_sample-from, first_samples-push}

-- type 1 is not type 3
one-three : (words : List ℕ) (r : ℕ) → field_at words r 2 ≡ 1 → (field_at words r 2 == 3) ≡ false
one-three words r e = ap (λ t. t == 3) e

three-one : (words : List ℕ) (r : ℕ) → field_at words r 2 ≡ 3 → (field_at words r 2 == 1) ≡ false
three-one words r e = ap (λ t. t == 1) e

-- a name is known exactly if an earlier valid record has it
known-is : (words : List ℕ) (head : SegmentHead) (earlier : List ℕ) (g : Gathering) (r : ℕ) (name : List ℕ) (known : Bool)
    → IsGathered words head earlier g → name ≡ name_of words r → holds g.names name ≡ known
    → list_any (λ x. same_name words x r) (lawful_records words head earlier) ≡ known
known-is words head earlier g r name known so_far named is =
    sym (so_far.names_are (name_of words r)) ∙ (ap (holds g.names) (sym named) ∙ is)

-- the names with one more
names-more : (words : List ℕ) (head : SegmentHead) (earlier : List ℕ) (g new : Gathering) (r : ℕ) (name : List ℕ)
    → IsGathered words head earlier g → field_at words r 2 ≡ 1 → record_fault words head r ≡ None → name ≡ name_of words r
    → ((other : List ℕ) → holds new.names other ≡ (holds g.names other || bytes_eq other name))
    → (other : List ℕ) → holds new.names other
    ≡ list_any (λ reference. bytes_eq other (name_of words reference)) (lawful_records words head (earlier ++ r ∷ []))
names-more words head earlier g new r name so_far typed none named names other =
    names other
    ∙ ((λ i. so_far.names_are other i || bytes_eq other (named i))
    ∙ sym (names-push words head earlier r other (eq-eqb _ 1 typed) none))

-- a record of another type leaves the samples unchanged
samples-stay : (words : List ℕ) (head : SegmentHead) (earlier : List ℕ) (r : ℕ) (samples : Samples)
    → (field_at words r 2 == 3) ≡ false
    → ((h : ℕ) → held samples h ≡ map (sample_entry words) (first_samples words (lawful_samples words head earlier) h))
    → (h : ℕ) → held samples h ≡ map (sample_entry words) (first_samples words (lawful_samples words head (earlier ++ r ∷ [])) h)
samples-stay words head earlier r samples other so_far h =
    so_far h
    ∙ ap (λ ss. map (sample_entry words) (first_samples words ss h))
    (sym (samples-same words head earlier r (is_sample-other words head earlier r other)))

-- and the later samples too
later-stay : (words : List ℕ) (head : SegmentHead) (earlier : List ℕ) (r : ℕ) (later : List ℕ) → (field_at words r 2 == 3) ≡ false
    → later ≡ later_samples words head earlier → later ≡ later_samples words head (earlier ++ r ∷ [])
later-stay words head earlier r later other so_far =
    so_far ∙ sym (later-same words head earlier r (samples-same words head earlier r (is_sample-other words head earlier r other)))

-- a valid record whose name is known
pub IsGathered-known : (words : List ℕ) (head : SegmentHead) (earlier : List ℕ) (g new : Gathering) (r : ℕ) (name : List ℕ)
    → IsGathered words head earlier g → field_at words r 2 ≡ 1 → record_fault words head r ≡ None → name ≡ name_of words r
    → ((other : List ℕ) → holds new.names other ≡ (holds g.names other || bytes_eq other name))
    → holds g.names name ≡ true
    → new.hists.items ≡ g.hists.items → new.bad.items ≡ g.bad.items → new.sparse.items ≡ g.sparse.items
    → ((h : ℕ) → held new.samples h ≡ held g.samples h) → new.later.items ≡ g.later.items
    → IsGathered words head (earlier ++ r ∷ []) new
IsGathered-known words head earlier g new r name so_far typed none named names known hists bad sparse samples later =
    let one : (field_at words r 2 == 1) ≡ true = eq-eqb _ 1 typed in
    let same : read_records words head (earlier ++ r ∷ []) ≡ read_records words head earlier =
    read-push words head earlier r one none
    ∙ (ap (λ b. read_records words head earlier ++ (if b then [] else r ∷ [])) (known-is words head earlier g r name true so_far named known)
    ∙ append-nil (read_records words head earlier)) in
    record {
      hists_are = hists ∙ (so_far.hists_are ∙ sym same);
      bad_are = ap (map bad_view) bad
          ∙ bad-none words head earlier r g.bad.items so_far.bad_are (fault_behind-histogram words head earlier r one ∙ none);
      names_are = names-more words head earlier g new r name so_far typed none named names;
      sparse_are = λ h. ap (λ xs. get_or xs h false) sparse
          ∙ (so_far.sparse_are h ∙ ap (list_any (λ q. (q == h) && is_sparse words q)) (sym same));
      samples_are = samples-stay words head earlier r new.samples (one-three words r typed) (λ h. samples h ∙ so_far.samples_are h);
      later_are = later-stay words head earlier r new.later.items (one-three words r typed) (later ∙ so_far.later_are);
    }

-- one whose name is new
pub IsGathered-new : (words : List ℕ) (head : SegmentHead) (earlier : List ℕ) (g new : Gathering) (r : ℕ) (name : List ℕ)
    → IsGathered words head earlier g → field_at words r 2 ≡ 1 → record_fault words head r ≡ None → name ≡ name_of words r
    → ((other : List ℕ) → holds new.names other ≡ (holds g.names other || bytes_eq other name))
    → holds g.names name ≡ false
    → new.hists.items ≡ g.hists.items ++ r ∷ [] → new.bad.items ≡ g.bad.items
    → ((h : ℕ) → get_or new.sparse.items h false ≡ (get_or g.sparse.items h false || ((r == h) && is_sparse words r)))
    → ((h : ℕ) → held new.samples h ≡ held g.samples h) → new.later.items ≡ g.later.items
    → IsGathered words head (earlier ++ r ∷ []) new
IsGathered-new words head earlier g new r name so_far typed none named names unknown hists bad sparse samples later =
    let one : (field_at words r 2 == 1) ≡ true = eq-eqb _ 1 typed in
    let more : read_records words head (earlier ++ r ∷ []) ≡ read_records words head earlier ++ r ∷ [] =
    read-push words head earlier r one none
    ∙ ap (λ b. read_records words head earlier ++ (if b then [] else r ∷ [])) (known-is words head earlier g r name false so_far named unknown) in
    record {
      hists_are = hists ∙ (ap (λ hists. hists ++ r ∷ []) so_far.hists_are ∙ sym more);
      bad_are = ap (map bad_view) bad
          ∙ bad-none words head earlier r g.bad.items so_far.bad_are (fault_behind-histogram words head earlier r one ∙ none);
      names_are = names-more words head earlier g new r name so_far typed none named names;
      sparse_are = λ h. sparse h
          ∙ (ap (λ b. b || ((r == h) && is_sparse words r)) (so_far.sparse_are h) ∙ sym (sparse-push words head earlier r h more));
      samples_are = samples-stay words head earlier r new.samples (one-three words r typed) (λ h. samples h ∙ so_far.samples_are h);
      later_are = later-stay words head earlier r new.later.items (one-three words r typed) (later ∙ so_far.later_are);
    }

-- a record that adds nothing but a fault, or nothing at all
stays : (words : List ℕ) (head : SegmentHead) (earlier : List ℕ) (g new : Gathering) (r : ℕ)
    → IsGathered words head earlier g
    → lawful_records words head (earlier ++ r ∷ []) ≡ lawful_records words head earlier
    → map bad_view new.bad.items ≡ filter_map (bad_record words head) (with_earlier (earlier ++ r ∷ []))
    → lawful_samples words head (earlier ++ r ∷ []) ≡ lawful_samples words head earlier
    → new.hists.items ≡ g.hists.items → ((name : List ℕ) → holds new.names name ≡ holds g.names name)
    → new.sparse.items ≡ g.sparse.items → ((h : ℕ) → held new.samples h ≡ held g.samples h) → new.later.items ≡ g.later.items
    → IsGathered words head (earlier ++ r ∷ []) new
stays words head earlier g new r so_far lawful bad none hists names sparse samples later =
    let same = read-same words head earlier (earlier ++ r ∷ []) lawful in
    record {
      hists_are = hists ∙ (so_far.hists_are ∙ sym same);
      bad_are = bad;
      names_are = λ name. names name ∙ (so_far.names_are name ∙ ap (list_any (λ x. bytes_eq name (name_of words x))) (sym lawful));
      sparse_are = λ h. ap (λ xs. get_or xs h false) sparse
          ∙ (so_far.sparse_are h ∙ ap (list_any (λ q. (q == h) && is_sparse words q)) (sym same));
      samples_are = λ h. samples h
          ∙ (so_far.samples_are h ∙ ap (λ ss. map (sample_entry words) (first_samples words ss h)) (sym none));
      later_are = later ∙ (so_far.later_are ∙ sym (later-same words head earlier r none));
    }

-- a histogram's record with a fault
pub IsGathered-bad : (words : List ℕ) (head : SegmentHead) (earlier : List ℕ) (g new : Gathering) (r : ℕ) (fault : RecordFault)
    → IsGathered words head earlier g → field_at words r 2 ≡ 1 → record_fault words head r ≡ Some fault
    → new.bad.items ≡ g.bad.items ++ record { reference = r; fault = fault } ∷ []
    → new.hists.items ≡ g.hists.items → ((name : List ℕ) → holds new.names name ≡ holds g.names name)
    → new.sparse.items ≡ g.sparse.items → ((h : ℕ) → held new.samples h ≡ held g.samples h) → new.later.items ≡ g.later.items
    → IsGathered words head (earlier ++ r ∷ []) new
IsGathered-bad words head earlier g new r fault so_far typed found bad hists names sparse samples later =
    let one : (field_at words r 2 == 1) ≡ true = eq-eqb _ 1 typed in
    stays words head earlier g new r so_far (unlawful-push words head earlier r fault one found)
    (ap (map bad_view) bad
    ∙ bad-some words head earlier r g.bad.items fault so_far.bad_are (fault_behind-histogram words head earlier r one ∙ found))
    (samples-same words head earlier r (is_sample-other words head earlier r (one-three words r typed)))
    hists names sparse samples later

-- a sample's record with a fault
pub IsGathered-bad_sample : (words : List ℕ) (head : SegmentHead) (earlier : List ℕ) (g new : Gathering) (r : ℕ)
    → IsGathered words head earlier g → field_at words r 2 ≡ 3
    → is_bad_sample_by words r (get_or g.sparse.items (field_at words r 4) false) ≡ true
    → new.bad.items ≡ g.bad.items ++ record { reference = r; fault = BadSample } ∷ []
    → new.hists.items ≡ g.hists.items → ((name : List ℕ) → holds new.names name ≡ holds g.names name)
    → new.sparse.items ≡ g.sparse.items → ((h : ℕ) → held new.samples h ≡ held g.samples h) → new.later.items ≡ g.later.items
    → IsGathered words head (earlier ++ r ∷ []) new
IsGathered-bad_sample words head earlier g new r so_far typed is bad hists names sparse samples later =
    let three : (field_at words r 2 == 3) ≡ true = eq-eqb _ 3 typed in
    let worse : is_bad_sample words head earlier r ≡ true =
    ap (is_bad_sample_by words r) (sym (so_far.sparse_are (field_at words r 4))) ∙ is in
    stays words head earlier g new r so_far (other-push words head earlier r (three-one words r typed))
    (ap (map bad_view) bad
    ∙ bad-some words head earlier r g.bad.items BadSample so_far.bad_are
    (fault_behind-sample words head earlier r true (three-one words r typed) three worse))
    (samples-same words head earlier r (is_sample-from words head earlier r true three worse))
    hists names sparse samples later

-- a record of another type
pub IsGathered-other : (words : List ℕ) (head : SegmentHead) (earlier : List ℕ) (g : Gathering) (r : ℕ)
    → IsGathered words head earlier g → (field_at words r 2 == 1) ≡ false → (field_at words r 2 == 3) ≡ false
    → IsGathered words head (earlier ++ r ∷ []) g
IsGathered-other words head earlier g r so_far a b =
    stays words head earlier g g r so_far (other-push words head earlier r a)
    (bad-none words head earlier r g.bad.items so_far.bad_are (fault_behind-other words head earlier r a b))
    (samples-same words head earlier r (is_sample-other words head earlier r b))
    refl (λ name. refl) refl (λ h. refl) refl

-- a sample's record without a fault
pub IsGathered-sample : (words : List ℕ) (head : SegmentHead) (earlier : List ℕ) (g new : Gathering) (r : ℕ)
    → IsGathered words head earlier g → field_at words r 2 ≡ 3
    → is_bad_sample_by words r (get_or g.sparse.items (field_at words r 4) false) ≡ false
    → ((h : ℕ) → held new.samples h
    ≡ (if field_at words r 4 == h then insert_key by_entry_value (held g.samples h) (sample_entry words r) else held g.samples h))
    → new.bad.items ≡ g.bad.items → new.hists.items ≡ g.hists.items
    → ((name : List ℕ) → holds new.names name ≡ holds g.names name) → new.sparse.items ≡ g.sparse.items
    → new.later.items ≡ g.later.items ++ cond (holds_sample g.samples (sample_entry words r)) (r ∷ []) []
    → IsGathered words head (earlier ++ r ∷ []) new
IsGathered-sample words head earlier g new r so_far typed is samples bad hists names sparse later =
    let three : (field_at words r 2 == 3) ≡ true = eq-eqb _ 3 typed in
    let fine : is_bad_sample words head earlier r ≡ false =
    ap (is_bad_sample_by words r) (sym (so_far.sparse_are (field_at words r 4))) ∙ is in
    let lawful = other-push words head earlier r (three-one words r typed) in
    let same = read-same words head earlier (earlier ++ r ∷ []) lawful in
    record {
      hists_are = hists ∙ (so_far.hists_are ∙ sym same);
      bad_are = ap (map bad_view) bad
          ∙ bad-none words head earlier r g.bad.items so_far.bad_are
          (fault_behind-sample words head earlier r false (three-one words r typed) three fine);
      names_are = λ name. names name ∙ (so_far.names_are name ∙ ap (list_any (λ x. bytes_eq name (name_of words x))) (sym lawful));
      sparse_are = λ h. ap (λ xs. get_or xs h false) sparse
          ∙ (so_far.sparse_are h ∙ ap (list_any (λ q. (q == h) && is_sparse words q)) (sym same));
      samples_are = λ h. samples h
          ∙ (ap (λ es. if field_at words r 4 == h then insert_key by_entry_value es (sample_entry words r) else es) (so_far.samples_are h)
          ∙ sym (first_samples-push words head earlier r h (is_sample-from words head earlier r false three fine)));
      later_are = later
          ∙ ((λ i. so_far.later_are i ++ cond (holds-later words (lawful_samples words head earlier) g.samples r so_far.samples_are i) (r ∷ []) [])
          ∙ sym (later-push words head earlier r (is_sample-from words head earlier r false three fine)));
    }
