-- What a recorder that is alone has seen of a bucket, or of a value, is no less than what had been accepted; and what it has seen of a
-- mark was taken.
use Rattle.segment_invariant.proofs.Prelude.Std.{◌≡◌, ◌≢◌, ℕ, ◌+◌, ◌<◌, ◌≤◌, ℤ, pos, Some, None, length, ◌==◌, Contains, inl, inr, ⊎_elim, refl, sym, ap, ◌∙◌, subst, arith, false, slice_index, if◌then◌else◌, Decides-int_eq, All-contains, some, some-injective, get_elem?, sum_at_least}
use Rattle.segment_invariant.proofs.Prelude.Machine.{Dimensions, buckets_of, spec_fields, single_of, packed_bucket, units_packed, Actor, Known, Spent, Leads, tally_units, word_seen, bucket_key, accepted_by, all_counted, SawCount, is_opener, SawBucket, State}
use Rattle.segment_invariant.proofs.Prelude.Invariant.{Record, Sample, Body, histogram, counts, sample, words_of, Piece, Anatomy, form_at, key_of_bucket, at_bucket, keyed, marks_held, HasRecord, HasSample, IsFirstOf, WasFixed, IsRightlyKnown, IsAlone, Invariant}
use Rattle.bucket_ranges.specs.declared.spec.Spec.TheVariants as spec
use Rattle.segment_machine.specs.Note.{IsMarkOf}
use Rattle.segment_invariant.specs.Consistent.{units_taken}
use Rattle.segment_invariant.specs.Seen.{IsFixedIn}
use Rattle.segment_invariant.proofs.Frames.LaidOut.{laid_out}
use Rattle.segment_invariant.proofs.Blocks.Places.{fixed_within}
use Rattle.segment_invariant.proofs.Blocks.Pieces.{one_index}
use Rattle.segment_invariant.proofs.Walking.Words.{word_contains}
use Rattle.segment_invariant.proofs.Consistency.Keys.{no_packed}
use Rattle.segment_invariant.proofs.Consistency.Sums.{of_mine}
use Rattle.segment_invariant.proofs.Consistency.Firsts.{record_of_first, sample_of_first}
use Rattle.segment_invariant.proofs.Consistency.Books.{keyed_one, units_book, marks_book, value_held}
use Rattle.segment_invariant.proofs.Consistency.Totals.{sparse_kind}
use Rattle.segment_invariant.proofs.Counting.Held.{not_sparse}
use Rattle.segment_invariant.proofs.Counting.Seen.{known_stands, seen_leads, off_is, counter_most, mark_most}

-- the counts reference of a record is fixed if it is not 0
mounted_of : (r : Record) → IsFixedIn (histogram r) 8 → r.counts ≢ 0
mounted_of r (inl two) = absurd (omega (arith, two))
mounted_of r (inr (inl field)) = let below = field.1 in absurd (omega (arith, below))
mounted_of r (inr (inr (inl mounted))) = mounted.1
mounted_of r (inr (inr (inr behind))) = let from = behind.0 in absurd (omega (arith, from))

-- a word that packs a bucket leads to one that packs it too, or did
leads_packed : (version n old new bucket : ℕ) → (packed_bucket (single_of version n 0) ≡ None) → packed_bucket (single_of version n old) ≡ Some bucket
    → Leads version n old new → packed_bucket (single_of version n new) ≡ Some bucket
leads_packed version n old new bucket none is (inl same) = ap (λ (word : ℕ). packed_bucket (single_of version n word)) (sym same) ∙ is
leads_packed version n old new bucket none is (inr (inl empty)) =
    cc (sym none ∙ (ap (λ (word : ℕ). packed_bucket (single_of version n word)) (sym empty) ∙ is))
leads_packed version n old new bucket none is (inr (inr (on, same, more))) = same ∙ is

module _ (shape : Dimensions) (opened : Anatomy) (state : State) (kept : Invariant shape opened state) (id : ℕ) (a : Actor)
    (mine : get_elem? state.actors id ≡ some a) (lives : a.hand.place ≢ Spent) where
  -- counts that it saw are those of the record
  counts_are : (at place : ℕ) (r : Record) → HasRecord kept.anatomy.pieces at r → word_seen a.seen.words (at + 8) ≡ Some place
      → (place ≡ r.counts) × (r.counts ≢ 0)
  counts_are at place r (k, there) seen =
      let (from, j, body, (m, here), is, fixed, value) =
      All-contains (WasFixed kept.anatomy.pieces) a.seen.words _ (kept.each id a mine lives).sees.fixed (word_contains a.seen.words (at + 8) place seen) in
      let index = one_index shape state.words kept.anatomy kept.shown k m _ _ 8 j there here (omega arith) (fixed_within body j fixed) is in
      let same = some-injective _ _ (sym there ∙ (ap (get_elem? kept.anatomy.pieces) index ∙ here)) in
      let spot : at ≡ from = ap (λ (p : Piece). p.at) same in
      let word_is : j ≡ 8 = omega (arith, spot, is) in (
        sym value ∙ (λ i. slice_index (words_of (sym same i).body) (word_is i)),
        mounted_of r (subst (λ (p : Body × ℕ). IsFixedIn p.0 p.1) (λ i. ((sym same i).body, word_is i)) fixed),
      )

  -- a mark that it saw was taken
  pub mark_taken : (known : Known) (bucket at mark : ℕ) → Contains a.answers.names known → bucket < buckets_of known.spec → IsMarkOf a known bucket at
      → SawCount a at mark → mark ≤ units_taken state.actors known.name (bucket_key (Some known) bucket)
  mark_taken known bucket at mark has below where_at saw =
      let (r, stands, named, bounds, many) = known_stands shape opened state kept id a mine lives known has in
      let version = kept.anatomy.version in
      let key = key_of_bucket r.spec bucket in
      let within : bucket < buckets_of r.spec = omega (arith, below, many) in
      let all = kept.balanced.marks r.name key in
      let tally : units_taken state.actors r.name key ≡ units_taken state.actors known.name (bucket_key (Some known) bucket) =
      (λ i. units_taken state.actors (named i) (pos (slice_index (bounds i) bucket))) in
      let versioned = (kept.each id a mine lives).versioned in
      ⊎_elim
      (λ (word, single, packs, place).
      let (k, there) = stands in
      let most = counter_most shape opened state kept id a mine lives known.reference 10 mark (histogram r) stands (omega arith)
      (subst (λ n. SawCount a n mark) place saw) in
      let packed : packed_bucket (single_of version (buckets_of r.spec) word) ≡ Some bucket =
      (λ i. packed_bucket (single_of (sym versioned i) (many i) word)) ∙ packs in
      let present : packed_bucket (form_at version r) ≡ Some bucket =
      leads_packed version (buckets_of r.spec) word r.single bucket (no_packed version (buckets_of r.spec) 0 kept.versions refl) packed
      (seen_leads shape opened state kept id a mine lives known.reference word r stands single) in
      let held : marks_held version r.name key (histogram r) ≡ r.mark =
      of_mine r.name r.name _ refl
      ∙ (ap (λ p. at_bucket r.spec key p r.mark) present ∙ ap (λ b. if b then r.mark else 0) ((Decides-int_eq key key).1 refl)) in
      let least = sum_at_least (λ (p : Piece). marks_held version r.name key p.body) kept.anatomy.pieces k _ there in
      omega (arith, most, held, least, all, tally))
      (λ (place, seen, spot).
      let (where_is, some_counts) = counts_are known.reference place r stands seen in
      let (c, (k, here), of_it) = kept.records.mounted known.reference r stands some_counts in
      let units = of_it.units in
      let marks = of_it.marks in
      let here_at : at ≡ r.counts + 4 + length c.units + bucket = omega (arith, spot, where_is, units, many) in
      let most = mark_most shape opened state kept id a mine lives r.counts bucket mark c (k, here) (omega (arith, within, marks)) (subst (λ n. SawCount a n mark) here_at saw) in
      let held : marks_held version r.name key (counts c) ≡ slice_index c.marks bucket =
      of_mine c.name r.name _ of_it.named
      ∙ (ap (λ kind. keyed kind key c.marks) of_it.same
      ∙ keyed_one r.spec c.marks bucket (kept.records.lawful known.reference r stands).lawful (not_sparse r.spec bucket within) marks within) in
      let least = sum_at_least (λ (p : Piece). marks_held version r.name key p.body) kept.anatomy.pieces k _ here in
      omega (arith, most, held, least, all, tally))
      where_at

  -- the first sample of a value: what it saw of its count is counted, and what it saw of its mark was taken
  module _ (known : Known) (value : ℤ) (at : ℕ) (has : Contains a.answers.names known) (sparse : known.spec ≡ spec.Sparse)
      (first : IsFirstOf kept.anatomy.records known.reference value at) where
    abbrev knows : IsRightlyKnown kept.anatomy known
    knows = All-contains (IsRightlyKnown kept.anatomy) a.answers.names known (kept.each id a mine lives).names has

    record_is : (r : Record) × (HasRecord kept.anatomy.pieces known.reference r × (r.name ≡ known.name) × (r.spec ≡ knows.first_spec))
    record_is = record_of_first shape opened state.words (laid_out shape opened state kept) known.name knows.first_spec known.reference knows.first

    stands_sparse : record_is.0.spec ≡ spec.Sparse
    stands_sparse = record_is.1.2 ∙ sparse_kind knows.first_spec (ap (λ fields. slice_index fields 0 == 4) (knows.same.0 ∙ ap spec_fields sparse))

    sample_is : (s : Sample) × (HasSample kept.anatomy.pieces at s × (s.of ≡ known.reference) × (s.value ≡ value))
    sample_is = sample_of_first shape opened state.words (laid_out shape opened state kept) known.reference value at first

    pub sample_counted : (count : ℕ) → SawCount a (at + 6) count → count ≤ tally_units (all_counted state.actors) known.name value
    sample_counted count saw =
        let (s, (stands, of_it, valued)) = sample_is in
        let most = counter_most shape opened state kept id a mine lives at 6 count (sample s) stands (omega arith) saw in
        let held = value_held shape opened state.words (laid_out shape opened state kept) known.name knows.first_spec known.reference record_is.0 knows.first record_is.1.0 record_is.1.1 record_is.1.2 value _ _ _ _
        (units_book kept.anatomy.version known.name value kept.versions) stands_sparse at s first stands of_it valued in
        let all = kept.balanced.units known.name value in
        omega (arith, most, held, all)

    pub sample_taken : (mark : ℕ) → SawCount a (at + 7) mark → mark ≤ units_taken state.actors known.name value
    sample_taken mark saw =
        let (s, (stands, of_it, valued)) = sample_is in
        let most = counter_most shape opened state kept id a mine lives at 7 mark (sample s) stands (omega arith) saw in
        let held = value_held shape opened state.words (laid_out shape opened state kept) known.name knows.first_spec known.reference record_is.0 knows.first record_is.1.0 record_is.1.1 record_is.1.2 value _ _ _ _
        (marks_book kept.anatomy.version known.name value) stands_sparse at s first stands of_it valued in
        let all = kept.balanced.marks known.name value in
        omega (arith, most, held, all)

  -- if it is alone, what it saw of a bucket is no less than what had been accepted
  module _ (records : is_opener a.role ≡ false) (alone : IsAlone state.actors a) where
    pub bucket_owed : (known : Known) (bucket total : ℕ) → Contains a.answers.names known → bucket < buckets_of known.spec → SawBucket a known bucket total
        → tally_units (accepted_by a) known.name (bucket_key (Some known) bucket) ≤ total
    bucket_owed known bucket total has below (word, single, seen) =
        let fits = kept.each id a mine lives in
        let looks = fits.looks records in
        let (r, stands, named, bounds, many) = known_stands shape opened state kept id a mine lives known has in
        ⊎_elim
        (λ (on, is).
        let held = looks.packed known bucket word has below single on in
        let form : units_packed (single_of a.segment.version (buckets_of known.spec) word) bucket ≡ units_packed (single_of kept.anatomy.version (buckets_of known.spec) word) bucket =
        (λ i. units_packed (single_of (fits.versioned i) (buckets_of known.spec) word) bucket) in
        omega (arith, held, is, form))
        (λ (off, (place, count, seen_counts, counted, is)).
        let (where_is, some_counts) = counts_are known.reference place r stands seen_counts in
        let held = looks.counted known bucket count r has below stands some_counts (subst (λ n. SawCount a (n + 4 + bucket) count) where_is counted) (inr (inl alone)) in
        let same = off_is shape opened state kept id a mine lives known.reference word r stands single off in
        let form : units_packed (single_of a.segment.version (buckets_of known.spec) word) bucket ≡ units_packed (form_at kept.anatomy.version r) bucket =
        (λ i. units_packed (single_of (fits.versioned i) (sym many i) (same i)) bucket) in
        omega (arith, held, is, form))
        seen
