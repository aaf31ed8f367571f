-- The records of an image are kept in its anatomy: its `records`, and those that are passed over.
use Rattle.segment_invariant.proofs.Prelude.Std.{◌≡◌, ◌≢◌, Bool, true, ℕ, ◌^◌, ◌<◌, ◌≤◌, ℤ, List, [], ◌∷◌, ◌++◌, map, length, take, All, Contains, refl, sym, ap, ◌∙◌, subst, Some, if◌then◌else◌, take-append_seam, some, none, get_elem?, at_from}
use Rattle.segment_invariant.proofs.Prelude.Machine.{field_at, head_of, Spec, name_of, sample_value, IsListed, Reading, reading_along, units_in}
use Rattle.segment_invariant.proofs.Prelude.Invariant.{Record, Counts, Sample, counts, Listed, Anatomy, form_at, Stands, HasRecord, HasCounts, HasSample, IsFirst, IsFirstOf, IsLawfulRecord, IsCountsOf, CountsNothing, RecordsAreKept}
use Rattle.bucket_ranges.specs.declared.spec.Spec.TheVariants as spec
use Rattle.segment_machine.specs.declared.actor.Made.TheVariants as made
use Rattle.segment_invariant.specs.Invariant.{IsLawfulSample}
use Rattle.list_lemmas.proofs.Elements.{split_map}
use Rattle.segment_promises.specs.Adoption.{IsAdoptable}
use Rattle.segment_promises.proofs.Adopting.Bodies.{record_at, counts_at, other_at}
use Rattle.segment_promises.proofs.Adopting.Opened.Anatomy.{listed_at, opened}
use Rattle.segment_promises.proofs.Adopting.Opened.Blocks.{is_read, there_by_test}
use Rattle.segment_promises.proofs.Adopting.Opened.Lawful.{is_lawful, packed_small, are_counts}
use Rattle.segment_promises.proofs.Adopting.Opened.Names.{read, read_body, first_read, one_read}
use Rattle.segment_promises.proofs.Adopting.Opened.Pieces.{is_record, is_sample, is_counts, listed_body, owned_body}
use Rattle.segment_promises.proofs.Adopting.Opened.Values.{listed_sample, value_first, lawful_sample, its_first}

-- where an element is in a list, by what is before it
pub split_place : (xs ys : List ℕ) (x : ℕ) (l : List ℕ) → l ≡ xs ++ x ∷ ys → (get_elem? l (length xs) ≡ some x) × (take (length xs) l ≡ xs)
split_place xs ys x l is = (ap (λ (l : List ℕ). get_elem? l (length xs)) is ∙ at_end xs, ap (take (length xs)) is ∙ take-append_seam xs (x ∷ ys))
  where
    at_end : (xs : List ℕ) → get_elem? (xs ++ x ∷ ys) (length xs) ≡ some x
    at_end [] = refl
    at_end (z ∷ zs) = at_end zs

module _ (words references : List ℕ) (reading : Reading) (narrow : All (λ word. word < 2 ^ 64) words) (listed : IsListed words (head_of words) references)
    (reads : reading ≡ reading_along words (head_of words) references) (adoptable : IsAdoptable words references reading) where
  abbrev its : Anatomy
  its = opened words references reading narrow listed reads adoptable

  -- a record that is read is there as what its words say, and so are the counts that it names
  pub has_record : (at : ℕ) → Contains references at → field_at words at 2 ≡ 1 → is_read words references at ≡ true → HasRecord its.pieces at (record_at words at)
  has_record at there one first =
      subst (Stands its.pieces at none) (read_body words references reading narrow listed reads adoptable at one first)
      (listed_body words references reading narrow listed reads adoptable at there)

  pub has_counts : (at : ℕ) → Contains references at → field_at words at 2 ≡ 1 → is_read words references at ≡ true → field_at words at 8 ≢ 0
      → HasCounts its.pieces (field_at words at 8) (counts_at words at (field_at words at 8))
  has_counts at there one first some_there =
      subst (Stands its.pieces (field_at words at 8) none)
      (ap (λ (b : Bool). if b then counts (counts_at words at (field_at words at 8)) else other_at words (field_at words at 8)) first)
      (owned_body words references reading narrow listed reads adoptable (field_at words at 8) at (record { there = there; one = one; some = some_there; is = refl }))

  -- the first record of a name of one that is read is that one
  pub same_read : (at place : ℕ) (kind : Spec) → is_read words references at ≡ true → IsFirst its.records (name_of words at) kind place → place ≡ at
  same_read at place kind first its_first =
      let (among, there, named, specified) = first_read words references reading narrow listed reads adoptable (name_of words at) kind place its_first in
      one_read words references reading narrow listed reads adoptable place at there
      (there_by_test (read words references reading narrow listed reads adoptable) at first) named

  lawful_there : (at : ℕ) (r : Record) → HasRecord its.pieces at r → IsLawfulRecord 2 (head_of words).shape.page r
  lawful_there at r has =
      let (there, one, first, is) = is_record words references reading narrow listed reads adoptable at r has in
      subst (IsLawfulRecord 2 (head_of words).shape.page) (sym is) (is_lawful words references reading narrow listed reads adoptable at there one)

  mounted_there : (at : ℕ) (r : Record) → HasRecord its.pieces at r → r.counts ≢ 0 → (c : Counts) × HasCounts its.pieces r.counts c × IsCountsOf 2 at r c
  mounted_there at r has =
      let (there, one, first, is) = is_record words references reading narrow listed reads adoptable at r has in
      subst (λ (r : Record). r.counts ≢ 0 → (c : Counts) × HasCounts its.pieces r.counts c × IsCountsOf 2 at r c) (sym is)
      (λ some_there. (
        counts_at words at (field_at words at 8),
        has_counts at there one first some_there,
        are_counts words references reading narrow listed reads adoptable at there one some_there,
      ))

  named_there : (at : ℕ) (c : Counts) → HasCounts its.pieces at c → (r : Record) × HasRecord its.pieces c.of r × (r.counts ≡ at)
  named_there at c has =
      let (owner, owns, first, is) = is_counts words references reading narrow listed reads adoptable at c has in
      subst (λ (c : Counts). (r : Record) × HasRecord its.pieces c.of r × (r.counts ≡ at)) (sym is)
      (record_at words owner, has_record owner owns.there owns.one first, owns.is)

  packed_there : (at : ℕ) (r : Record) → HasRecord its.pieces at r → r.counts ≡ 0 → r.mark ≤ units_in (form_at 2 r)
  packed_there at r has =
      let (there, one, first, is) = is_record words references reading narrow listed reads adoptable at r has in
      subst (λ (r : Record). r.counts ≡ 0 → r.mark ≤ units_in (form_at 2 r)) (sym is) (packed_small words references reading narrow listed reads adoptable at there one)

  sampled_there : (front behind : List Listed) (at of : ℕ) (value : ℤ) → its.records ≡ front ++ record { reference = at; made = Some (made.Sample of value) } ∷ behind
      → (name : List ℕ) × IsFirst front name spec.Sparse of × ((s : Sample) → HasSample its.pieces at s → s.name ≡ name)
  sampled_there front behind at of value split =
      let (xs, ys, place, is, before, here) = split_map (listed_at words references) references front behind _ split in
      let same : place ≡ at = ap (λ (l : Listed). l.reference) here in
      let sampled = listed_sample words references reading narrow listed reads adoptable place of value (ap (λ (l : Listed). l.made) here) in
      let (there, front_is) = split_place xs ys place references is in
      let first = its_first words references reading narrow listed reads adoptable (length xs) place there sampled.0 in (
        name_of words of,
        subst (λ (front : List Listed). IsFirst front (name_of words of) spec.Sparse of) (ap (map (listed_at words references)) front_is ∙ before)
            (subst (λ (of : ℕ). IsFirst (map (listed_at words references) (take (length xs) references)) (name_of words of) spec.Sparse of) sampled.1 first),
        (λ s has.
            let (among, three, sample_is) = is_sample words references reading narrow listed reads adoptable at s has in
            ap (λ (s : Sample). s.name) sample_is ∙ ap (name_of words) (ap (λ (at : ℕ). field_at words at 4) (sym same) ∙ sampled.1)),
      )

  later_there : (at place : ℕ) (r : Record) (kind : Spec) → HasRecord its.pieces at r → IsFirst its.records r.name kind place → place ≢ at → CountsNothing r
  later_there at place r kind has first apart =
      let (there, one, mine, is) = is_record words references reading narrow listed reads adoptable at r has in
      absurd (apart (same_read at place kind mine (subst (λ (r : Record). IsFirst its.records r.name kind place) is first)))

  later_samples_there : (at place : ℕ) (s : Sample) → HasSample its.pieces at s → IsFirstOf its.records s.of s.value place → place ≢ at
      → (s.units ≡ 0) × (s.mark ≡ 0)
  later_samples_there at place s has first apart =
      let (there, three, is) = is_sample words references reading narrow listed reads adoptable at s has in
      subst (λ (s : Sample). (s.units ≡ 0) × (s.mark ≡ 0)) (sym is)
      (adoptable.undamaged.later at place there three
      (value_first words references reading narrow listed reads adoptable (field_at words at 4) (sample_value words at) place
      (subst (λ (s : Sample). IsFirstOf its.records s.of s.value place) is first)) apart)

  pub records_kept : RecordsAreKept (head_of words).shape.page its
  records_kept = record {
    lawful = lawful_there;
    mounted = mounted_there;
    named = named_there;
    packed = packed_there;
    valued = λ at s has.
        let (there, three, is) = is_sample words references reading narrow listed reads adoptable at s has in
        let (k, here) = at_from references at there in
        subst IsLawfulSample (sym is) (lawful_sample words references reading narrow listed reads adoptable k at here three);
    sampled = sampled_there;
    later = later_there;
    later_samples = later_samples_there;
  }
