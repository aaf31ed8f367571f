-- What the blocks of words that are laid out hold of a bucket, and of a sparse value: of the records of a name only the first counts, with its
-- counts block and its first samples.
use Rattle.segment_invariant.proofs.Prelude.Std.{◌≡◌, ◌≢◌, ◌⊎◌, Bool, true, false, if◌then◌else◌, ℕ, zero, suc, ◌+◌, ◌<◌, ℤ, List, ◌∷◌, length, refl, sym, ap, subst, ◌∙◌, arith, Option, Some, None, slice_index, ◌==◌, range_with_len, int_eq, eqb-true, eqb-false, ne_eqb, Decides-int_eq, some, none, some-injective, some-ne-none, get_elem?, at_from, split_at, first_longer}
use Rattle.segment_invariant.proofs.Prelude.Machine.{Dimensions, Spec, buckets_of, spec_fault, packed_bucket, State, units_in}
use Rattle.segment_invariant.proofs.Prelude.Invariant.{Record, Counts, Sample, Body, queue, plain, held, histogram, counts, sample, other, Piece, Listed, Anatomy, form_at, of_name, at_bucket, keyed, key_of_bucket, units_held, marks_held, all_held, HasRecord, HasCounts, HasSample, IsRecordNamed, IsFirst, IsFirstOf, Invariant, CountsNothing}
use Rattle.bucket_ranges.specs.declared.spec.Spec.TheVariants as spec
use Rattle.segment_machine.specs.declared.actor.Made.TheVariants as made
use Rattle.list_lemmas.proofs.Firsts.{first_unique}
use Rattle.segment_invariant.specs.Words.{AreLaid}
use Rattle.segment_invariant.proofs.Frames.LaidOut.{laid_out}
use Rattle.segment_invariant.proofs.Blocks.Pieces.{one_piece, one_stands}
use Rattle.segment_invariant.proofs.Lists.FewTerms.{sum_none, sum_one, sum_pair}
use Rattle.segment_invariant.proofs.Consistency.Blocks.{claimed_piece}
use Rattle.segment_invariant.proofs.Consistency.Firsts.{record_of_first, first_value_there}
use Rattle.segment_invariant.proofs.Consistency.Keys.{key_test, at_no_bucket, no_units, no_packed}
use Rattle.segment_invariant.proofs.Consistency.Sums.{of_mine, nothing_of, published_at, other_nothing}

-- ---- lists

-- the numbers of a range
pub range_at : (a n j y : ℕ) → get_elem? (range_with_len a n) j ≡ some y → (y ≡ a + j) × (j < n)
range_at a zero j y there = absurd (some-ne-none y (sym there))
range_at a (suc n) zero y there = let e = some-injective a y there in (omega (arith, e), omega arith)
range_at a (suc n) (suc j) y there = let (e, lt) = range_at (a + 1) n j y there in (omega (arith, e), omega (arith, lt))

pub range_there : (a n j : ℕ) → j < n → get_elem? (range_with_len a n) j ≡ some (a + j)
range_there a zero j lt = absurd (omega (arith, lt))
range_there a (suc n) zero lt = let e : a ≡ a + 0 = omega arith in ap some e
range_there a (suc n) (suc j) lt = let e : a + 1 + j ≡ a + suc j = omega arith in range_there (a + 1) n j (omega (arith, lt)) ∙ ap some e

-- and for the key of a bucket they are that bucket's
pub keyed_one : (kind : Spec) (numbers : List ℕ) (i : ℕ) → spec_fault kind ≡ None → kind ≢ spec.Sparse → length numbers ≡ buckets_of kind → i < buckets_of kind
    → keyed kind (key_of_bucket kind i) numbers ≡ slice_index numbers i
keyed_one kind numbers i lawful bucketed long below =
    let test = key_test kind lawful bucketed i below in
    let start : 0 + i ≡ i = omega arith in
    sum_one (λ j. if int_eq (key_of_bucket kind j) (key_of_bucket kind i) then slice_index numbers j else 0) (range_with_len 0 (length numbers))
    i i (range_there 0 (length numbers) i (omega (arith, long, below)) ∙ ap some start)
    (λ j y there apart.
    let (same, within) = range_at 0 (length numbers) j y there in
    ap (λ (b : Bool). if b then slice_index numbers y else 0)
    (test y (omega (arith, same, within, long)) ∙ ne_eqb y i (λ e. apart (omega (arith, e, same)))))
    ∙ ap (λ (b : Bool). if b then slice_index numbers i else 0) ((Decides-int_eq (key_of_bucket kind i) (key_of_bucket kind i)).1 refl)

-- ---- books

-- what blocks hold of a name and a key: a number of a record's packed bucket, those of a counts block, and one of a sample; those of a
-- record and of a sample are 0 if nothing is counted
pub record IsBook (version : ℕ) (name : List ℕ) (key : ℤ) (holds : Body → ℕ) (packed : Record → ℕ) (buckets : Counts → List ℕ) (valued : Sample → ℕ) : Type 0 where
  pub of_record : (r : Record) → holds (histogram r) ≡ of_name r.name name (at_bucket r.spec key (packed_bucket (form_at version r)) (packed r))
  pub of_counts : (c : Counts) → holds (counts c) ≡ of_name c.name name (keyed c.spec key (buckets c))
  pub of_sample : (s : Sample) → holds (sample s) ≡ of_name s.name name (if int_eq s.value key then valued s else 0)
  pub of_queue : (next : ℕ) → holds (queue next) ≡ 0
  pub of_plain : (words : List ℕ) → holds (plain words) ≡ 0
  pub of_held : (block : _) → holds (held block) ≡ 0
  pub of_other : (size tag next : ℕ) (payload : List ℕ) → holds (other size tag next payload) ≡ 0
  pub no_packed : (r : Record) → CountsNothing r → packed r ≡ 0
  pub no_value : (s : Sample) → (s.units ≡ 0) × (s.mark ≡ 0) → valued s ≡ 0

pub units_book : (version : ℕ) (name : List ℕ) (key : ℤ) → (version ≡ 1) ⊎ (version ≡ 2)
    → IsBook version name key (units_held version name key) (λ r. units_in (form_at version r)) (λ c. c.units) (λ s. s.units)
units_book version name key versions = record {
  of_record = λ r. refl;
  of_counts = λ c. refl;
  of_sample = λ s. refl;
  of_queue = λ next. refl;
  of_plain = λ words. refl;
  of_held = λ block. refl;
  of_other = λ size tag next payload. refl;
  no_packed = λ r nothing. no_units version (buckets_of r.spec) r.single versions nothing.1;
  no_value = λ s nothing. nothing.0;
}

pub marks_book : (version : ℕ) (name : List ℕ) (key : ℤ)
    → IsBook version name key (marks_held version name key) (λ r. r.mark) (λ c. c.marks) (λ s. s.mark)
marks_book version name key = record {
  of_record = λ r. refl;
  of_counts = λ c. refl;
  of_sample = λ s. refl;
  of_queue = λ next. refl;
  of_plain = λ words. refl;
  of_held = λ block. refl;
  of_other = λ size tag next payload. refl;
  no_packed = λ r nothing. nothing.2;
  no_value = λ s nothing. nothing.1;
}

module _ (version : ℕ) (name : List ℕ) (key : ℤ) (holds : Body → ℕ) (packed : Record → ℕ) (buckets : Counts → List ℕ) (valued : Sample → ℕ)
    (book : IsBook version name key holds packed buckets valued) where
  -- a block holds nothing if its record, its counts or its sample, if they are of the name, do not
  pub nothing_held : (body : Body)
      → ((r : Record) → body ≡ histogram r → r.name ≡ name → at_bucket r.spec key (packed_bucket (form_at version r)) (packed r) ≡ 0)
      → ((c : Counts) → body ≡ counts c → c.name ≡ name → keyed c.spec key (buckets c) ≡ 0)
      → ((s : Sample) → body ≡ sample s → s.name ≡ name → s.value ≡ key → valued s ≡ 0) → holds body ≡ 0
  nothing_held (queue next) record_is counts_are sample_is = book.of_queue next
  nothing_held (plain words) record_is counts_are sample_is = book.of_plain words
  nothing_held (held block) record_is counts_are sample_is = book.of_held block
  nothing_held (histogram r) record_is counts_are sample_is = book.of_record r ∙ nothing_of r.name name _ (record_is r refl)
  nothing_held (counts c) record_is counts_are sample_is = book.of_counts c ∙ nothing_of c.name name _ (counts_are c refl)
  nothing_held (sample s) record_is counts_are sample_is =
      book.of_sample s ∙ nothing_of s.name name _ (λ same. by_value (int_eq s.value key) (Decides-int_eq s.value key).0 (sample_is s refl same))
    where
      by_value : (b : Bool) → (b ≡ true → s.value ≡ key) → (s.value ≡ key → valued s ≡ 0) → (if b then valued s else 0) ≡ 0
      by_value true is nothing = nothing (is refl)
      by_value false is nothing = refl
  nothing_held (other size tag next payload) record_is counts_are sample_is = book.of_other size tag next payload

-- ---- the first of a name

module _ (records : List Listed) where
  abbrev made_of : ℕ → List ℕ → Spec → Listed
  made_of at name kind = record { reference = at; made = Some (made.Histogram name kind) }

  -- a name has one first record, with one spec
  pub same_first : (name : List ℕ) (kind kind' : Spec) (at place : ℕ) → IsFirst records name kind at → IsFirst records name kind' place
      → (at ≡ place) × (kind ≡ kind')
  same_first name kind kind' at place first second =
      let same = first_unique (IsRecordNamed name) records (made_of at name kind) (made_of place name kind') first second in
      (ap (λ (l : Listed). l.reference) same, cc (ap (λ (l : Listed). l.made) same))

-- ---- words that are laid out

module _ (shape : Dimensions) (opened : Anatomy) (words : List ℕ) (kept : AreLaid shape opened words) where
  abbrev pieces : List Piece
  pieces = kept.anatomy.pieces

  abbrev records : List Listed
  records = kept.anatomy.records

  -- a place that is the first of two names has one name
  pub same_name : (name mine : List ℕ) (kind kind' : Spec) (at : ℕ) → IsFirst records name kind at → IsFirst records mine kind' at → name ≡ mine
  same_name name mine kind kind' at first second =
      let (r, (has, named, specified)) = record_of_first shape opened words kept name kind at first in
      let (q, (stands, its, sorted)) = record_of_first shape opened words kept mine kind' at second in
      let bodies = (one_stands shape words kept.anatomy kept.shown at none none (histogram r) (histogram q) has stands).1 in
      let same : r ≡ q = cc bodies in
      sym named ∙ (ap (λ (r : Record). r.name) same ∙ its)

  -- a sample has the name of its histogram, which is sparse and the first of it
  pub sample_first : (at : ℕ) (s : Sample) → HasSample pieces at s → IsFirst records s.name spec.Sparse s.of
  sample_first at s has =
      let l : Listed = record { reference = at; made = Some (made.Sample s.of s.value) } in
      let among = at_from records l (kept.list.alone at (sample s) has) in
      let (front, behind, split, others) = split_at records among.0 l among.1 in
      let (name, first, named) = kept.records.sampled front behind at s.of s.value split in
      subst (λ (name : List ℕ). IsFirst records name spec.Sparse s.of) (sym (named s has))
      (subst (λ (records : List Listed). IsFirst records name spec.Sparse s.of) (sym split) (first_longer (IsRecordNamed name) front (l ∷ behind) _ first))

  module _ (name : List ℕ) (kind : Spec) (at : ℕ) (r : Record) (first : IsFirst records name kind at) (has : HasRecord pieces at r) (named : r.name ≡ name)
      (specified : r.spec ≡ kind) where
    -- a counts block of the name is that of the record
    counts_of : (j : ℕ) (p : Piece) (c : Counts) → get_elem? pieces j ≡ some p → p.body ≡ counts c → c.name ≡ name
        → r.counts ≡ p.at
    counts_of j p c there is mine =
        let here = published_at shape opened words kept j p (counts c) there is refl (λ block e. cc e) in
        let (q, stands, leads) = kept.records.named p.at c here in
        let some_counts : q.counts ≢ 0 =
        λ none_there. let from = (claimed_piece shape words kept.anatomy kept.shown kept.blocks here.0 _ here.1 refl).from in omega (arith, from, none_there, leads) in
        let (d, mounted, of_it) = kept.records.mounted c.of q stands some_counts in
        let same_body : counts d ≡ counts c = (one_stands shape words kept.anatomy kept.shown p.at none none (counts d) (counts c)
        (subst (λ (at : ℕ). HasCounts pieces at d) leads mounted) here).1 in
        let same : d ≡ c = cc same_body in
        let its_name : q.name ≡ name = sym of_it.named ∙ (ap (λ (c : Counts). c.name) same ∙ mine) in
        by_place q stands leads its_name some_counts (c.of == at) (eqb-true c.of at) (eqb-false c.of at)
      where
        by_place : (q : Record) → HasRecord pieces c.of q → q.counts ≡ p.at → q.name ≡ name → q.counts ≢ 0
            → (b : Bool) → (b ≡ true → c.of ≡ at) → (b ≡ false → c.of ≢ at) → r.counts ≡ p.at
        by_place q stands leads its_name some_counts true same apart =
            let bodies : histogram q ≡ histogram r = (one_stands shape words kept.anatomy kept.shown at none none (histogram q) (histogram r)
            (subst (λ (at : ℕ). HasRecord pieces at q) (same refl) stands) has).1 in
            let equal : q ≡ r = cc bodies in
            sym (ap (λ (r : Record). r.counts) equal) ∙ leads
        by_place q stands leads its_name some_counts false same apart =
            absurd (some_counts (kept.records.later c.of at q kind stands (subst (λ (name : List ℕ). IsFirst records name kind at) (sym its_name) first)
            (λ e. apart refl (sym e))).0)

    module _ (key : ℤ) (holds : Body → ℕ) (packed : Record → ℕ) (buckets : Counts → List ℕ) (valued : Sample → ℕ)
        (book : IsBook kept.anatomy.version name key holds packed buckets valued) where
      -- another record of the name has nothing
      record_nothing : (j : ℕ) (p : Piece) → get_elem? pieces j ≡ some p → j ≢ has.0 → (q : Record) → p.body ≡ histogram q → q.name ≡ name
          → at_bucket q.spec key (packed_bucket (form_at kept.anatomy.version q)) (packed q) ≡ 0
      record_nothing j p there apart q is mine =
          let nothing = book.no_packed q (other_nothing shape opened words kept name kind at r first has j p there apart q is mine) in
          ap (at_bucket q.spec key (packed_bucket (form_at kept.anatomy.version q))) nothing ∙ at_no_bucket q.spec key (packed_bucket (form_at kept.anatomy.version q))

      no_sample : r.spec ≢ spec.Sparse → (j : ℕ) (p : Piece) → get_elem? pieces j ≡ some p → (s : Sample) → p.body ≡ sample s → s.name ≡ name → ⊥
      no_sample bucketed j p there s is mine =
          let here = published_at shape opened words kept j p (sample s) there is refl (λ block e. cc e) in
          let its = subst (λ (name : List ℕ). IsFirst records name spec.Sparse s.of) mine (sample_first p.at s here) in
          bucketed (specified ∙ (same_first records name kind spec.Sparse at s.of first its).1)

      held_alone : holds (histogram r) ≡ at_bucket r.spec key (packed_bucket (form_at kept.anatomy.version r)) (packed r)
      held_alone = book.of_record r ∙ of_mine r.name name _ named

      -- while no counts are mounted the record has all
      pub bucket_alone : r.spec ≢ spec.Sparse → r.counts ≡ 0
          → all_held holds pieces ≡ at_bucket r.spec key (packed_bucket (form_at kept.anatomy.version r)) (packed r)
      bucket_alone bucketed unmounted =
          sum_one (λ p. holds p.body) pieces has.0 _ has.1
          (λ j p there apart. nothing_held kept.anatomy.version name key holds packed buckets valued book p.body
          (record_nothing j p there apart)
          (λ c is mine.
          let here = published_at shape opened words kept j p (counts c) there is refl (λ block e. cc e) in
          let from = (claimed_piece shape words kept.anatomy kept.shown kept.blocks here.0 _ here.1 refl).from in
          let its = counts_of j p c there is mine in
          absurd (omega (arith, from, its, unmounted)))
          (λ s is mine _. absurd (no_sample bucketed j p there s is mine)))
          ∙ held_alone

      -- then the record and its counts block have all
      pub bucket_mounted : r.spec ≢ spec.Sparse → (c : Counts) → HasCounts pieces r.counts c → c.name ≡ r.name
          → all_held holds pieces ≡ at_bucket r.spec key (packed_bucket (form_at kept.anatomy.version r)) (packed r) + keyed c.spec key (buckets c)
      bucket_mounted bucketed c mounted its_name =
          let apart : has.0 ≢ mounted.0 = λ same. let e = some-injective _ _ (sym has.1 ∙ (ap (get_elem? pieces) same ∙ mounted.1)) in cc (ap (λ (p : Piece). p.body) e) in
          let whole = sum_pair (λ p. holds p.body) pieces has.0 mounted.0 _ _ apart has.1 mounted.1
          (λ j p there others. nothing_held kept.anatomy.version name key holds packed buckets valued book p.body
          (record_nothing j p there others.0)
          (λ d is mine. absurd (others.1 (one_piece shape words kept.anatomy kept.shown j mounted.0 p _ there mounted.1 (sym (counts_of j p d there is mine))).0))
          (λ s is mine _. absurd (no_sample bucketed j p there s is mine))) in
          let its = book.of_counts c ∙ of_mine c.name name _ (its_name ∙ named) in
          omega (arith, whole, held_alone, its)

      -- of a sparse histogram nothing but a sample of the key holds anything
      sparse_nothing : r.spec ≡ spec.Sparse → (j : ℕ) (p : Piece) → get_elem? pieces j ≡ some p
          → ((s : Sample) → HasSample pieces p.at s → s.of ≡ at → s.value ≡ key → valued s ≡ 0) → holds p.body ≡ 0
      sparse_nothing sparse j p there each = by_place (j == has.0) (eqb-true j has.0) (eqb-false j has.0)
        where
          by_place : (b : Bool) → (b ≡ true → j ≡ has.0) → (b ≡ false → j ≢ has.0) → holds p.body ≡ 0
          by_place true same others =
              let lawful = (kept.records.lawful at r has).sparse sparse in
              let empty = no_packed kept.anatomy.version (buckets_of r.spec) r.single kept.versions lawful.1 in
              ap (λ (p : Piece). holds p.body) (some-injective _ _ (sym there ∙ (ap (get_elem? pieces) (same refl) ∙ has.1)))
              ∙ (held_alone ∙ ap (λ (packed_one : Option ℕ). at_bucket r.spec key packed_one (packed r)) empty)
          by_place false same others =
              nothing_held kept.anatomy.version name key holds packed buckets valued book p.body
              (record_nothing j p there (others refl))
              (λ c is mine.
              let here = published_at shape opened words kept j p (counts c) there is refl (λ block e. cc e) in
              let from = (claimed_piece shape words kept.anatomy kept.shown kept.blocks here.0 _ here.1 refl).from in
              let unmounted = ((kept.records.lawful at r has).sparse sparse).0 in
              let its = counts_of j p c there is mine in
              absurd (omega (arith, from, its, unmounted)))
              (λ s is mine value.
              let here = published_at shape opened words kept j p (sample s) there is refl (λ block e. cc e) in
              let its = subst (λ (name : List ℕ). IsFirst records name spec.Sparse s.of) mine (sample_first p.at s here) in
              each s here (sym (same_first records name kind spec.Sparse at s.of first its).0) value)

      -- of a sparse value its first sample has all
      pub value_held : r.spec ≡ spec.Sparse → (place : ℕ) (s : Sample) → IsFirstOf records at key place → (stands : HasSample pieces place s)
          → s.of ≡ at → s.value ≡ key → all_held holds pieces ≡ valued s
      value_held sparse place s first_value stands of_it is_value =
          let its_first = subst (λ (at : ℕ). IsFirst records s.name spec.Sparse at) of_it (sample_first place s stands) in
          let its_name : s.name ≡ name = same_name s.name name spec.Sparse kind at its_first first in
          sum_one (λ p. holds p.body) pieces stands.0 _ stands.1
          (λ j p there apart. sparse_nothing sparse j p there (λ t here same_histogram same_value.
          book.no_value t (kept.records.later_samples p.at place t here
          (subst (λ (v : ℕ × ℤ). IsFirstOf records v.0 v.1 place) (λ i. (sym same_histogram i, sym same_value i)) first_value)
          (λ e. apart (one_piece shape words kept.anatomy kept.shown j stands.0 p _ there stands.1 (sym e)).0))))
          ∙ (book.of_sample s ∙ (of_mine s.name name _ its_name ∙ ap (λ (b : Bool). if b then valued s else 0) ((Decides-int_eq s.value key).1 is_value)))

      -- and of one that has no sample nothing is held
      pub value_absent : r.spec ≡ spec.Sparse → (¬ ((place : ℕ) × IsFirstOf records at key place)) → all_held holds pieces ≡ 0
      value_absent sparse absent =
          sum_none (λ p. holds p.body) pieces (λ j p there _. sparse_nothing sparse j p there (λ s here same_histogram same_value.
          let (place, its) = first_value_there records s.of s.value _ (kept.list.alone p.at (sample s) here) refl in
          absurd (absent (place, subst (λ (v : ℕ × ℤ). IsFirstOf records v.0 v.1 place) (λ i. (same_histogram i, same_value i)) its))))

-- ---- a kept state

module _ (shape : Dimensions) (opened : Anatomy) (state : State) (kept : Invariant shape opened state) where
  -- so it is in a kept state
  pub one_first : (name : List ℕ) (kind kind' : Spec) (at place : ℕ) → IsFirst kept.anatomy.records name kind at → IsFirst kept.anatomy.records name kind' place
      → (at ≡ place) × (kind ≡ kind')
  one_first = same_first kept.anatomy.records

  pub one_name : (name mine : List ℕ) (kind kind' : Spec) (at : ℕ) → IsFirst kept.anatomy.records name kind at → IsFirst kept.anatomy.records mine kind' at
      → name ≡ mine
  one_name = same_name shape opened state.words (laid_out shape opened state kept)
