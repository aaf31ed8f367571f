-- What the blocks of an image hold of a name and a key: what its record and the counts of that have, or of a sparse value its first sample.
use Rattle.segment_invariant.proofs.Prelude.Std.{◌≡◌, ◌≢◌, inr, Bool, true, false, ℕ, ◌+◌, ◌^◌, ◌<◌, ℤ, List, All, Contains, refl, sym, ap, ◌∙◌, subst, arith, Option, ◌==◌, if◌then◌else◌, eqb-true, eqb-false, Decides-int_eq, some, none, some-injective, get_elem?, split_among, at_from}
use Rattle.segment_invariant.proofs.Prelude.Machine.{field_at, head_of, buckets_of, packed_bucket, name_of, spec_of, sample_value, IsListed, Reading, reading_along}
use Rattle.segment_invariant.proofs.Prelude.Invariant.{Record, Counts, Sample, Body, histogram, counts, sample, Anatomy, Piece, at_bucket, keyed, form_at, all_held, Stands, HasRecord, HasSample}
use Rattle.bucket_ranges.specs.declared.spec.Spec.TheVariants as spec
use Rattle.segment_invariant.specs.Consistent.{IsSample, IsSampleOf}
use Rattle.segment_invariant.proofs.Blocks.Pieces.{one_piece}
use Rattle.segment_invariant.proofs.Consistency.Books.{IsBook, nothing_held}
use Rattle.segment_invariant.proofs.Consistency.Keys.{no_packed}
use Rattle.segment_invariant.proofs.Consistency.Sums.{of_mine}
use Rattle.segment_invariant.proofs.Lists.FewTerms.{sum_none, sum_one, sum_pair}
use Rattle.segment_promises.specs.Adoption.{IsAdoptable}
use Rattle.segment_promises.proofs.Adopting.Bodies.{record_at, sample_at, counts_at}
use Rattle.segment_promises.proofs.Adopting.Opened.Anatomy.{opened, shown}
use Rattle.segment_promises.proofs.Adopting.Opened.Blocks.{is_read, there_by_test, test_there}
use Rattle.segment_promises.proofs.Adopting.Opened.KeptRecords.{has_record, has_counts}
use Rattle.segment_promises.proofs.Adopting.Opened.Lawful.{is_lawful}
use Rattle.segment_promises.proofs.Adopting.Opened.Names.{read, read_listed, one_read}
use Rattle.segment_promises.proofs.Adopting.Opened.Pieces.{is_record, is_sample, is_counts, unowned, listed_body}
use Rattle.segment_promises.proofs.Adopting.Opened.Values.{sample_listed, its_read, its_sparse}

-- a record's piece is no counts block's
unlike_pieces : (p q : Piece) → p ≡ q → (r : Record) (c : Counts) → p.body ≡ histogram r → q.body ≡ counts c → ⊥
unlike_pieces p q same r c first second = cc (sym first ∙ (ap (λ (p : Piece). p.body) same ∙ second))

module _ (words references : List ℕ) (reading : Reading) (narrow : All (λ word. word < 2 ^ 64) words) (listed : IsListed words (head_of words) references)
    (reads : reading ≡ reading_along words (head_of words) references) (adoptable : IsAdoptable words references reading) where
  abbrev its : Anatomy
  its = opened words references reading narrow listed reads adoptable

  abbrev IsRead : ℕ → Type 0
  IsRead at = Contains (read words references reading narrow listed reads adoptable) at

  -- a piece is at its place
  pub as_body : (k : ℕ) (p : Piece) (b : Body) → get_elem? its.pieces k ≡ some p → p.body ≡ b → Stands its.pieces p.at none b
  as_body k p b there is =
      (k, there ∙ (λ i. some (record { at = p.at; owner = unowned words references reading narrow listed reads adoptable k p there i; body = is i })))

  pub one_index : (k j : ℕ) (p q : Piece) → get_elem? its.pieces k ≡ some p → get_elem? its.pieces j ≡ some q → p.at ≡ q.at → k ≡ j
  one_index k j p q there here same =
      (one_piece (head_of words).shape words its (shown words references reading narrow listed reads adoptable) k j p q there here same).0

  module _ (name : List ℕ) (key : ℤ) (holds : Body → ℕ) (packed : Record → ℕ) (buckets : Counts → List ℕ) (valued : Sample → ℕ)
      (book : IsBook 2 name key holds packed buckets valued) where
    abbrev pub packed_at : ℕ → ℕ
    packed_at at = at_bucket (spec_of words at) key (packed_bucket (form_at 2 (record_at words at))) (packed (record_at words at))

    abbrev pub counted_at : ℕ → ℕ → ℕ
    counted_at owner at = keyed (spec_of words owner) key (buckets (counts_at words owner at))

    -- a sample of a histogram of the name that is read
    pub record IsItsSample (at : ℕ) : Type 0 where
      pub there : Contains references at
      pub three : field_at words at 2 ≡ 3
      pub its_histogram : IsRead (field_at words at 4)
      pub named : name_of words (field_at words at 4) ≡ name
      pub sparse : spec_of words (field_at words at 4) ≡ spec.Sparse
      pub value : sample_value words at ≡ key

    -- a piece holds nothing if the record, the counts and the sample that it may be hold nothing
    quiet : (k : ℕ) (p : Piece) → get_elem? its.pieces k ≡ some p → (IsRead p.at → name_of words p.at ≡ name → packed_at p.at ≡ 0)
        → ((owner : ℕ) → IsRead owner → name_of words owner ≡ name → field_at words owner 8 ≡ p.at → field_at words owner 8 ≢ 0 → counted_at owner p.at ≡ 0)
        → (IsItsSample p.at → valued (sample_at words p.at) ≡ 0) → holds p.body ≡ 0
    quiet k p there no_record no_counts no_sample =
        nothing_held 2 name key holds packed buckets valued book p.body
        (λ q is mine.
        let (among, one, first, that) = is_record words references reading narrow listed reads adoptable p.at q (as_body k p (histogram q) there is) in
        subst (λ (q : Record). at_bucket q.spec key (packed_bucket (form_at 2 q)) (packed q) ≡ 0) (sym that)
        (no_record (there_by_test (read words references reading narrow listed reads adoptable) p.at first) (sym (ap (λ (q : Record). q.name) that) ∙ mine)))
        (λ c is mine.
        let (owner, owns, first, that) = is_counts words references reading narrow listed reads adoptable p.at c (as_body k p (counts c) there is) in
        subst (λ (c : Counts). keyed c.spec key (buckets c) ≡ 0) (sym that)
        (no_counts owner (there_by_test (read words references reading narrow listed reads adoptable) owner first) (sym (ap (λ (c : Counts). c.name) that) ∙ mine) owns.is owns.some))
        (λ s is mine worth.
        let (among, three, that) = is_sample words references reading narrow listed reads adoptable p.at s (as_body k p (sample s) there is) in
        let (i, here) = at_from references p.at among in
        subst (λ (s : Sample). valued s ≡ 0) (sym that)
        (no_sample (record {
          there = among;
          three = three;
          its_histogram = its_read words references reading narrow listed reads adoptable i p.at here three;
          named = sym (ap (λ (s : Sample). s.name) that) ∙ mine;
          sparse = its_sparse words references reading narrow listed reads adoptable i p.at here three;
          value = sym (ap (λ (s : Sample). s.value) that) ∙ worth;
        })))

    -- if no record of the name is read, nothing is held
    pub none_held : ((at : ℕ) → IsRead at → name_of words at ≢ name) → all_held holds its.pieces ≡ 0
    none_held absent =
        sum_none (λ (p : Piece). holds p.body) its.pieces (λ j p there _.
        quiet j p there (λ first named. absurd (absent p.at first named)) (λ owner first named is some_there. absurd (absent owner first named))
        (λ s. absurd (absent (field_at words p.at 4) s.its_histogram s.named)))

    module _ (at : ℕ) (first : IsRead at) (named : name_of words at ≡ name) where
      there : Contains references at
      there = (read_listed words references reading narrow listed reads adoptable at first).0

      one : field_at words at 2 ≡ 1
      one = (read_listed words references reading narrow listed reads adoptable at first).1

      is_first : is_read words references at ≡ true
      is_first = test_there (read words references reading narrow listed reads adoptable) at first

      has : HasRecord its.pieces at (record_at words at)
      has = has_record words references reading narrow listed reads adoptable at there one is_first

      -- no other record is of the name
      same : (place : ℕ) → IsRead place → name_of words place ≡ name → place ≡ at
      same place also mine = one_read words references reading narrow listed reads adoptable place at also first (mine ∙ sym named)

      held_record : holds (histogram (record_at words at)) ≡ packed_at at
      held_record = book.of_record (record_at words at) ∙ of_mine (name_of words at) name (packed_at at) named

      -- of a bucket its record and the counts of that have all
      pub bucket_held : spec_of words at ≢ spec.Sparse
          → all_held holds its.pieces ≡ packed_at at + (if field_at words at 8 == 0 then 0 else counted_at at (field_at words at 8))
      bucket_held bucketed = by_test (field_at words at 8 == 0) (eqb-true (field_at words at 8) 0) (eqb-false (field_at words at 8) 0)
        where
          no_sample : (j : ℕ) (p : Piece) → IsItsSample p.at → valued (sample_at words p.at) ≡ 0
          no_sample j p s = absurd (bucketed (ap (spec_of words) (sym (same (field_at words p.at 4) s.its_histogram s.named)) ∙ s.sparse))

          by_test : (b : Bool) → (b ≡ true → field_at words at 8 ≡ 0) → (b ≡ false → field_at words at 8 ≢ 0)
              → all_held holds its.pieces ≡ packed_at at + (if b then 0 else counted_at at (field_at words at 8))
          by_test true none_there some_there =
              let alone = sum_one (λ (p : Piece). holds p.body) its.pieces has.0 _ has.1 (λ j p here apart.
              quiet j p here (λ also mine. absurd (apart (one_index j has.0 p _ here has.1 (same p.at also mine))))
              (λ owner also mine is some_here. absurd (some_here (ap (λ (at : ℕ). field_at words at 8) (same owner also mine) ∙ none_there refl)))
              (no_sample j p)) in
              omega (arith, alone, held_record)
          by_test false none_there some_there =
              let mounted = has_counts words references reading narrow listed reads adoptable at there one is_first (some_there refl) in
              let apart : has.0 ≢ mounted.0 = λ e. unlike_pieces _ _ (some-injective _ _ (sym has.1 ∙ (ap (get_elem? its.pieces) e ∙ mounted.1))) (record_at words at) (counts_at words at (field_at words at 8)) refl refl in
              let both = sum_pair (λ (p : Piece). holds p.body) its.pieces has.0 mounted.0 _ _ apart has.1 mounted.1 (λ j p here others.
              quiet j p here (λ also mine. absurd (others.0 (one_index j has.0 p _ here has.1 (same p.at also mine))))
              (λ owner also mine is some_here.
              absurd (others.1 (one_index j mounted.0 p _ here mounted.1 (sym is ∙ ap (λ (at : ℕ). field_at words at 8) (same owner also mine)))))
              (no_sample j p)) in
              let block = book.of_counts (counts_at words at (field_at words at 8)) ∙ of_mine (name_of words at) name (counted_at at (field_at words at 8)) named in
              omega (arith, both, held_record, block)

      -- of a sparse value its first sample has all
      module _ (sparse : spec_of words at ≡ spec.Sparse) where
        nothing_packed : packed_at at ≡ 0
        nothing_packed =
            let lawful = (is_lawful words references reading narrow listed reads adoptable at there one).sparse sparse in
            ap (λ (packed_one : Option ℕ). at_bucket (spec_of words at) key packed_one (packed (record_at words at)))
            (no_packed 2 (buckets_of (spec_of words at)) (field_at words at 9) (inr refl) lawful.1)

        no_record : (place : ℕ) → IsRead place → name_of words place ≡ name → packed_at place ≡ 0
        no_record place also mine = ap packed_at (same place also mine) ∙ nothing_packed

        no_counts : (place owner : ℕ) → IsRead owner → name_of words owner ≡ name → field_at words owner 8 ≡ place → field_at words owner 8 ≢ 0 → counted_at owner place ≡ 0
        no_counts place owner also mine is some_there =
            let lawful = (is_lawful words references reading narrow listed reads adoptable at there one).sparse sparse in
            absurd (some_there (ap (λ (at : ℕ). field_at words at 8) (same owner also mine) ∙ lawful.0))

        sampled : (place : ℕ) → IsItsSample place → IsSampleOf words at key place
        sampled place s = (s.three, same (field_at words place 4) s.its_histogram s.named, s.value)

        pub value_held : (x : ℕ) → IsSample words references at key x → all_held holds its.pieces ≡ valued (sample_at words x)
        value_held x is =
            let among : Contains references x = split_among is.0 is.1 is.2 in
            let stands : HasSample its.pieces x (sample_at words x) =
            subst (Stands its.pieces x none) (sample_listed words references reading narrow listed reads adoptable x is.4.0)
            (listed_body words references reading narrow listed reads adoptable x among) in
            sum_one (λ (p : Piece). holds p.body) its.pieces stands.0 _ stands.1 (λ j p here apart.
            quiet j p here (no_record p.at) (no_counts p.at) (λ s.
            let mine = sampled p.at s in
            book.no_value (sample_at words p.at)
            (adoptable.undamaged.later p.at x s.there s.three
            (subst (λ (v : ℕ × ℤ). IsSample words references v.0 v.1 x) (λ i. (sym mine.1 i, sym mine.2 i)) is)
            (λ e. apart (one_index j stands.0 p _ here stands.1 (sym e))))))
            ∙ (book.of_sample (sample_at words x)
            ∙ (of_mine (name_of words (field_at words x 4)) name _ (ap (name_of words) is.4.1 ∙ named)
            ∙ ap (λ (b : Bool). if b then valued (sample_at words x) else 0) ((Decides-int_eq (sample_value words x) key).1 is.4.2)))

        pub no_value_held : ((x : ℕ) → Contains references x → ¬ (IsSampleOf words at key x)) → all_held holds its.pieces ≡ 0
        no_value_held absent =
            sum_none (λ (p : Piece). holds p.body) its.pieces (λ j p here _.
            quiet j p here (no_record p.at) (no_counts p.at) (λ s. absurd (absent p.at s.there (sampled p.at s))))
