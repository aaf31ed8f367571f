-- The first record of a name, and of a value, on the list of words that are laid out: by the words as by what each record was given.
use Rattle.segment_invariant.proofs.Prelude.Std.{◌≡◌, Bool, true, false, ℕ, ◌<◌, ℤ, List, ◌∷◌, ◌++◌, refl, sym, ap, subst, ◌∙◌, arith, Some, None, ◌⊎◌, inl, inr, w64, cast_signed, ◌==◌, int_eq, eqb-true, eqb-false, Decides-int_eq, bytes_eq, Contains, All-contains, bytes_eq-Decides, split_at, at_from, from_map, split_among}
use Rattle.segment_invariant.proofs.Prelude.Machine.{Dimensions, field_at, Spec, name_of, Made}
use Rattle.segment_invariant.proofs.Prelude.Invariant.{IsHistogram, Record, Sample, Listed, Anatomy, order_of, HasRecord, HasSample, IsRecordNamed, IsValued, IsFirst, IsFirstOf, StandsAs}
use Rattle.std.specs.Prelude as std
use Rattle.segment_machine.proofs.Values.{value_word}
use Rattle.segment_machine.specs.declared.actor.Made.TheVariants as made
use Rattle.list_lemmas.specs.Firsts.{IsFirstThat}
use Rattle.segment_invariant.specs.Consistent.{IsSample, IsSampleOf}
use Rattle.segment_invariant.specs.Consistent as consistent
use Rattle.list_lemmas.proofs.Firsts as lists
use Rattle.list_lemmas.proofs.Firsts.{OrBefore, first_image, first_from}
use Rattle.segment_invariant.specs.Words.{AreLaid}
use Rattle.segment_invariant.proofs.Blocks.Pieces.{piece_word}
use Rattle.segment_invariant.proofs.Consistency.Records.{record_word, sample_type, record_name}
use Rattle.segment_invariant.proofs.Frames.PassedOver.{none_given, PassedOver}
use Rattle.segment_invariant.proofs.Consistency.PassedOver.{passed_named}

-- ---- on the list

-- the first of a name was given a spec with it
pub first_named : (records : List Listed) (name : List ℕ) (l : Listed) (at : ℕ) → IsFirstThat (IsRecordNamed name) records l → l.reference ≡ at
    → (spec : Spec) × IsFirst records name spec at
first_named records name l at first here =
    let (spec, made) = first.4 in (spec, subst (IsFirstThat (IsRecordNamed name) records) (λ i. record { reference = here i; made = made i }) first)

-- and that of a value is a sample of it
pub first_valued : (records : List Listed) (of : ℕ) (value : ℤ) (l : Listed) (at : ℕ) → IsFirstThat (IsValued of value) records l → l.reference ≡ at
    → IsFirstOf records of value at
first_valued records of value l at first here =
    subst (IsFirstThat (IsValued of value) records) (λ i. record { reference = here i; made = first.4 i }) first

-- a record is of a name or not
pub named_or_not : (name : List ℕ) (l : Listed) → IsRecordNamed name l ⊎ (¬ (IsRecordNamed name l))
named_or_not name l = by_made l.made refl
  where
    by_made : (m : std.Option Made) → l.made ≡ m → IsRecordNamed name l ⊎ (¬ (IsRecordNamed name l))
    by_made (Some (made.Histogram other spec)) is = by_test (bytes_eq other name) refl
      where
        by_test : (b : Bool) → bytes_eq other name ≡ b → IsRecordNamed name l ⊎ (¬ (IsRecordNamed name l))
        by_test true same = inl (spec, is ∙ ap (λ (name : List ℕ). Some (made.Histogram name spec)) ((bytes_eq-Decides other name).0 same))
        by_test false apart = inr (λ (kind, named).
            let equal : other ≡ name = cc (is, named) in
            cc (apart, (bytes_eq-Decides other name).1 equal))
    by_made (Some (made.Sample of value)) is = inr (λ (kind, named). cc (is, named))
    by_made None is = inr (λ (kind, named). cc (is, named))

-- so a name that is on a list has a first record there
pub first_there : (records : List Listed) (name : List ℕ) (l : Listed) → Contains records l → IsRecordNamed name l
    → (kind : Spec) × (place : ℕ) × IsFirst records name kind place
first_there records name l there named =
    let (first, its) = lists.first_there (IsRecordNamed name) (named_or_not name) records l there named in
    let (kind, is) = first_named records name first first.reference its refl in
    (kind, first.reference, is)

-- a record is of a value or not
value_or_not : (of : ℕ) (value : ℤ) (l : Listed) → IsValued of value l ⊎ (¬ (IsValued of value l))
value_or_not of value l = by_made l.made
  where
    by_made : (m : std.Option Made) → (m ≡ Some (made.Sample of value)) ⊎ (¬ (m ≡ Some (made.Sample of value)))
    by_made (Some (made.Sample other number)) = by_test (other == of) (int_eq number value) refl refl
      where
        by_test : (b t : Bool) → (other == of) ≡ b → int_eq number value ≡ t
            → (Some (made.Sample other number) ≡ Some (made.Sample of value)) ⊎ (¬ (Some (made.Sample other number) ≡ Some (made.Sample of value)))
        by_test true true same equal = inl (λ i. Some (made.Sample (eqb-true other of same i) ((Decides-int_eq number value).0 equal i)))
        by_test false t apart equal = inr (λ is. let same : other ≡ of = cc is in eqb-false other of apart same)
        by_test true false same apart = inr (λ is. let equal : number ≡ value = cc is in cc (apart, (Decides-int_eq number value).1 equal))
    by_made (Some (made.Histogram name spec)) = inr (λ is. cc is)
    by_made None = inr (λ is. cc is)

-- and a value that is on a list has a first sample there
pub first_value_there : (records : List Listed) (of : ℕ) (value : ℤ) (l : Listed) → Contains records l → IsValued of value l
    → (place : ℕ) × IsFirstOf records of value place
first_value_there records of value l there is =
    let (first, its) = lists.first_there (IsValued of value) (value_or_not of value) records l there is in
    (first.reference, first_valued records of value first first.reference its refl)

-- ---- words that are laid out

module _ (shape : Dimensions) (opened : Anatomy) (words : List ℕ) (kept : AreLaid shape opened words) where
  abbrev pub Named : List ℕ → Spec → ℕ → Record → Type 0
  Named name spec at r = HasRecord kept.anatomy.pieces at r × (r.name ≡ name) × (r.spec ≡ spec)

  abbrev pub Valued : ℕ → ℤ → ℕ → Sample → Type 0
  Valued of value at s = HasSample kept.anatomy.pieces at s × (s.of ≡ of) × (s.value ≡ value)

  pub standing_of : (l : Listed) → Contains kept.anatomy.records l → StandsAs kept.anatomy.pieces l l.made
  standing_of l there = All-contains (λ l. StandsAs kept.anatomy.pieces l l.made) kept.anatomy.records l kept.list.standing there

  -- a record says its name
  pub says_name : (at : ℕ) (r : Record) → HasRecord kept.anatomy.pieces at r → name_of words at ≡ r.name
  says_name at r there = record_name shape words kept.anatomy kept.shown kept.anatomy.version at r there (kept.records.lawful at r there)

  pub is_named : (at : ℕ) (r : Record) → HasRecord kept.anatomy.pieces at r → consistent.HasName words r.name at
  is_named at r there = (record_word shape words kept.anatomy kept.shown at r 2 there (omega arith), says_name at r there)

  -- a sample says of what it is one
  pub is_sample_of : (at : ℕ) (s : Sample) → HasSample kept.anatomy.pieces at s → IsSampleOf words s.of s.value at
  is_sample_of at s (k, there) =
      let word = λ (j : ℕ) (below : j < 8). piece_word shape words kept.anatomy kept.shown k _ j there (omega (arith, below)) in (
        word 2 (omega arith),
        word 4 (omega arith),
        ap (cast_signed w64) (word 5 (omega arith)) ∙ value_word s.value (kept.records.valued at s (k, there)).valued,
      )

  -- the first record of a name is there as one of that name
  pub record_of_first : (name : List ℕ) (spec : Spec) (at : ℕ) → IsFirst kept.anatomy.records name spec at → (r : Record) × Named name spec at r
  record_of_first name spec at first = let (r, has, named, specified) = standing_of _ (split_among first.0 first.1 first.2) in (r, (has, named, specified))

  -- and that of a value as a sample of it
  pub sample_of_first : (of : ℕ) (value : ℤ) (at : ℕ) → IsFirstOf kept.anatomy.records of value at → (s : Sample) × Valued of value at s
  sample_of_first of value at first = let (s, has, of_it, valued) = standing_of _ (split_among first.0 first.1 first.2) in (s, (has, of_it, valued))

  -- the words say what was given
  pub name_given : (l : Listed) (name : List ℕ) → Contains kept.anatomy.records l → IsRecordNamed name l → consistent.HasName words name l.reference
  name_given l name there (spec, is) =
      let (r, has, mine, specified) = subst (StandsAs kept.anatomy.pieces l) is (standing_of l there) in
      subst (λ (name : List ℕ). consistent.HasName words name l.reference) mine (is_named l.reference r has)

  pub value_given : (l : Listed) (of : ℕ) (value : ℤ) → Contains kept.anatomy.records l → l.made ≡ Some (made.Sample of value) → IsSampleOf words of value l.reference
  value_given l of value there is =
      let (s, has, mine, valued) = subst (StandsAs kept.anatomy.pieces l) is (standing_of l there) in
      subst (λ (p : ℕ × ℤ). IsSampleOf words p.0 p.1 l.reference) (λ i. (mine i, valued i)) (is_sample_of l.reference s has)

-- ---- by the words

module _ (shape : Dimensions) (opened : Anatomy) (words : List ℕ) (kept : AreLaid shape opened words) where
  -- what was given to the maker of a record of a name; the record may be passed over, after another of that name
  pub given_name : (front behind : List Listed) (l : Listed) (name : List ℕ) → kept.anatomy.records ≡ front ++ l ∷ behind → consistent.HasName words name l.reference
      → ((spec : Spec) × (r : Record) × (l.made ≡ Some (made.Histogram name spec)) × Named shape opened words kept name spec l.reference r)
      ⊎ ((r : Record) × (l.made ≡ None) × (r.name ≡ name) × PassedOver shape opened words kept front l.reference r)
  given_name front behind l name split named =
      by_made l.made refl (standing_of shape opened words kept l
      (split_among front behind split))
    where
      by_made : (m : std.Option Made) → l.made ≡ m → StandsAs kept.anatomy.pieces l m
          → ((spec : Spec) × (r : Record) × (l.made ≡ Some (made.Histogram name spec)) × Named shape opened words kept name spec l.reference r)
          ⊎ ((r : Record) × (l.made ≡ None) × (r.name ≡ name) × PassedOver shape opened words kept front l.reference r)
      by_made (Some (made.Histogram other spec)) is (r, has, mine, specified) =
          let same : other ≡ name = sym mine ∙ (sym (says_name shape opened words kept l.reference r has) ∙ named.1) in
          inl (spec, r, is ∙ ap (λ (name : List ℕ). Some (made.Histogram name spec)) same, (has, mine ∙ same, specified))
      by_made (Some (made.Sample of value)) is (s, has, mine, valued) =
          let three = sample_type shape words kept.anatomy kept.shown l.reference s has in
          let one = named.0 in
          absurd (omega (arith, three, one))
      by_made None is stands =
          elim (none_given shape opened words kept front behind l.reference
          (split ∙ ap (λ (m : std.Option Made). front ++ record { reference = l.reference; made = m } ∷ behind) is)) [
            | inl (size, tag, next, payload, (k, there), first) ↦
                absurd (first (sym (piece_word shape words kept.anatomy kept.shown k _ 2 there (omega arith)) ∙ named.0))
            | inr (r, over) ↦ inr (r, is, sym (passed_named shape opened words kept front l.reference r over.0).1 ∙ named.1, over)
          ]

  -- so a record that has a name was given it, or one before it was
  pub name_or_before : (name : List ℕ) (front behind : List Listed) (l : Listed) → kept.anatomy.records ≡ front ++ l ∷ behind
      → consistent.HasName words name l.reference → OrBefore (IsRecordNamed name) front l
  name_or_before name front behind l split named = elim (given_name front behind l name split named) [
    | inl (spec, r, given, has) ↦ inl (spec, given)
    | inr (r, nothing, same, over) ↦
        let (kind, at, first) = over.0.named in inr (_, split_among first.0 first.1 first.2, (kind, ap (λ (name : List ℕ). Some (made.Histogram name kind)) same))
  ]

  -- and of a sample of a value
  pub given_value : (l : Listed) (of : ℕ) (value : ℤ) → Contains kept.anatomy.records l → IsSampleOf words of value l.reference
      → (s : Sample) × (l.made ≡ Some (made.Sample of value)) × Valued shape opened words kept of value l.reference s
  given_value l of value there valued =
      by_made l.made refl (standing_of shape opened words kept l there)
    where
      by_made : (m : std.Option Made) → l.made ≡ m → StandsAs kept.anatomy.pieces l m
          → (s : Sample) × (l.made ≡ Some (made.Sample of value)) × Valued shape opened words kept of value l.reference s
      by_made (Some (made.Sample other number)) is (s, has, mine, numbered) =
          let says = is_sample_of shape opened words kept l.reference s has in
          let same : other ≡ of = sym mine ∙ (sym says.1 ∙ valued.1) in
          let equal : number ≡ value = sym numbered ∙ (sym says.2 ∙ valued.2) in
          (s, is ∙ (λ i. Some (made.Sample (same i) (equal i))), (has, mine ∙ same, numbered ∙ equal))
      by_made (Some (made.Histogram name spec)) is (r, has, mine, specified) =
          let one = (is_named shape opened words kept l.reference r has).0 in
          let three = valued.0 in
          absurd (omega (arith, three, one))
      by_made None is (size, tag, next, payload, (k, there), third, long) =
          absurd (third (sym (piece_word shape words kept.anatomy kept.shown k _ 2 there (omega arith)) ∙ valued.0))

  -- where a record is on the list
  listed_at : (at : ℕ) → Contains (order_of kept.anatomy) at → (front behind : List Listed) × (l : Listed) × (kept.anatomy.records ≡ front ++ l ∷ behind) × (l.reference ≡ at)
  listed_at at there =
      let (k, place) = at_from (order_of kept.anatomy) at there in
      let (l, found, is) = from_map (λ (l : Listed). l.reference) kept.anatomy.records k at place in
      let (front, behind, split, others) = split_at kept.anatomy.records k l found in
      (front, behind, l, split, is)

  -- a histogram's record on the list: it was given so, or is passed over
  pub record_on_list : (at : ℕ) → Contains (order_of kept.anatomy) at → field_at words at 2 ≡ 1
      → ((l : Listed) × (name : List ℕ) × (spec : Spec) × (r : Record) × Contains kept.anatomy.records l × (l.reference ≡ at)
      × (l.made ≡ Some (made.Histogram name spec)) × Named shape opened words kept name spec at r)
      ⊎ ((l : Listed) × (front : List Listed) × (r : Record) × Contains kept.anatomy.records l × (l.made ≡ None)
      × PassedOver shape opened words kept front at r)
  record_on_list at there one =
      let (front, behind, l, split, place) = listed_at at there in
      let name : List ℕ = name_of words l.reference in
      let among = split_among front behind split in
      elim (given_name front behind l name split (subst (λ (at : ℕ). field_at words at 2 ≡ 1) (sym place) one, refl)) [
        | inl (spec, r, made, has) ↦ inl (l, name, spec, r, among, place, made, subst (λ (at : ℕ). Named shape opened words kept name spec at r) place has)
        | inr (r, nothing, same, over) ↦
            inr (l, front, r, among, nothing, subst (λ (at : ℕ). PassedOver shape opened words kept front at r) place over)
      ]

  -- ---- the first ones

  -- the histogram of a name is the first record of it
  pub first_of_name : (name : List ℕ) (at : ℕ) → IsHistogram words (order_of kept.anatomy) name at
      → (spec : Spec) × (r : Record) × IsFirst kept.anatomy.records name spec at × Named shape opened words kept name spec at r
  first_of_name name at is =
      let (l, first, here) = first_from (λ (l : Listed). l.reference) kept.anatomy.records (IsRecordNamed name) (consistent.HasName words name) (name_or_before name)
      (λ other. ¬ (consistent.HasName words name other)) (λ l there named absent. absent (name_given shape opened words kept l name there named)) at is in
      let (spec, its) = first_named kept.anatomy.records name l at first here in
      let (r, has) = record_of_first shape opened words kept name spec at its in
      (spec, r, its, has)

  pub name_of_first : (name : List ℕ) (spec : Spec) (at : ℕ) → IsFirst kept.anatomy.records name spec at → IsHistogram words (order_of kept.anatomy) name at
  name_of_first name spec at first =
      first_image (λ (l : Listed). l.reference) kept.anatomy.records (IsRecordNamed name) (consistent.HasName words name) (name_or_before name) _ first
      (name_given shape opened words kept _ name (split_among first.0 first.1 first.2) (spec, refl))

  value_given_at : (of : ℕ) (value : ℤ) (front behind : List Listed) (l : Listed) → kept.anatomy.records ≡ front ++ l ∷ behind → IsSampleOf words of value l.reference
      → OrBefore (IsValued of value) front l
  value_given_at of value front behind l split valued =
      let among = split_among front behind split in
      let (s, made, has) = given_value l of value among valued in
      inl made

  -- and the sample of a value the first record of it
  pub first_of_value : (of : ℕ) (value : ℤ) (at : ℕ) → IsSample words (order_of kept.anatomy) of value at
      → (s : Sample) × IsFirstOf kept.anatomy.records of value at × Valued shape opened words kept of value at s
  first_of_value of value at is =
      let (l, first, here) = first_from (λ (l : Listed). l.reference) kept.anatomy.records (IsValued of value) (IsSampleOf words of value) (value_given_at of value)
      (λ other. ¬ (IsSampleOf words of value other)) (λ l there given absent. absent (value_given shape opened words kept l of value there given)) at is in
      let its = first_valued kept.anatomy.records of value l at first here in
      let (s, has) = sample_of_first shape opened words kept of value at its in
      (s, its, has)

  pub value_of_first : (of : ℕ) (value : ℤ) (at : ℕ) → IsFirstOf kept.anatomy.records of value at → IsSample words (order_of kept.anatomy) of value at
  value_of_first of value at first =
      first_image (λ (l : Listed). l.reference) kept.anatomy.records (IsValued of value) (IsSampleOf words of value) (value_given_at of value) _ first
      (value_given shape opened words kept _ of value (split_among first.0 first.1 first.2) refl)
