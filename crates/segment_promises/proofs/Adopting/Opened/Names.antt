-- The names of an image: in its anatomy the first record of a name is the one that is read, and the opener knows it.
use Rattle.segment_invariant.proofs.Prelude.Std.{◌≡◌, ◌≢◌, inl, inr, Bool, true, ℕ, ◌^◌, ◌<◌, List, [], map, All, Contains, refl, sym, ap, ◌∙◌, subst, Some, None, if◌then◌else◌, eq-eqb, Contains-append_left, some-injective, get_elem?, split_among, all_of, at_from, contains_map, contains_mapped}
use Rattle.segment_invariant.proofs.Prelude.Machine.{field_at, head_of, Spec, is_of_type, name_of, spec_of, record_fault, Histogram, IsListed, Reading, reading_along, Known}
use Rattle.segment_invariant.proofs.Prelude.Invariant.{Body, histogram, sample, Listed, Anatomy, IsHistogram, IsRecordNamed, IsFirst, IsRightlyKnown}
use Rattle.bucket_ranges.specs.Reading.{read_records, lawful_samples, histogram_of}
use Rattle.segment_machine.specs.declared.actor.Made.TheVariants as made
use Rattle.list_lemmas.specs.Firsts.{IsFirstThat}
use Rattle.list_lemmas.proofs.Firsts.{first_image}
use Rattle.segment_invariant.specs.Consistent.{HasName}
use Rattle.segment_invariant.specs.Invariant.{AreAnswered}
use Rattle.list_lemmas.proofs.Elements.{split_map}
use Rattle.segment_promises.specs.Adoption.{IsAdoptable}
use Rattle.segment_promises.proofs.Readings.Firsts.{read_from, read_once}
use Rattle.segment_promises.proofs.Adopting.Bodies.{record_at, sample_at, other_at}
use Rattle.segment_promises.proofs.Adopting.Images.{no_record_fault}
use Rattle.segment_promises.proofs.Adopting.Openers.{opener, actors}
use Rattle.segment_promises.proofs.Adopting.Opened.Anatomy.{made_by, listed_at, opened}
use Rattle.segment_promises.proofs.Adopting.Opened.Blocks.{is_read, record_body, there_by_test, test_there}
use Rattle.segment_promises.proofs.Adopting.Opened.Pieces.{record_cases}

-- ---- what was given, by what a record is

given_record : (b : Body) (name : List ℕ) (kind : Spec) (at : ℕ) (words : List ℕ) → b ≡ histogram (record_at words at) → made_by b ≡ Some (made.Histogram name kind)
    → (name_of words at ≡ name) × (spec_of words at ≡ kind)
given_record b name kind at words is given =
    let same : Some (made.Histogram (name_of words at) (spec_of words at)) ≡ Some (made.Histogram name kind) = ap made_by (sym is) ∙ given in
    (cc same, cc same)

not_given : (b c : Body) (name : List ℕ) (kind : Spec) → b ≡ c → made_by c ≡ None → made_by b ≢ Some (made.Histogram name kind)
not_given b c name kind is none given = cc (sym none ∙ (ap made_by (sym is) ∙ given))

not_sample : (b : Body) (name : List ℕ) (kind : Spec) (at : ℕ) (words : List ℕ) → b ≡ sample (sample_at words at) → made_by b ≢ Some (made.Histogram name kind)
not_sample b name kind at words is given = cc (ap made_by (sym is) ∙ given)

module _ (words references : List ℕ) (reading : Reading) (narrow : All (λ word. word < 2 ^ 64) words) (listed : IsListed words (head_of words) references)
    (reads : reading ≡ reading_along words (head_of words) references) (adoptable : IsAdoptable words references reading) where
  abbrev its : Anatomy
  its = opened words references reading narrow listed reads adoptable

  abbrev pub read : List ℕ
  read = read_records words (head_of words) references

  lawful : (at : ℕ) → Contains references at → field_at words at 2 ≡ 1 → record_fault words (head_of words) at ≡ None
  lawful = no_record_fault words references reading listed reads adoptable

  -- a record that is read is on the list as what it says
  pub read_listed : (at : ℕ) → Contains read at → Contains references at × (field_at words at 2 ≡ 1)
  read_listed at there =
      let is = read_from words (head_of words) references lawful at there in
      (split_among is.0 is.1 is.2, is.4.0)

  pub read_body : (at : ℕ) → field_at words at 2 ≡ 1 → is_read words references at ≡ true → record_body words references at ≡ histogram (record_at words at)
  read_body at one is = (λ i. by_tests (first i) (is i))
    where
      first : is_of_type words 1 at ≡ true
      first = eq-eqb (field_at words at 2) 1 one

      by_tests : Bool → Bool → Body
      by_tests b read = if b then (if read then histogram (record_at words at) else other_at words at) else (if is_of_type words 3 at then sample (sample_at words at) else other_at words at)

  -- what is listed as one of a histogram is read, and is what its words say
  pub listed_given : (at : ℕ) (name : List ℕ) (kind : Spec) → made_by (record_body words references at) ≡ Some (made.Histogram name kind)
      → (field_at words at 2 ≡ 1) × (is_read words references at ≡ true) × (name_of words at ≡ name) × (spec_of words at ≡ kind)
  listed_given at name kind given = elim (record_cases words references reading narrow listed reads adoptable at) [
    | inl (one, first, is) ↦ let same = given_record _ name kind at words is given in (one, first, same.0, same.1)
    | inr (inl (one, first, is)) ↦ absurd (not_given _ _ name kind is refl given)
    | inr (inr (inl (three, is))) ↦ absurd (not_sample _ name kind at words is given)
    | inr (inr (inr (un, third, is))) ↦ absurd (not_given _ _ name kind is refl given)
  ]

  -- the first record of a name is read
  pub first_read : (name : List ℕ) (kind : Spec) (at : ℕ) → IsFirst its.records name kind at
      → Contains references at × Contains read at × (name_of words at ≡ name) × (spec_of words at ≡ kind)
  first_read name kind at first =
      let (xs, ys, place, is, before, here) = split_map (listed_at words references) references first.0 first.1 _ first.2 in
      let same : place ≡ at = ap (λ (l : Listed). l.reference) here in
      let given = subst (λ (at : ℕ). made_by (record_body words references at) ≡ Some (made.Histogram name kind)) same (ap (λ (l : Listed). l.made) here) in
      let (one, first, named, specified) = listed_given at name kind given in
      (subst (Contains references) same (split_among xs ys is), there_by_test read at first, named, specified)

  -- and what is read is the first of its name, also among those before a place
  pub first_among : (front : List ℕ) (at : ℕ) (name : List ℕ) → IsHistogram words front name at → Contains read at
      → IsFirst (map (listed_at words references) front) name (spec_of words at) at
  first_among front at name is there =
      let (among, one) = read_listed at there in
      let made_is : (listed_at words references at).made ≡ Some (made.Histogram name (spec_of words at)) =
      ap made_by (read_body at one (test_there read at there)) ∙ ap (λ (name : List ℕ). Some (made.Histogram name (spec_of words at))) is.4.1 in
      subst (IsFirstThat (IsRecordNamed name) (map (listed_at words references) front)) (λ i. record { reference = at; made = made_is i })
      (first_image (listed_at words references) front (HasName words name) (IsRecordNamed name)
      (λ xs ys x split (kind, given). let (tag, first, named, specified) = listed_given x name kind given in inl (tag, named)) at is (spec_of words at, made_is))

  pub read_first : (at : ℕ) → Contains read at → IsFirst its.records (name_of words at) (spec_of words at) at
  read_first at there = first_among references at (name_of words at) (read_from words (head_of words) references lawful at there) there

  -- each name is read once
  pub one_read : (a b : ℕ) → Contains read a → Contains read b → name_of words a ≡ name_of words b → a ≡ b
  one_read a b first second same =
      let (i, here) = at_from read a first in
      let (j, there) = at_from read b second in
      some-injective a b (sym here ∙ (ap (get_elem? read) (read_once words (head_of words) references lawful i j a b here there same) ∙ there))

  -- ---- the histograms of the reading

  abbrev pub read_as : ℕ → Histogram
  read_as = histogram_of (head_of words).version words (lawful_samples words (head_of words) references)

  pub hists_are : reading.hists ≡ map read_as read
  hists_are = ap (λ (r : Reading). r.hists) reads

  -- each is that of a record that is read
  pub hist_read : (h : Histogram) → Contains reading.hists h → (at : ℕ) × Contains read at × (read_as at ≡ h)
  hist_read h there = contains_mapped read_as read h (subst (λ (l : List Histogram). Contains l h) hists_are there)

  pub read_hist : (at : ℕ) → Contains read at → Contains reading.hists (read_as at)
  read_hist at there = subst (λ (l : List Histogram). Contains l (read_as at)) (sym hists_are) (contains_map read_as read at there)

  -- the opener has them as answers of `hist`, and knows them
  known_of : Histogram → Known
  known_of h = record { name = h.name; spec = h.spec; reference = h.reference }

  pub answered : (cursors : ℕ) → AreAnswered its.records (actors words references reading cursors)
  unfolding known_of
  answered cursors name kind at first =
      let (among, there, named, specified) = first_read name kind at first in
      inl (
        known_of (read_as at),
        Contains-append_left (map known_of reading.hists) [] (known_of (read_as at)) (contains_map known_of reading.hists (read_as at) (read_hist at there)),
        named,
      )

  pub knows : (cursors : ℕ) → All (IsRightlyKnown its) (opener words references reading cursors).answers.names
  unfolding known_of
  knows cursors =
      all_of (IsRightlyKnown its) (map known_of reading.hists) (λ known there.
      let (h, among, is) = contains_mapped known_of reading.hists known there in
      let (at, here, same) = hist_read h among in
      subst (IsRightlyKnown its) (ap known_of same ∙ is) (record { first_spec = spec_of words at; first = read_first at here; same = (refl, refl) }))
