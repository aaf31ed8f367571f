-- The records of a kept state hold what they were given.
use Rattle.segment_invariant.proofs.Prelude.Std.{◌≡◌, ◌≢◌, Bool, true, false, if◌then◌else◌, ℕ, ◌+◌, ◌-◌, ◌<◌, ◌≤◌, ℤ, List, [], ◌∷◌, ◌++◌, map, length, inl, inr, refl, sym, ap, subst, ◌∙◌, arith, Option, Some, None, slice_index, ◌==◌, Contains, and_from, eq-eqb, eqb-true, le-leb, lt-ltb, map-append, All-contains, Contains-append_right, Contains-permutation, at_map, at_from, contains_at, split_at, contains_map}
use Rattle.segment_invariant.proofs.Prelude.Machine.{Dimensions, head_of, field_at, IsChain, IsShown, Spec, spec_fault, spec_fields, spec_ranges, SameSpec, name_of, name_words, Published, Made, State, AreNameWords, all_published, Claim}
use Rattle.segment_invariant.proofs.Prelude.Invariant.{IsHistogram, Record, Listed, listed, Anatomy, order_of, layout_of, HasRecord, IsFirst, WasSingle, StandsAs, Invariant, IsLawfulRecord}
use Rattle.std.specs.Prelude.{is_none}
use Rattle.std.proofs.lemmas.List.Sorted.{IsPermutation-sym}
use Rattle.bucket_ranges.specs.declared.spec.Spec.TheVariants as spec
use Rattle.bucket_ranges.specs.Spec.{distinct_values}
use Rattle.bucket_ranges.specs.Reading.{is_name, has_name, has_spec, is_kind, is_spec_named, inner_ranges, ascends_above}
use Rattle.bucket_ranges.specs.Reading as reading
use Rattle.bucket_ranges.proofs.Distinct.{Member, Ascends, ascends-from}
use Rattle.bucket_ranges.proofs.Customs.{is_custom-from_checks, length-distinct, some_distinct, custom_boundaries-ascending}
use Rattle.segment_machine.specs.declared.actor.Made.TheVariants as made
use Rattle.segment_invariant.specs.Consistent.{HoldsMade, HasForm, CountsStill, HoldsNothing, RecordsHold, all_claims, places_of}
use Rattle.segment_invariant.specs.Keeps.{KeptRecordsHold, opening_of}
use Rattle.segment_invariant.proofs.Frames.LaidOut.{laid_out}
use Rattle.segment_invariant.proofs.Blocks.Pieces.{piece_word}
use Rattle.segment_invariant.proofs.Consistency.Chained.{claimed_at}
use Rattle.segment_invariant.proofs.Consistency.Opened.{Opens, opens_as, front_is}
use Rattle.segment_invariant.proofs.Consistency.Since.{holds_still, later_still, passed_still}
use Rattle.segment_invariant.proofs.Consistency.Records.{record_word, name_long, letters_part, record_name}
use Rattle.segment_invariant.proofs.Consistency.Specs.{same_spelled, record_spec, ranges_part, ranges_fewer, buckets_are}
use Rattle.segment_invariant.proofs.Consistency.Firsts.{standing_of, is_sample_of, record_on_list, first_of_name, name_of_first}
use Rattle.segment_invariant.proofs.Consistency.Books.{one_first, sample_first}
use Rattle.segment_invariant.proofs.Consistency.Totals.{kind_word}
use Rattle.segment_invariant.proofs.Consistency.Held.{own_counts, counts_named, single_leads, later_record, later_sample, holds_nothing}
use Rattle.segment_invariant.proofs.Consistency.Forms.{formed_as, passed_as}

-- ---- the words of valid specs are valid

-- numbers that ascend, by a test
test_ascends : (low : ℕ) (xs : List ℕ) → ((y : ℕ) → Member y xs → low < y) → Ascends xs → ascends_above low xs ≡ true
test_ascends low [] above up = refl
test_ascends low (x ∷ xs) above up = and_from _ _ (lt-ltb low x (above x (inl refl))) (test_ascends x xs up.0 up.1)

spec_is_named : (kind : Spec) (inner : List ℕ) → spec_fault kind ≡ None → (slice_index (spec_fields kind) 0 ≡ 3 → inner ≡ spec_ranges kind)
    → is_spec_named (slice_index (spec_fields kind) 0) (slice_index (spec_fields kind) 1) (slice_index (spec_fields kind) 2) (slice_index (spec_fields kind) 3) inner ≡ true
spec_is_named (spec.Linear min max n) inner lawful ranges = ap is_none lawful
spec_is_named spec.Boolean inner lawful ranges = refl
spec_is_named spec.Sparse inner lawful ranges = refl
spec_is_named (spec.Custom values) inner lawful ranges =
    let distinct : List ℕ = distinct_values values in
    let custom = is_custom-from_checks values lawful in
    let some_there = some_distinct values custom in
    let long = length-distinct values in
    let few = custom.few in
    let up : Ascends (0 ∷ (distinct ++ 2147483647 ∷ [])) = ascends-from (0 ∷ (distinct ++ 2147483647 ∷ [])) (custom_boundaries-ascending values custom) in
    let last : length distinct + 1 - 2 ≡ length distinct - 1 = omega arith in
    subst (λ (inner : List ℕ). is_spec_named 3 (slice_index distinct 0) (slice_index distinct (length distinct - 1)) (length distinct + 1) inner ≡ true) (sym (ranges refl))
    (and_from _ _ (and_from _ _ (and_from _ _ (and_from _ _ (and_from _ _ (le-leb 2 (length distinct + 1) (omega (arith, some_there)))
    (le-leb (length distinct + 1) 1000 (omega (arith, few, long))))
    (eq-eqb (length distinct) (length distinct + 1 - 1) (omega arith)))
    (test_ascends 0 (distinct ++ 2147483647 ∷ []) up.0 up.1))
    (eq-eqb (slice_index distinct 0) (slice_index distinct 0) refl))
    (eq-eqb (slice_index distinct (length distinct + 1 - 2)) (slice_index distinct (length distinct - 1)) (ap (slice_index distinct) last)))

-- a spec has a kind that is read
kind_named : (kind : Spec) → is_kind (slice_index (spec_fields kind) 0) ≡ true
kind_named (spec.Linear min max n) = refl
kind_named spec.Boolean = refl
kind_named (spec.Custom values) = refl
kind_named spec.Sparse = refl

-- ---- a record among the words

module _ (shape : Dimensions) (words : List ℕ) (anatomy : Anatomy) (shown : IsShown shape words (layout_of anatomy)) (version : ℕ) (chain : List ℕ) where
  -- what a record of a histogram holds
  pub record_holds : (at : ℕ) (r : Record) → HasRecord anatomy.pieces at r → IsLawfulRecord version shape.page r
      → HoldsMade words chain at (made.Histogram r.name r.spec)
  record_holds at r has right =
      let word = λ (j : ℕ) (below : j < 15). record_word shape words anatomy shown at r j has below in
      let named = record_name shape words anatomy shown version at r has right in
      let letters = name_long shape words anatomy shown version r right in
      let len = word 14 (omega arith) in
      let long = ap name_words len in
      let sized = right.sized in
      let size = word 0 (omega arith) in
      let ranges = ranges_part shape words anatomy shown version at r has right in
      let spec_is = record_spec shape words anatomy shown version at r has right in
      let many = buckets_are shape words anatomy shown version at r has right in
      let page = ap (λ (ws : List ℕ). slice_index ws 3) shown.shows in
      let fits = right.fits in (
        word 2 (omega arith),
        and_from _ _ (le-leb (15 + name_words (field_at words at 14)) (field_at words at 0) (omega (arith, long, letters, size, sized)))
            (ap is_name named ∙ right.named),
        named,
        ap is_kind (word 4 (omega arith)) ∙ kind_named r.spec,
        and_from _ _ (le-leb (reading.record_words words at) (field_at words at 0)
            (room at r has (field_at words at 4 == 3) (eqb-true (field_at words at 4) 3) (15 + name_words (field_at words at 14)) (field_at words at 7 - 1)
            (omega (arith, long, letters))
            (λ custom. ap (λ (n : ℕ). n - 1) (word 7 (omega arith)) ∙ ranges_fewer r.spec (sym (word 4 (omega arith)) ∙ custom))
            (omega (arith, size, sized))))
            ((λ j. is_spec_named (word 4 (omega arith) j) (word 5 (omega arith) j) (word 6 (omega arith) j) (word 7 (omega arith) j) (inner_ranges words at))
            ∙ spec_is_named r.spec (inner_ranges words at) right.lawful ranges),
        subst (λ (kind : Spec). SameSpec kind r.spec) (sym spec_is) (same_spelled r.spec),
        omega (arith, fits, many, page),
        subst (AreNameWords r.name) (sym (letters_part shape words anatomy shown version at r has right)) right.lettered,
      )
    where
      room : (at : ℕ) (r : Record) → HasRecord anatomy.pieces at r → (b : Bool) → (b ≡ true → field_at words at 4 ≡ 3) → (fields ranges : ℕ)
          → fields ≤ 15 + length r.letters → (field_at words at 4 ≡ 3 → ranges ≡ length (spec_ranges r.spec))
          → 15 + length r.letters + length (spec_ranges r.spec) ≤ field_at words at 0
          → fields + (if b then ranges else 0) ≤ field_at words at 0
      room at r has true custom fields ranges less are most = let e = are (custom refl) in omega (arith, e, less, most)
      room at r has false custom fields ranges less are most = omega (arith, less, most)

-- so does a record of a kept state
pub holds_histogram : (shape : Dimensions) (opened : Anatomy) (state : State) (kept : Invariant shape opened state) (at : ℕ) (r : Record)
    → HasRecord kept.anatomy.pieces at r → HoldsMade state.words (order_of kept.anatomy) at (made.Histogram r.name r.spec)
holds_histogram shape opened state kept at r has =
    record_holds shape state.words kept.anatomy kept.shown kept.anatomy.version (order_of kept.anatomy) at r has (kept.records.lawful at r has)

-- ---- a kept state

module _ (shape : Dimensions) (opened : Anatomy) (state : State) (kept : Invariant shape opened state) where
  -- what a record of the list holds
  holds_given : (l : Listed) → Contains kept.anatomy.records l → (m : Made) → l.made ≡ Some m → HoldsMade state.words (order_of kept.anatomy) l.reference m
  holds_given l there (made.Histogram name kind) is =
      let (r, has, named, specified) = subst (StandsAs kept.anatomy.pieces l) is (standing_of shape opened state.words (laid_out shape opened state kept) l there) in
      subst (λ (p : List ℕ × Spec). HoldsMade state.words (order_of kept.anatomy) l.reference (made.Histogram p.0 p.1)) (λ j. (named j, specified j))
      (holds_histogram shape opened state kept l.reference r has)
  holds_given l there (made.Sample of value) is =
      let (s, has, mine, valued) = subst (StandsAs kept.anatomy.pieces l) is (standing_of shape opened state.words (laid_out shape opened state kept) l there) in
      let right = kept.records.valued l.reference s has in
      let sized = right.sized in
      let size = piece_word shape state.words kept.anatomy kept.shown has.0 _ 0 has.1 (omega arith) in
      let among = at_from kept.anatomy.records l there in
      let (front, behind, split, others) = split_at kept.anatomy.records among.0 l among.1 in
      let here : kept.anatomy.records ≡ front ++ record { reference = l.reference; made = Some (made.Sample of value) } ∷ behind =
      split ∙ ap (λ (m : Option Made). front ++ record { reference = l.reference; made = m } ∷ behind) is in
      let (name, (xs, ys, before, none_first, given), its_name) = kept.records.sampled front behind l.reference of value here in
      let first : IsFirst kept.anatomy.records s.name spec.Sparse of =
      subst (IsFirst kept.anatomy.records s.name spec.Sparse) mine (sample_first shape opened state.words (laid_out shape opened state kept) l.reference s has) in
      let histogram_is = name_of_first shape opened state.words (laid_out shape opened state kept) s.name spec.Sparse of first in
      let (kind, r, again, (stands, called, sorted)) = first_of_name shape opened state.words (laid_out shape opened state kept) s.name of histogram_is in
      let sparse : r.spec ≡ spec.Sparse = sorted ∙ (one_first shape opened state kept s.name kind spec.Sparse of of again first).1 in
      let references = λ (records : List Listed). map (λ (l : Listed). l.reference) records in
      let says = is_sample_of shape opened state.words (laid_out shape opened state kept) l.reference s has in (
        (says.0, says.1 ∙ mine, says.2 ∙ valued),
        omega (arith, size, sized),
        subst (λ (v : ℤ). reading.is_i32 v ≡ true) valued right.valued,
        (
          s.name,
          references front,
          references behind,
          histogram_is,
          kind_word shape opened state.words (laid_out shape opened state kept) of r stands ∙ ap (λ (kind : Spec). slice_index (spec_fields kind) 0 == 4) sparse,
          ap references split ∙ map-append (λ (l : Listed). l.reference) front (l ∷ behind),
          subst (λ (list : List ℕ). Contains list of) (sym (ap references before ∙ map-append (λ (l : Listed). l.reference) xs _))
              (Contains-append_right (references xs) (of ∷ references ys) of (0, omega arith, refl)),
        ),
      )

  -- a published record is on the list
  published_listed : (p : Published) → Contains (all_published state.actors) p → Contains kept.anatomy.records (listed p)
  published_listed p there =
      let (front, all, permuted) = kept.list.once in
      let place = at_from (all_published state.actors) p there in
      let among = contains_at (map listed (all_published state.actors)) place.0 (listed p) (at_map listed (all_published state.actors) place.0 p place.1) in
      subst (λ (records : List Listed). Contains records (listed p)) (sym all)
      (Contains-append_right opened.records front (listed p)
      (Contains-permutation (map listed (all_published state.actors)) front (listed p) (IsPermutation-sym _ _ permuted) among))

-- ---- with its opening

module _ (shape : Dimensions) (opened : Anatomy) (state : State) (opens : Opens shape opened) (kept : Invariant shape opened state) where
  abbrev before : List ℕ
  before = (opening_of shape opened).words

  abbrev first : List Claim
  first = (opening_of shape opened).claims

  -- the counts that a record names were claimed, and are no record
  claimed_counts : (at : ℕ) → Contains (order_of kept.anatomy) at → field_at state.words at 2 ≡ 1 → field_at state.words at 8 ≢ 0
      → Contains (places_of (all_claims first state.actors)) (field_at state.words at 8) × (¬ (Contains (order_of kept.anatomy) (field_at state.words at 8)))
  claimed_counts at there one some_there =
      let ((body, stands, claimed), unlisted) = counts_named shape opened state kept at there one some_there in
      (claimed_at shape opened state kept stands.0 _ stands.1 claimed, unlisted)

  -- a record in which nobody counts is unchanged, or holds nothing
  later : (front : List ℕ) (at other : ℕ) → IsChain before (head_of before) front → Contains (order_of kept.anatomy) at → field_at state.words at 2 ≡ 1
      → IsHistogram state.words (order_of kept.anatomy) (name_of state.words at) other → other ≢ at
      → (Contains front at → CountsStill before state.words at) × (¬ (Contains front at) → HoldsNothing state.words at)
  later front at other chain there one is apart =
      let order : front ≡ order_of opened = front_is shape opened opens front chain in
      elim (record_on_list shape opened state.words (laid_out shape opened state kept) at there one) [
        | inl (l, name, kind, r, among, place, made, (has, named, specified)) ↦ (
          λ inside. later_still shape opened state opens kept at other r has is apart (subst (λ (list : List ℕ). Contains list at) order inside),
          λ absent. holds_nothing shape state.words kept.anatomy kept.shown at r has (later_record shape opened state kept at other r has is apart).2,
        )
        | inr (l, passed, r, among, nothing, over) ↦ (
          λ inside. passed_still shape opened state opens kept passed at r over,
          λ absent. absurd (absent (subst (λ (list : List ℕ). Contains list at) (sym order)
              (contains_map (λ (l : Listed). l.reference) opened.records (record { reference = at; made = None }) over.2.0))),
        )
      ]

  -- each record of the list has a valid form
  formed : (at : ℕ) → Contains (order_of kept.anatomy) at → field_at state.words at 2 ≡ 1 → HasForm opened.version state.words at
  formed at there one = elim (record_on_list shape opened state.words (laid_out shape opened state kept) at there one) [
    | inl (l, name, kind, r, among, place, made, (has, named, specified)) ↦ formed_as shape opened state.words (laid_out shape opened state kept) at r has
    | inr (l, front, r, among, nothing, over) ↦ passed_as shape opened state.words (laid_out shape opened state kept) front at r over.0
  ]

  hold : RecordsHold before first state.words state.actors (order_of kept.anatomy)
  hold = record {
    made = λ p there. holds_given shape opened state kept (listed p) (published_listed shape opened state kept p there) p.made refl;
    still = λ front at is there. holds_still shape opened state opens kept at
        (subst (λ (list : List ℕ). Contains list at) (front_is shape opened opens front is) there);
    formed = formed;
    own_counts = own_counts shape opened state kept;
    claimed_counts = claimed_counts;
    singles = λ who a alive lives s at seen there same. single_leads shape opened state kept s at
        (All-contains (WasSingle kept.anatomy.version kept.anatomy.pieces) a.seen.singles s (kept.each who a alive lives).sees.singles seen) same;
    later = later;
    later_samples = later_sample shape opened state kept;
  }

pub records_hold : KeptRecordsHold
records_hold shape opened state opens kept = hold shape opened state (opens_as shape opened opens) kept
