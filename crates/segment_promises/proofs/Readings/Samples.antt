-- The samples on the list of words that are kept: none has a fault, so those that are read are all of them.
use Rattle.segment_invariant.proofs.Prelude.Std.{◌≡◌, ◌≢◌, Bool, true, false, cond, ◌&&◌, ◌||◌, ℕ, suc, ◌<◌, ◌≤◌, ℤ, List, [], ◌∷◌, ◌++◌, map, take, drop, length, append_assoc, refl, sym, ap, subst, ◌∙◌, arith, Some, not, ◌==◌, nat_lt, slice_index, filter, range_with_len, Contains, and_from, eqb-true, eqb-false, eq-eqb, le-ltb, take-append-drop, some, get_elem?, contains_at, from_map, first_longer, split_among}
use Rattle.segment_invariant.proofs.Prelude.Machine.{Dimensions, head_of, field_at, Spec, spec_fields, is_of_type, is_sparse, sample_value}
use Rattle.segment_invariant.proofs.Prelude.Invariant.{IsHistogram, Sample, sample, Listed, Anatomy, order_of, units_held, all_held, HasSample, IsRecordNamed, IsFirst, IsFirstOf}
use Rattle.std.specs.List.{list_any}
use Rattle.std.proofs.lemmas.Bool.{or_from}
use Rattle.std.proofs.lemmas.List.{take-map, same_lists, get_or_default}
use Rattle.std.proofs.lemmas.List.Folds.{list_any-from_Any}
use Rattle.std.proofs.lemmas.List.FromFn.{length-map-range_with_len, get_or-map-range_with_len}
use Rattle.std.proofs.lemmas.Simd.{map-map}
use Rattle.atomic_table.proofs.Lists.{drop_at}
use Rattle.bucket_ranges.specs.declared.spec.Spec.TheVariants as spec
use Rattle.bucket_ranges.specs.Reading.{is_sparse_read, read_records, sample_histogram, sample_count, sample_mark, is_i32, has_bad_sample, is_bad_sample, is_sample, with_earlier, lawful_samples}
use Rattle.segment_machine.specs.declared.actor.Made.TheVariants as made
use Rattle.segment_invariant.specs.Consistent as consistent
use Rattle.list_lemmas.proofs.Maps.{contains_take}
use Rattle.list_lemmas.proofs.Pairs.{element_at}
use Rattle.segment_invariant.specs.Words.{AreLaid, WordsAreKept}
use Rattle.segment_invariant.proofs.Blocks.Pieces.{piece_word}
use Rattle.segment_invariant.proofs.Consistency.Books.{range_at, sample_first, units_book, value_held}
use Rattle.segment_invariant.proofs.Consistency.Firsts.{Valued, is_sample_of, record_of_first, name_given, name_or_before, given_value, first_value_there}
use Rattle.list_lemmas.proofs.Firsts.{first_image}
use Rattle.segment_invariant.proofs.Consistency.Totals.{kind_word}
use Rattle.segment_promises.proofs.Readings.Firsts.{read_to}
use Rattle.segment_promises.proofs.Readings.Names.{no_listed_fault}

-- ---- lists

-- a list around a place
split_there : {X : Type 0} (l : List X) (i : ℕ) (x : X) → get_elem? l i ≡ some x → l ≡ take i l ++ x ∷ drop (suc i) l
split_there l i x there = sym (take-append-drop i l) ∙ ap (λ (behind : List _). take i l ++ behind) (drop_at l i x there)

-- an element that passes makes a test of any pass
any_passes : {X : Type 0} (p : X → Bool) (l : List X) (x : X) → Contains l x → p x ≡ true → list_any p l ≡ true
any_passes p l x (k, below, is) passes = list_any-from_Any p l (k, x, below, is, passes)

-- to filter and then map is to map and then filter, if the tests agree
pub mapped_filter : {X Y : Type 0} (f : X → Y) (test : X → Bool) (p : Y → Bool) (l : List X) → ((i : ℕ) (x : X) → get_elem? l i ≡ some x → test x ≡ p (f x))
    → map f (filter test l) ≡ filter p (map f l)
mapped_filter f test p [] same = refl
mapped_filter f test p (x ∷ rest) same =
    by_test (test x) (same 0 x refl) (mapped_filter f test p rest (λ i y there. same (suc i) y there))
  where
    by_test : (b : Bool) → b ≡ p (f x) → map f (filter test rest) ≡ filter p (map f rest)
        → map f (cond b (x ∷ filter test rest) (filter test rest)) ≡ cond (p (f x)) (f x ∷ filter p (map f rest)) (filter p (map f rest))
    by_test true is later = (λ i. cond (is i) (f x ∷ later i) (later i))
    by_test false is later = (λ i. cond (is i) (f x ∷ later i) (later i))

-- if what passes one test never fails another, both keep the same
pub kept_by : (b bad : Bool) → (b ≡ true → bad ≡ false) → (b && not bad) ≡ b
kept_by true bad right = ap not (right refl)
kept_by false bad right = refl

-- the records that are paired with those before them are the records
pub without_earlier : (references : List ℕ) → map (λ (placed : List ℕ × ℕ). placed.1) (with_earlier references) ≡ references
without_earlier references =
    let n : ℕ = length references in
    let long : length (map (slice_index references) (range_with_len 0 n)) ≡ n = length-map-range_with_len (slice_index references) 0 n in
    map-map (λ (placed : List ℕ × ℕ). placed.1) (λ i. (take i references, slice_index references i)) (range_with_len 0 n)
    ∙ same_lists (map (slice_index references) (range_with_len 0 n)) references long (λ k d below.
    get_or-map-range_with_len (slice_index references) 0 n k k d (omega (arith, below, long)) (omega arith)
    ∙ get_or_default references k 0 d (omega (arith, below, long)))

-- and each is at its place
pub earlier_at : (references : List ℕ) (k : ℕ) (placed : List ℕ × ℕ) → get_elem? (with_earlier references) k ≡ some placed
    → (placed.0 ≡ take k references) × (get_elem? references k ≡ some placed.1)
earlier_at references k placed there =
    let (y, at, is) = from_map (λ i. (take i references, slice_index references i)) (range_with_len 0 (length references)) k placed there in
    let (same, below) = range_at 0 (length references) k y at in
    let here : y ≡ k = omega (arith, same) in (
      sym (ap (λ (placed : List ℕ × ℕ). placed.0) is) ∙ ap (λ (i : ℕ). take i references) here,
      element_at references k 0 below
          ∙ ap some (sym (ap (slice_index references) here) ∙ ap (λ (placed : List ℕ × ℕ). placed.1) is),
    )

-- ---- words that are laid out

module _ (shape : Dimensions) (opened : Anatomy) (words : List ℕ) (kept : AreLaid shape opened words) where
  abbrev pub Sampled : ℕ → ℤ → ℕ → Listed
  Sampled of value at = record { reference = at; made = Some (made.Sample of value) }

  -- a record whose words say that it is a sample was made as one
  pub sample_listed : (i at : ℕ) → get_elem? (order_of kept.anatomy) i ≡ some at → field_at words at 2 ≡ 3
      → (of : ℕ) × (value : ℤ) × (s : Sample) × (get_elem? kept.anatomy.records i ≡ some (Sampled of value at)) × Valued shape opened words kept of value at s
  sample_listed i at there three =
      let (l, here, place) = from_map (λ (l : Listed). l.reference) kept.anatomy.records i at there in
      let (s, made_is, has) = given_value shape opened words kept l (field_at words l.reference 4) (sample_value words l.reference)
      (contains_at kept.anatomy.records i l here) (subst (λ (at : ℕ). field_at words at 2 ≡ 3) (sym place) three, refl, refl) in
      let of : ℕ = field_at words l.reference 4 in
      let value : ℤ = sample_value words l.reference in
      (of, value, s, here ∙ (λ j. some (record { reference = place j; made = made_is j })), subst (λ (at : ℕ). Valued shape opened words kept of value at s) place has)

  -- what the first sample of a value holds
  pub first_held : (at : ℕ) (s : Sample) → HasSample kept.anatomy.pieces at s → IsFirstOf kept.anatomy.records s.of s.value at
      → all_held (units_held kept.anatomy.version s.name s.value) kept.anatomy.pieces ≡ s.units
  first_held at s has first =
      let its = sample_first shape opened words kept at s has in
      let (r, (stands, named, specified)) = record_of_first shape opened words kept s.name spec.Sparse s.of its in
      value_held shape opened words kept s.name spec.Sparse s.of r its stands named specified s.value _ _ _ _
      (units_book kept.anatomy.version s.name s.value kept.versions) specified at s first has refl refl

-- ---- and whose numbers are in bounds

module _ (shape : Dimensions) (opened : Anatomy) (words : List ℕ) (kept : WordsAreKept shape opened words) where
  -- its count is no more than a segment may count
  sample_fits : (at : ℕ) (s : Sample) → HasSample kept.laid.anatomy.pieces at s → s.units ≤ 4294967295
  sample_fits at s has =
      let among = kept.laid.list.alone at (sample s) has in
      let (place, first) = first_value_there kept.laid.anatomy.records s.of s.value _ among refl in
      by_place place first (place == at) (eqb-true place at) (eqb-false place at)
    where
      by_place : (place : ℕ) → IsFirstOf kept.laid.anatomy.records s.of s.value place → (b : Bool) → (b ≡ true → place ≡ at) → (b ≡ false → place ≢ at)
          → s.units ≤ 4294967295
      by_place place first true same apart =
          kept.bounds.samples at s has (subst (IsFirstOf kept.laid.anatomy.records s.of s.value) (same refl) first)
      by_place place first false same apart =
          let none = (kept.laid.records.later_samples at place s has first (apart refl)).0 in
          omega (arith, none)

  -- its words are right
  sample_right : (at : ℕ) (s : Sample) → HasSample kept.laid.anatomy.pieces at s → has_bad_sample words at ≡ false
  sample_right at s has =
      let right = kept.laid.records.valued at s has in
      let word = λ (j : ℕ) (below : j < 8). piece_word shape words kept.laid.anatomy kept.laid.shown has.0 _ j has.1 (omega (arith, below)) in
      let size = word 0 (omega arith) in
      let units = word 6 (omega arith) in
      let mark = word 7 (omega arith) in
      let sized = right.sized in
      let taken = right.taken in
      let fits = sample_fits at s has in
      let value : sample_value words at ≡ s.value = (is_sample_of shape opened words kept.laid at s has).2 in
      let long : nat_lt (field_at words at 0) 8 ≡ false = le-ltb (field_at words at 0) 8 (omega (arith, size, sized)) in
      let numbered : not (is_i32 (sample_value words at)) ≡ false = ap (λ (v : ℤ). not (is_i32 v)) value ∙ ap not right.valued in
      let few : nat_lt 4294967295 (sample_count words at) ≡ false = le-ltb 4294967295 (sample_count words at) (omega (arith, units, fits)) in
      let marked : nat_lt (sample_count words at) (sample_mark words at) ≡ false =
      le-ltb (sample_count words at) (sample_mark words at) (omega (arith, units, mark, taken)) in
      λ i. long i || numbered i || few i || marked i

  -- the histogram of a sample is read of the records before it
  histogram_read : (i at of : ℕ) (value : ℤ) → get_elem? kept.laid.anatomy.records i ≡ some (Sampled shape opened words kept.laid of value at)
      → is_sparse_read words (head_of words) (take i (order_of kept.laid.anatomy)) of ≡ true
  histogram_read i at of value there =
      let before : List Listed = take i kept.laid.anatomy.records in
      let (name, first, its_name) = kept.laid.records.sampled before (drop (suc i) kept.laid.anatomy.records) at of value (split_there kept.laid.anatomy.records i _ there) in
      let histogram_is : IsHistogram words (map (λ (l : Listed). l.reference) before) name of =
      first_image (λ (l : Listed). l.reference) before (IsRecordNamed name) (consistent.HasName words name)
      (λ f b l here named. name_or_before shape opened words kept.laid name f (b ++ drop i kept.laid.anatomy.records) l
      (sym (take-append-drop i kept.laid.anatomy.records) ∙ (ap (λ (list : List Listed). list ++ drop i kept.laid.anatomy.records) here ∙ append_assoc f (l ∷ b) (drop i kept.laid.anatomy.records)))
      named)
      _ first (name_given shape opened words kept.laid _ name (contains_take i kept.laid.anatomy.records _ (split_among first.0 first.1 first.2)) (spec.Sparse, refl)) in
      let earlier : List ℕ = take i (order_of kept.laid.anatomy) in
      let here = subst (λ (list : List ℕ). IsHistogram words list name of) (sym (take-map (λ (l : Listed). l.reference) i kept.laid.anatomy.records)) histogram_is in
      let read = read_to words (head_of words) earlier
      (λ at there. no_listed_fault shape opened words kept at (contains_take i (order_of kept.laid.anatomy) at there)) name of here in
      let whole : IsFirst kept.laid.anatomy.records name spec.Sparse of =
      subst (λ (records : List Listed). IsFirst records name spec.Sparse of) (take-append-drop i kept.laid.anatomy.records)
      (first_longer (IsRecordNamed name) before (drop i kept.laid.anatomy.records) _ first) in
      let (r, (has, named, specified)) = record_of_first shape opened words kept.laid name spec.Sparse of whole in
      let sparse : is_sparse words of ≡ true =
      kind_word shape opened words kept.laid of r has ∙ ap (λ (kind : Spec). slice_index (spec_fields kind) 0 == 4) specified in
      any_passes (λ reference. (reference == of) && is_sparse words reference) (read_records words (head_of words) earlier) of read
      (and_from _ _ (eq-eqb of of refl) sparse)

  -- so no sample has a fault
  pub sample_is_right : (i at : ℕ) → get_elem? (order_of kept.laid.anatomy) i ≡ some at → field_at words at 2 ≡ 3
      → is_bad_sample words (head_of words) (take i (order_of kept.laid.anatomy)) at ≡ false
  sample_is_right i at there three =
      let (of, value, s, listed, (has, of_it, valued)) = sample_listed shape opened words kept.laid i at there three in
      let names : sample_histogram words at ≡ of = (is_sample_of shape opened words kept.laid at s has).1 ∙ of_it in
      or_from _ _ (sample_right at s has)
      (ap not (ap (is_sparse_read words (head_of words) (take i (order_of kept.laid.anatomy))) names ∙ histogram_read i at of value listed))

  -- and all are read
  pub samples_are : lawful_samples words (head_of words) (order_of kept.laid.anatomy) ≡ filter (is_of_type words 3) (order_of kept.laid.anatomy)
  samples_are =
      mapped_filter (λ (placed : List ℕ × ℕ). placed.1) (is_sample words (head_of words)) (is_of_type words 3) (with_earlier (order_of kept.laid.anatomy))
      (λ k placed there.
      let (before, here) = earlier_at (order_of kept.laid.anatomy) k placed there in
      kept_by (is_of_type words 3 placed.1) (is_bad_sample words (head_of words) placed.0 placed.1)
      (λ three. ap (λ (earlier : List ℕ). is_bad_sample words (head_of words) earlier placed.1) before
      ∙ sample_is_right k placed.1 here (eqb-true (field_at words placed.1 2) 3 three)))
      ∙ ap (filter (is_of_type words 3)) (without_earlier (order_of kept.laid.anatomy))
