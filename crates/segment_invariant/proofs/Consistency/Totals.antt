-- The totals of a kept state are what was counted.
use Rattle.segment_invariant.proofs.Prelude.Std.{◌≡◌, ◌≢◌, Bool, true, false, ◌&&◌, if◌then◌else◌, ℕ, zero, suc, ◌+◌, ◌<◌, ℤ, pos, List, [], ◌∷◌, ◌++◌, length, sum_by, length-append, inl, inr, ⊎_elim, refl, sym, ap, subst, ◌∙◌, arith, Option, Some, slice_index, ◌==◌, int_eq, Contains, eqb-true, eqb-false, eq-eqb, ne_eqb, All-contains, sum_by-cons, some, none, some-injective, some-ne-none, get_elem?, at_from}
use Rattle.segment_invariant.proofs.Prelude.Machine.{Dimensions, field_at, Spec, buckets_of, spec_fields, boundaries_of, is_sparse, total_of, packed_bucket, units_packed, Actor, Known, Place, Look, Moving, State, is_off, units_in, known_at, all_counted, tally_units}
use Rattle.segment_invariant.proofs.Prelude.Invariant.{Record, Counts, histogram, counts, words_of, Anatomy, order_of, form_at, key_of_bucket, at_bucket, keyed, units_held, all_held, moving_at, HasRecord, HasCounts, IsFirst, IsRightlyKnown, StandsRight, Invariant, HasKey}
use Rattle.bucket_ranges.specs.declared.spec.Spec.TheVariants as spec
use Rattle.bucket_ranges.specs.Reading.{count_at}
use Rattle.segment_machine.specs.Actor.{transit_at, transit_of}
use Rattle.segment_invariant.specs.Words.{AreLaid}
use Rattle.segment_invariant.proofs.Frames.LaidOut.{laid_out}
use Rattle.segment_invariant.proofs.Frames.OneActor.{moves_or_not}
use Rattle.segment_invariant.proofs.Lists.FewTerms.{sum_none}
use Rattle.segment_invariant.specs.Consistent.{HasPlace}
use Rattle.segment_invariant.specs.Ledger.{moving_of, all_moving}
use Rattle.segment_invariant.specs.Keeps.{KeptTotalsAreCounted}
use Rattle.segment_invariant.proofs.Blocks.Pieces.{piece_word, one_stands}
use Rattle.segment_invariant.proofs.Counting.Seen.{count_in, mark_in}
use Rattle.segment_invariant.proofs.Consistency.Records.{record_word}
use Rattle.segment_invariant.proofs.Consistency.Specs.{buckets_are, key_is, form_is}
use Rattle.segment_invariant.proofs.Consistency.Keys.{same_boundaries, key_test, packed_within, packed_units, no_packed}
use Rattle.segment_invariant.proofs.Consistency.Sums.{of_mine, nothing_of}
use Rattle.segment_invariant.proofs.Consistency.Firsts.{first_of_name, name_of_first, first_of_value, value_of_first}
use Rattle.segment_invariant.proofs.Consistency.Books.{one_first, one_name, units_book, keyed_one, bucket_alone, bucket_mounted, value_held}

-- ---- specs by their kinds

pub sparse_kind : (kind : Spec) → slice_index (spec_fields kind) 0 == 4 ≡ true → kind ≡ spec.Sparse
sparse_kind (spec.Linear min max n) is = cc is
sparse_kind spec.Boolean is = cc is
sparse_kind (spec.Custom values) is = cc is
sparse_kind spec.Sparse is = refl

pub bucketed_kind : (kind : Spec) → slice_index (spec_fields kind) 0 == 4 ≡ false → kind ≢ spec.Sparse
bucketed_kind kind is sparse = cc (is, ap (λ (kind : Spec). slice_index (spec_fields kind) 0 == 4) sparse)

pub has_buckets : (kind : Spec) (bucket : ℕ) → bucket < buckets_of kind → slice_index (spec_fields kind) 0 == 4 ≡ false
has_buckets (spec.Linear min max n) bucket below = refl
has_buckets spec.Boolean bucket below = refl
has_buckets (spec.Custom values) bucket below = refl
has_buckets spec.Sparse bucket below = absurd (omega (arith, below))

-- ---- actors one by one

-- sums of what is the same are the same
pub same_sums : {X : Type 0} (f g : X → ℕ) (l : List X) → ((k : ℕ) (x : X) → get_elem? l k ≡ some x → f x ≡ g x) → sum_by f l ≡ sum_by g l
same_sums f g [] same = refl
same_sums f g (x ∷ xs) same =
    let first = same 0 x refl in
    let rest = same_sums f g xs (λ k y there. same (suc k) y there) in
    let p = sum_by-cons f x xs in
    let q = sum_by-cons g x xs in
    omega (arith, first, rest, p, q)

-- what an actor finds under a reference that it knows
abbrev Finds : List Known → ℕ → Type 0
Finds names reference = (found : Known) × (known_at names reference ≡ Some found) × Contains names found × (found.reference ≡ reference)

pub find_known : (names : List Known) (reference k : ℕ) (known : Known) → get_elem? names k ≡ some known → known.reference ≡ reference → Finds names reference
find_known [] reference k known there same = absurd (some-ne-none known (sym there))
find_known (x ∷ xs) reference zero known there same =
    let here : x.reference ≡ reference = ap (λ (known : Known). known.reference) (some-injective x known there) ∙ same in
    (x, ap (λ (b : Bool). if b then Some x else known_at xs reference) (eq-eqb x.reference reference here), (0, omega arith, refl), here)
find_known (x ∷ xs) reference (suc k) known there same = either (x.reference == reference) refl (find_known xs reference k known there same)
  where
    either : (b : Bool) → (x.reference == reference) ≡ b → Finds xs reference → Finds (x ∷ xs) reference
    either true here later =
        (x, ap (λ (b : Bool). if b then Some x else known_at xs reference) here, (0, omega arith, refl), eqb-true x.reference reference here)
    either false other (found, is, (i, below, at), names_it) =
        (found, ap (λ (b : Bool). if b then Some x else known_at xs reference) other ∙ is, (suc i, omega (arith, below), at), names_it)

-- ---- words that are laid out

module _ (shape : Dimensions) (opened : Anatomy) (words : List ℕ) (kept : AreLaid shape opened words) where
  -- a record's kind by its word
  pub kind_word : (at : ℕ) (r : Record) → HasRecord kept.anatomy.pieces at r → is_sparse words at ≡ (slice_index (spec_fields r.spec) 0 == 4)
  kind_word at r has = ap (λ (n : ℕ). n == 4) (record_word shape words kept.anatomy kept.shown at r 4 has (omega arith))

  -- a count and a mark by their words
  pub count_word : (at : ℕ) (c : Counts) (i : ℕ) → HasCounts kept.anatomy.pieces at c → i < length c.units → field_at words at (4 + i) ≡ slice_index c.units i
  count_word at c i (k, there) below =
      let long = length-append c.units c.marks in
      let all = length-append (c.units ++ c.marks) c.rest in
      piece_word shape words kept.anatomy kept.shown k _ (4 + i) there (omega (arith, below, long, all)) ∙ count_in c i below

  pub mark_word : (at : ℕ) (c : Counts) (n i : ℕ) → HasCounts kept.anatomy.pieces at c → length c.units ≡ n → i < length c.marks
      → field_at words at (4 + n + i) ≡ slice_index c.marks i
  mark_word at c n i (k, there) units below =
      let long = length-append c.units c.marks in
      let all = length-append (c.units ++ c.marks) c.rest in
      piece_word shape words kept.anatomy kept.shown k _ (4 + n + i) there (omega (arith, below, long, all, units))
      ∙ (ap (λ (n : ℕ). slice_index (words_of (counts c)) (4 + n + i)) (sym units) ∙ mark_in c i below)

  -- a total by the words
  pub total_words : (at : ℕ) (r : Record) → HasRecord kept.anatomy.pieces at r → (v i : ℕ)
      → total_of v words at i ≡ count_at words r.counts i + units_packed (form_at v r) i
  total_words at r has v i =
      let counts_ref = record_word shape words kept.anatomy kept.shown at r 8 has (omega arith) in
      let form = form_is shape words kept.anatomy kept.shown kept.anatomy.version at r has (kept.records.lawful at r has) v in
      (λ j. count_at words (counts_ref j) i + units_packed (form j) i)

  module _ (name : List ℕ) (kind : Spec) (at : ℕ) (r : Record) (first : IsFirst kept.anatomy.records name kind at) (has : HasRecord kept.anatomy.pieces at r)
      (named : r.name ≡ name) (specified : r.spec ≡ kind) (bucketed : r.spec ≢ spec.Sparse) (i : ℕ) (below : i < buckets_of r.spec) where
    -- a bucket's total is what blocks hold of its key
    pub total_held : total_of kept.anatomy.version words at i ≡ all_held (units_held kept.anatomy.version name (key_of_bucket r.spec i)) kept.anatomy.pieces
    total_held = by_counts (r.counts == 0) (eqb-true r.counts 0) (eqb-false r.counts 0)
      where
        packed : at_bucket r.spec (key_of_bucket r.spec i) (packed_bucket (form_at kept.anatomy.version r)) (units_in (form_at kept.anatomy.version r))
            ≡ units_packed (form_at kept.anatomy.version r) i
        packed = packed_units r.spec (kept.records.lawful at r has).lawful bucketed i below (form_at kept.anatomy.version r)
            (λ bucket is. packed_within kept.anatomy.version (buckets_of r.spec) r.single bucket is)

        words_say : total_of kept.anatomy.version words at i ≡ count_at words r.counts i + units_packed (form_at kept.anatomy.version r) i
        words_say = total_words at r has kept.anatomy.version i

        by_counts : (b : Bool) → (b ≡ true → r.counts ≡ 0) → (b ≡ false → r.counts ≢ 0)
            → total_of kept.anatomy.version words at i ≡ all_held (units_held kept.anatomy.version name (key_of_bucket r.spec i)) kept.anatomy.pieces
        by_counts true none_there some_there =
            let all = bucket_alone shape opened words kept name kind at r first has named specified (key_of_bucket r.spec i) _ _ _ _
            (units_book kept.anatomy.version name (key_of_bucket r.spec i) kept.versions) bucketed (none_there refl) in
            let count = ap (λ (counts_ref : ℕ). count_at words counts_ref i) (none_there refl) in
            omega (arith, words_say, all, packed, count)
        by_counts false none_there some_there =
            let (c, mounted, of_it) = kept.records.mounted at r has (some_there refl) in
            let long : length c.units ≡ buckets_of r.spec = of_it.units in
            let all = bucket_mounted shape opened words kept name kind at r first has named specified (key_of_bucket r.spec i) _ _ _ _
            (units_book kept.anatomy.version name (key_of_bucket r.spec i) kept.versions) bucketed c mounted of_it.named in
            let one = ap (λ (kind : Spec). keyed kind (key_of_bucket r.spec i) c.units) of_it.same
            ∙ keyed_one r.spec c.units i (kept.records.lawful at r has).lawful bucketed long below in
            let count = ap (λ (b : Bool). if b then 0 else field_at words r.counts (4 + i)) (ne_eqb r.counts 0 (some_there refl))
            ∙ count_word r.counts c i mounted (omega (arith, below, long)) in
            omega (arith, words_say, all, packed, one, count)

-- ---- a kept state

module _ (shape : Dimensions) (opened : Anatomy) (state : State) (kept : Invariant shape opened state) where
  module _ (name : List ℕ) (kind : Spec) (at : ℕ) (r : Record) (first : IsFirst kept.anatomy.records name kind at) (has : HasRecord kept.anatomy.pieces at r)
      (named : r.name ≡ name) (specified : r.spec ≡ kind) where
    -- units that an actor moves are those of a bucket of a record
    moving_record : (look : Look) (q : Record) → HasRecord kept.anatomy.pieces look.histogram q → look.histogram ≡ at → q ≡ r
    moving_record look q there same =
        let bodies : histogram q ≡ histogram r = (one_stands shape state.words kept.anatomy kept.shown at none none (histogram q) (histogram r)
        (subst (λ (at : ℕ). HasRecord kept.anatomy.pieces at q) same there) has).1 in
        cc bodies

    -- what an actor that moves units knows
    pub moving_known : (who : ℕ) (a : Actor) (look : Look) (bucket units : ℕ) → get_elem? state.actors who ≡ some a → a.hand.place ≡ Moving look bucket units
        → (found : Known) × (known_at a.answers.names look.histogram ≡ Some found) × (found.reference ≡ look.histogram) × IsRightlyKnown kept.anatomy found
    moving_known who a look bucket units there place =
        let stands = subst (StandsRight shape kept.anatomy who a) place (kept.standing who a there) in
        let names = (kept.each who a there (λ spent. cc (sym place ∙ spent))).names in
        let known = at_from a.answers.names stands.0.known stands.0.knows.0 in
        let (found, is, among, names_it) = find_known a.answers.names look.histogram known.0 stands.0.known known.1 stands.0.knows.1 in
        (found, is, names_it, All-contains (IsRightlyKnown kept.anatomy) a.answers.names found names among)

    module _ (bucketed : r.spec ≢ spec.Sparse) (i : ℕ) (below : i < buckets_of r.spec) where
      -- units in transit with an actor are those that the ledger has
      moved : (who : ℕ) (a : Actor) → get_elem? state.actors who ≡ some a → moving_at a name (key_of_bucket r.spec i) a.hand.place ≡ transit_at a.hand.place at i
      moved who a there = ⊎_elim
          (λ moves.
          let (look, bucket, units, place) = moves in
          let stands = subst (StandsRight shape kept.anatomy who a) place (kept.standing who a there) in
          ap (moving_at a name (key_of_bucket r.spec i)) place
          ∙ (by_record look bucket units (moving_known who a look bucket units there place) stands.5 (look.histogram == at) (eqb-true look.histogram at) (eqb-false look.histogram at)
          ∙ sym (ap (λ (place : Place). transit_at place at i) place)))
          (λ still. still.0 a name (key_of_bucket r.spec i) ∙ sym (still.1 at i))
          (moves_or_not a.hand.place)
        where
          by_record : (look : Look) (bucket units : ℕ)
              → (found : Known) × (known_at a.answers.names look.histogram ≡ Some found) × (found.reference ≡ look.histogram) × IsRightlyKnown kept.anatomy found
              → (q : Record) × HasRecord kept.anatomy.pieces look.histogram q × (packed_bucket (form_at 1 q) ≡ Some bucket) × (is_off q.single ≡ true)
              → (b : Bool) → (b ≡ true → look.histogram ≡ at) → (b ≡ false → look.histogram ≢ at)
              → moving_of name (key_of_bucket r.spec i) (known_at a.answers.names look.histogram) bucket units ≡ (if b && (bucket == i) then units else 0)
          by_record look bucket units (found, is, names_it, knows) (q, stands, packs, off) true same apart =
              let here = subst (λ (at : ℕ). IsFirst kept.anatomy.records found.name knows.first_spec at) (names_it ∙ same refl) knows.first in
              let mine : found.name ≡ name = one_name shape opened state kept found.name name knows.first_spec kind at here first in
              let its : knows.first_spec ≡ kind = (one_first shape opened state kept name knows.first_spec kind at at
              (subst (λ (name : List ℕ). IsFirst kept.anatomy.records name knows.first_spec at) mine here) first).1 in
              let bounds : boundaries_of found.spec ≡ boundaries_of r.spec =
              sym (same_boundaries knows.first_spec found.spec knows.same) ∙ ap boundaries_of (its ∙ sym specified) in
              let within = packed_within 1 (buckets_of r.spec) r.single bucket
              (subst (λ (q : Record). packed_bucket (form_at 1 q) ≡ Some bucket) (moving_record look q stands (same refl)) packs) in
              ap (λ (known : Option Known). moving_of name (key_of_bucket r.spec i) known bucket units) is
              ∙ (of_mine found.name name _ mine
              ∙ (ap (λ (boundaries : List ℕ). if int_eq (pos (slice_index boundaries bucket)) (key_of_bucket r.spec i) then units else 0) bounds
              ∙ ap (λ (b : Bool). if b then units else 0) (key_test r.spec (kept.records.lawful at r has).lawful bucketed i below bucket within)))
          by_record look bucket units (found, is, names_it, knows) (q, stands, packs, off) false same apart =
              ap (λ (known : Option Known). moving_of name (key_of_bucket r.spec i) known bucket units) is
              ∙ nothing_of found.name name _ (λ mine. absurd (apart refl (sym names_it ∙ (one_first shape opened state kept name knows.first_spec kind found.reference at
              (subst (λ (name : List ℕ). IsFirst kept.anatomy.records name knows.first_spec found.reference) mine knows.first) first).0)))

      pub moved_all : all_moving name (key_of_bucket r.spec i) state.actors ≡ transit_of state.actors at i
      moved_all = same_sums (λ a. moving_at a name (key_of_bucket r.spec i) a.hand.place) (λ a. transit_at a.hand.place at i) state.actors moved

    -- of a sparse histogram nothing is in transit
    pub moved_none : r.spec ≡ spec.Sparse → (key : ℤ) → all_moving name key state.actors ≡ 0
    moved_none sparse key = sum_none (λ a. moving_at a name key a.hand.place) state.actors (λ who a there _. ⊎_elim
        (λ moves.
        let (look, bucket, units, place) = moves in
        let stands = subst (StandsRight shape kept.anatomy who a) place (kept.standing who a there) in
        let (found, is, names_it, knows) = moving_known who a look bucket units there place in
        let (q, its, packs, off) = stands.5 in
        ap (moving_at a name key) place
        ∙ (ap (λ (known : Option Known). moving_of name key known bucket units) is
        ∙ nothing_of found.name name _ (λ mine.
        let here = sym names_it ∙ (one_first shape opened state kept name knows.first_spec kind found.reference at
        (subst (λ (name : List ℕ). IsFirst kept.anatomy.records name knows.first_spec found.reference) mine knows.first) first).0 in
        let empty = no_packed 1 (buckets_of r.spec) r.single (inl refl) ((kept.records.lawful at r has).sparse sparse).1 in
        let same = moving_record look q its here in
        cc (sym empty ∙ subst (λ (q : Record). packed_bucket (form_at 1 q) ≡ Some bucket) same packs))))
        (λ still. still.0 a name key)
        (moves_or_not a.hand.place))

-- ---- keys

module _ (shape : Dimensions) (opened : Anatomy) (state : State) (kept : Invariant shape opened state) where
  -- what has the key of a bucket, or is the value of a sample, has a place by the words
  pub placed : (name : List ℕ) (key : ℤ) → HasKey kept.anatomy.records name key → HasPlace state.words (order_of kept.anatomy) name key
  placed name key (kind, at, first, keyed_by) =
      let is = name_of_first shape opened state.words (laid_out shape opened state kept) name kind at first in
      let (other, r, again, (has, named, specified)) = first_of_name shape opened state.words (laid_out shape opened state kept) name at is in
      let same : r.spec ≡ kind = specified ∙ (one_first shape opened state kept name other kind at at again first).1 in
      let lawful = kept.records.lawful at r has in (
        at,
        is,
        ⊎_elim
            (λ by_bucket.
            let (bucket, below, key_is_it) = by_bucket in
            inl (
              bucket,
              kind_word shape opened state.words (laid_out shape opened state kept) at r has ∙ (ap (λ (kind : Spec). slice_index (spec_fields kind) 0 == 4) same ∙ has_buckets kind bucket below),
              subst (λ (n : ℕ). bucket < n) (sym (buckets_are shape state.words kept.anatomy kept.shown kept.anatomy.version at r has lawful ∙ ap buckets_of same)) below,
              key_is_it ∙ sym (key_is shape state.words kept.anatomy kept.shown kept.anatomy.version at r has lawful bucket ∙ ap (λ (kind : Spec). key_of_bucket kind bucket) same),
            ))
            (λ by_value.
            let (sparse, place, first_value) = by_value in
            inr (
              place,
              kind_word shape opened state.words (laid_out shape opened state kept) at r has ∙ ap (λ (kind : Spec). slice_index (spec_fields kind) 0 == 4) (same ∙ sparse),
              value_of_first shape opened state.words (laid_out shape opened state kept) at key place first_value,
            ))
            keyed_by,
      )

pub totals_are_counted : KeptTotalsAreCounted
totals_are_counted shape opened state kept = record {
  buckets = λ name at i is plain below.
      let (kind, r, first, (has, named, specified)) = first_of_name shape opened state.words (laid_out shape opened state kept) name at is in
      let right = kept.records.lawful at r has in
      let bucketed = bucketed_kind r.spec (sym (kind_word shape opened state.words (laid_out shape opened state kept) at r has) ∙ plain) in
      let within : i < buckets_of r.spec = subst (λ (n : ℕ). i < n) (buckets_are shape state.words kept.anatomy kept.shown kept.anatomy.version at r has right) below in
      let held = total_held shape opened state.words (laid_out shape opened state kept) name kind at r first has named specified bucketed i within in
      let moved = moved_all shape opened state kept name kind at r first has named specified bucketed i within in
      let balance = kept.balanced.units name (key_of_bucket r.spec i) in
      let sum : total_of kept.anatomy.version state.words at i + transit_of state.actors at i ≡ tally_units (all_counted state.actors) name (key_of_bucket r.spec i) =
      omega (arith, held, moved, balance) in
      ap (λ (v : ℕ). total_of v state.words at i + transit_of state.actors at i) (sym kept.same.0)
      ∙ (sum ∙ ap (tally_units (all_counted state.actors) name) (sym (key_is shape state.words kept.anatomy kept.shown kept.anatomy.version at r has right i)));
  values = λ name at place value is sparse first_value.
      let (kind, r, first, (has, named, specified)) = first_of_name shape opened state.words (laid_out shape opened state kept) name at is in
      let sparse_spec = sparse_kind r.spec (sym (kind_word shape opened state.words (laid_out shape opened state kept) at r has) ∙ sparse) in
      let (s, first_of, (stands, of_it, valued)) = first_of_value shape opened state.words (laid_out shape opened state kept) at value place first_value in
      let held = value_held shape opened state.words (laid_out shape opened state kept) name kind at r first has named specified value _ _ _ _
      (units_book kept.anatomy.version name value kept.versions) sparse_spec place s first_of stands of_it valued in
      let moved = moved_none shape opened state kept name kind at r first has named specified sparse_spec value in
      let balance = kept.balanced.units name value in
      let word = piece_word shape state.words kept.anatomy kept.shown stands.0 _ 6 stands.1 (omega arith) in
      omega (arith, held, moved, balance, word);
  placed = λ entry among units. placed shape opened state kept entry.name entry.key (kept.keys entry among units);
  ended = λ who a there lives. (kept.each who a there lives).calls.ended;
}
