-- A single mark rises to what was seen of the packed bucket: the invariant is kept, with what is learned. First the mark rises, and then its recorder
-- sees it.
use Rattle.segment_invariant.proofs.Prelude.Std.{◌≡◌, ◌≢◌, Bool, true, false, if◌then◌else◌, ℕ, ◌+◌, ◌-◌, max, ◌<◌, ◌≤◌, ℤ, List, [], ◌∷◌, ◌++◌, length, set, Option, Some, inl, refl, sym, ap, ◌∙◌, subst, arith, slice_index, int_eq, bytes_eq, Decides-int_eq, set-set, get_or-set_same, dite, some, ℕ_discrete, get_elem?}
use Rattle.segment_invariant.proofs.Prelude.Machine.{Dimensions, word_at, Spec, buckets_of, packed_bucket, units_packed, Actor, Known, Taken, Look, Spent, Looking, is_bound, all_counted, all_taken, taken_units, is_opener, back, change_last, tally_units, taking_event, units_in, State, raise_single_mark}
use Rattle.segment_invariant.proofs.Prelude.Invariant.{Record, Counts, histogram, Anatomy, of_name, form_at, key_of_bucket, at_bucket, keyed, marks_held, all_held, HasRecord, HasCounts, IsFirst, is_beaten, IsLawfulRecord, IsCountsOf, Invariant, KeptOn}
use Rattle.alloc_core.proofs.Owners.{set_at}
use Rattle.bucket_ranges.specs.declared.spec.Spec.TheVariants as spec
use Rattle.segment_machine.specs.Taking.{take_units, single_key, Takes}
use Rattle.segment_invariant.specs.Invariant.{LooksRight}
use Rattle.segment_invariant.proofs.Frames.LaidOut.{laid_out}
use Rattle.segment_invariant.proofs.Consistency.Books.{marks_book, keyed_one, bucket_alone, bucket_mounted}
use Rattle.segment_invariant.proofs.Consistency.Keys.{packed_within}
use Rattle.segment_invariant.proofs.Frames.Answers.{first_one}
use Rattle.segment_invariant.proofs.Frames.GoesOn.{happens}
use Rattle.segment_invariant.proofs.Frames.SeesMore.{seer}
use Rattle.segment_invariant.proofs.Frames.Shown.{Goes}
use Rattle.segment_invariant.proofs.Changes.Records.{record_kept}
use Rattle.segment_invariant.proofs.Changes.Words.{Turns, word_turns, record_sums}
use Rattle.segment_invariant.proofs.Counting.Bounds.{counted_fits}
use Rattle.segment_invariant.proofs.Counting.Held.{not_sparse}
use Rattle.segment_invariant.proofs.Counting.Looks.{knows_of, body_word}
use Rattle.segment_invariant.proofs.Counting.Sights.{word_within}
use Rattle.segment_invariant.proofs.Taking.Knowns.{TakesOf, takes_of}
use Rattle.segment_invariant.proofs.Taking.Loads.{counter_seen}
use Rattle.segment_invariant.proofs.Taking.Takes.{b, takes_kept, raised_is}
use Rattle.segment_invariant.proofs.Frames.Anew.{lawful_anew, counts_anew}
use Rattle.segment_invariant.proofs.Frames.Rises.{kept_again}

-- ---- the record with another single mark

abbrev with_mark : Record → ℕ → Record
with_mark r mark = record r { mark = mark }

module _ (version page at : ℕ) (r : Record) (bucket mark : ℕ) (packs : packed_bucket (form_at version r) ≡ Some bucket) where
  marked_lawful : IsLawfulRecord version page r → IsLawfulRecord version page (with_mark r mark)
  marked_lawful is = lawful_anew version page r r.counts r.single mark r.sum r.sum_mark r.noted is
      is.formed (λ nothing. absurd (cc (sym packs ∙ nothing))) is.off
      (λ sparse. absurd (not_sparse r.spec bucket (packed_within version (buckets_of r.spec) r.single bucket packs) sparse)) is.narrow

  -- its counts are those of the record, if the mark is at most the greater of the total of the packed bucket and 65,535
  marked_counts : (c : Counts) → (version ≡ 1 → mark ≤ max (slice_index c.units bucket + units_packed (form_at version r) bucket) 65535)
      → IsCountsOf version at r c → IsCountsOf version at (with_mark r mark) c
  marked_counts c low is = counts_anew version at r r.single mark c is is.packed is.unused
      (λ one i names.
      let some_bucket : Some bucket ≡ Some i = sym packs ∙ names in
      let same : bucket ≡ i = cc some_bucket in
      subst (λ (n : ℕ). mark ≤ max (slice_index c.units n + units_packed (form_at version r) n) 65535) same (low one))

-- ---- the mark rises

-- What a recorder shows that raises the single mark of a record: the packed bucket, and that the new mark is at most what is counted there, with what is
-- in transit; in version 1 at most the greater of what the record and its counts have of it and 65,535; while no counts are mounted, at most the packed units.
pub record Raises (shape : Dimensions) (opened : Anatomy) (state : State) (kept : Invariant shape opened state) (name : List ℕ) (at : ℕ) (r : Record) (bucket least : ℕ) : Type 0 where
  pub packs : packed_bucket (form_at kept.anatomy.version r) ≡ Some bucket
  pub counted : least ≤ tally_units (all_counted state.actors) name (key_of_bucket r.spec bucket)
  pub mounted : (c : Counts) → HasCounts kept.anatomy.pieces r.counts c → IsCountsOf kept.anatomy.version at r c → kept.anatomy.version ≡ 1
      → least ≤ max (slice_index c.units bucket + units_packed (form_at kept.anatomy.version r) bucket) 65535
  pub alone : r.counts ≡ 0 → least ≤ units_in (form_at kept.anatomy.version r)

module _ (shape : Dimensions) (opened : Anatomy) (state : State) (kept : Invariant shape opened state) (id : ℕ) (a : Actor)
    (mine : get_elem? state.actors id ≡ some a) (recorder : is_opener a.role ≡ false) (unbound : is_bound a.hand.place ≡ false) (unbeaten : is_beaten a.hand.place ≡ false)
    (look : Look) (right : LooksRight a look) (known : Known) (takes : Takes a look.histogram known) (r : Record)
    (has : HasRecord kept.anatomy.pieces look.histogram r) (bucket least : ℕ) (raises : Raises shape opened state kept known.name look.histogram r bucket least)
    (backs : back a.hand.place ≡ Looking look) (key_is : single_key a a.hand.place ≡ key_of_bucket r.spec bucket) where
  lives : a.hand.place ≢ Spent
  lives spent = cc (unbound, ap is_bound spent)

  abbrev h : ℕ
  h = look.histogram

  abbrev version : ℕ
  version = kept.anatomy.version

  abbrev named_it : TakesOf shape opened state kept id a mine recorder lives h known takes r has
  named_it = takes_of shape opened state kept id a mine recorder lives h known takes r has

  abbrev key : ℤ
  key = key_of_bucket r.spec bucket

  abbrev m : ℕ
  m = r.mark

  within : bucket < buckets_of r.spec
  within = packed_within version (buckets_of r.spec) r.single bucket raises.packs

  -- the mark is what was taken
  taken_is : taken_units (all_taken state.actors) known.name key ≡ m
  taken_is = sym (kept.balanced.marks known.name key) ∙ dite (ℕ_discrete r.counts 0) alone mounted
    where
      bucketed : r.spec ≢ spec.Sparse
      bucketed = not_sparse r.spec bucket within

      packed : at_bucket r.spec key (packed_bucket (form_at version r)) m ≡ m
      packed = ap (λ (p : Option ℕ). at_bucket r.spec key p m) raises.packs ∙ ap (λ (b : Bool). if b then m else 0) ((Decides-int_eq key key).1 refl)

      alone : r.counts ≡ 0 → all_held (marks_held version known.name key) kept.anatomy.pieces ≡ m
      alone none_there = bucket_alone shape opened state.words (laid_out shape opened state kept) known.name r.spec h r named_it.0 has named_it.1 refl key _ _ _ _
          (marks_book version known.name key) bucketed none_there ∙ packed

      mounted : r.counts ≢ 0 → all_held (marks_held version known.name key) kept.anatomy.pieces ≡ m
      mounted some_there =
          let (c, stood, of_it) = kept.records.mounted h r has some_there in
          let all = bucket_mounted shape opened state.words (laid_out shape opened state kept) known.name r.spec h r named_it.0 has named_it.1 refl key _ _ _ _
          (marks_book version known.name key) bucketed c stood of_it.named in
          let one = ap (λ (kind : Spec). keyed kind key c.marks) of_it.same
          ∙ keyed_one r.spec c.marks bucket (kept.records.lawful h r has).lawful bucketed of_it.marks within in
          let nothing = of_it.packed bucket raises.packs in
          let mine_is = packed in
          omega (arith, all, one, nothing, mine_is)

  few : taken_units (all_taken state.actors) known.name key + (least - m) ≤ tally_units (all_counted state.actors) known.name key
  few =
      let taken = taken_is in
      let most = kept.balanced.taken known.name key in
      let bound = raises.counted in
      omega (arith, taken, most, bound)

  abbrev v : ℕ
  v = m + (least - m)

  abbrev s : Record
  s = with_mark r v

  turns : Turns version (histogram r) (histogram s) 10 v
  turns = word_turns version (histogram r) (histogram s) 10 v refl refl refl (omega arith) (omega arith)
      (s, refl, record { is = refl; counts = λ there. refl; single = inl refl; mark = omega arith; noted = omega arith })

  marks_more : (name : List ℕ) (other : ℤ)
      → marks_held version name other (histogram s) ≡ marks_held version name other (histogram r) + of_name known.name name (if int_eq key other then least - m else 0)
  marks_more name other =
      ap (λ (p : Option ℕ). of_name r.name name (at_bucket r.spec other p v)) raises.packs
      ∙ (by_tests (bytes_eq r.name name) (int_eq key other)
      ∙ (λ i. of_name r.name name (at_bucket r.spec other (sym raises.packs i) m) + of_name (named_it.1 i) name (if int_eq key other then least - m else 0)))
    where
      by_tests : (b c : Bool) → (if b then (if c then m + (least - m) else 0) else 0) ≡ (if b then (if c then m else 0) else 0) + (if b then (if c then least - m else 0) else 0)
      by_tests true true = refl
      by_tests true false = refl
      by_tests false c = refl

  -- the greater of two numbers is at most what both are at most
  greater : (x y z : ℕ) → x ≤ z → y ≤ z → x + (y - x) ≤ z
  greater x y z low high = omega (arith, low, high)

  abbrev front : List Taken
  front = takes.3.0

  abbrev last : Taken
  last = takes.3.1

  abbrev d : Actor
  d = b shape opened state kept h (histogram r) (histogram s) 10 v has turns id a mine recorder lives known takes.0 front last takes.3.2 takes.3.3 key least m (Looking look)

  abbrev between : State
  between = record { words = set state.words (h + 10) v; cursors = state.cursors; actors = set state.actors id d }

  first_step : KeptOn shape opened kept between
  first_step = takes_kept shape opened state kept h (histogram r) (histogram s) 10 v has turns id a mine recorder lives known takes.0 front last takes.3.2 takes.3.3
      key least m (Looking look) (record {
        records = record_kept shape opened state kept h r s 10 v has turns refl
            (marked_lawful version shape.page h r bucket v raises.packs (kept.records.lawful h r has))
            (λ c there is. marked_counts version shape.page h r bucket v raises.packs c
            (λ one. greater m least _ (is.mark one bucket raises.packs) (raises.mounted c there is one)) is)
            (λ none_there. greater m least _ (kept.records.packed h r has none_there) (raises.alone none_there))
            (λ kind place is. first_one kept.anatomy.records known.name kind r.spec place h
            (subst (λ (name : List ℕ). IsFirst kept.anatomy.records name kind place) named_it.1 is) named_it.0);
        units = λ name other. refl;
        marks = marks_more;
        amounts = λ name. (refl, refl, refl);
        sums = record_sums shape opened state kept h r s 10 v has turns refl refl refl;
        few = few;
        keyed = (r.spec, h, named_it.0, inl (bucket, within, refl));
        lives = λ spent. cc spent;
        no_sum = λ reference sum is. cc is;
        still = (λ other bucket units moving. cc (unbound, ap is_bound moving), λ other bucket units moving. cc moving);
        stood = right;
        up = λ free. unbeaten;
      })

  abbrev kept_between : Invariant shape opened between
  kept_between = first_step.0

  mine_between : get_elem? between.actors id ≡ some d
  mine_between = set_at state.actors id a d mine

  -- ---- what it leaves

  there : h + 10 < length state.words
  there = word_within shape opened state kept h 10 (histogram r) has refl (omega arith)

  found_is : word_at state.words (h + 10) ≡ m
  found_is = body_word shape opened state kept h 10 (histogram r) has (omega arith)

  word_between : word_at between.words (h + 10) ≡ v
  word_between = get_or-set_same state.words (h + 10) v 0 there

  left : KeptOn shape opened kept (record {
    words = between.words;
    cursors = state.cursors;
    actors = set between.actors id
        (seer d (Looking look) (record a.seen { counts = a.seen.counts ++ record { at = h + 10; word = word_at between.words (h + 10) } ∷ [] }) a.done.given a.done.lost);
  })
  left = kept_again shape opened state kept first_step
      (let (q, first, stands, named, many, keys) = knows_of shape opened between kept_between id d mine_between recorder (λ spent. cc spent) known takes.1 in
      counter_seen shape opened between kept_between id d mine_between recorder h 10 q (subst (λ (n : ℕ). HasRecord kept_between.anatomy.pieces n q) takes.2 stands)
      (inl refl) refl (Looking look) refl right
      (λ reference sum is. is))

  carry : v ≡ max (word_at state.words (h + 10)) least
  carry = raised_is m least ∙ ap (λ (n : ℕ). max n least) (sym found_is)

  pub raised_at : Goes shape opened state kept id a mine recorder (taking_event (raise_single_mark h least))
  raised_at = happens opened.version state id a (taking_event (raise_single_mark h least)) there shape opened kept (
    subst (λ (p : List ℕ × List Actor). KeptOn shape opened kept (record { words = p.0; cursors = state.cursors; actors = p.1 }))
        (λ i. (
          set state.words (h + 10) (carry i),
          (set-set state.actors id d
              (seer d (Looking look) (record a.seen { counts = a.seen.counts ++ record { at = h + 10; word = word_at between.words (h + 10) } ∷ [] }) a.done.given a.done.lost)
              ∙ (λ j. set state.actors id (record a {
                hand = record a.hand { place = sym backs j };
                deltas = record a.deltas { taken = change_last (take_units (sym key_is j) least (sym found_is j)) a.deltas.taken };
                seen = record a.seen { counts = a.seen.counts ++ record { at = h + 10; word = (word_between ∙ carry) j } ∷ [] };
              }))) i,
        )) left,
    (let taken = taken_is in let most = kept.balanced.taken known.name key in let bound = counted_fits shape opened state kept known.name key in
        omega (arith, found_is, taken, most, bound)),
  )
