-- Units of the entry that is next are packed into the single word of its histogram: the invariant is kept, with what is learned.
use Rattle.segment_invariant.proofs.Prelude.Std.{◌≡◌, ◌≢◌, ◌⊎◌, ℕ, ◌+◌, ◌<◌, ◌≤◌, ℤ, Bool, true, false, ◌&&◌, ◌==◌, if◌then◌else◌, Option, Some, List, [], ◌∷◌, ◌++◌, length, set, inl, ⊎_elim, refl, sym, ap, ◌∙◌, subst, arith, eqb-true, slice_index, max, int_eq, bytes_eq, set-set, get_or-set_same, some, get_elem?}
use Rattle.segment_invariant.proofs.Prelude.Machine.{Dimensions, word_at, buckets_of, single_of, packed_bucket, units_packed, Actor, Known, EntryProgress, Spent, Idle, is_bound, Buckets, is_opener, is_counted, packing_event, Ready, is_off, units_in, pack, after_pack, State}
use Rattle.segment_invariant.proofs.Prelude.Invariant.{Record, Counts, histogram, Anatomy, EventKeeps, form_at, of_name, key_of_bucket, at_bucket, units_held, marks_held, HasRecord, IsFirst, IsLawfulRecord, IsCountsOf, Invariant, KeptOn}
use Rattle.alloc_core.proofs.Owners.{set_at}
use Rattle.bucket_ranges.specs.declared.spec.Spec.TheVariants as spec
use Rattle.segment_machine.specs.Calls.{IsKeyOfBucket}
use Rattle.segment_calls.specs.Form.{IsPacking}
use Rattle.segment_invariant.proofs.Lists.FewTerms.{zero_index}
use Rattle.segment_invariant.proofs.Frames.Answers.{first_one}
use Rattle.segment_invariant.proofs.Frames.GoesOn.{happens}
use Rattle.segment_invariant.proofs.Frames.SeesMore.{seer}
use Rattle.segment_invariant.proofs.Frames.Shown.{Goes}
use Rattle.segment_invariant.proofs.Changes.Records.{record_kept}
use Rattle.segment_invariant.proofs.Changes.Words.{Turns, word_turns, record_sums}
use Rattle.segment_invariant.proofs.Consistency.Keys.{at_no_bucket, no_packed}
use Rattle.segment_invariant.proofs.Counting.Counted.{as_counted, has_units, counter, CountedInto, units_counted}
use Rattle.segment_invariant.proofs.Counting.Held.{not_sparse}
use Rattle.segment_invariant.proofs.Counting.Looks.{knows_of, body_word}
use Rattle.segment_invariant.proofs.Counting.Running.{Next, next_of}
use Rattle.segment_invariant.proofs.Counting.Sights.{word_within}
use Rattle.segment_invariant.proofs.Packing.Beaten.{single_seen, pack_beaten}
use Rattle.segment_invariant.proofs.Packing.Forms.{units_most, Packing, packing}
use Rattle.segment_invariant.proofs.Packing.Loads.{learns_single}
use Rattle.segment_invariant.proofs.Frames.Anew.{lawful_anew, counts_anew}
use Rattle.segment_invariant.proofs.Frames.Rises.{kept_again}
use Rattle.segment_invariant.proofs.Consistency.Books.{one_first}

-- ---- the record with another single word

abbrev pub with_single : Record → ℕ → Record
with_single r word = record r { single = word }

module _ (version page : ℕ) (versions : (version ≡ 1) ⊎ (version ≡ 2)) (r : Record) (bucket k new : ℕ) (below : bucket < buckets_of r.spec) (few : buckets_of r.spec ≤ 1048576)
    (on : is_off r.single ≡ false) (packs : Packing version (buckets_of r.spec) bucket below few k r.single new) (lawful : IsLawfulRecord version page r) where
  -- it is valid
  pub packed_lawful : IsLawfulRecord version page (with_single r new)
  packed_lawful = lawful_anew version page r r.counts new r.mark r.sum r.sum_mark r.noted lawful
      (λ none_there. cc (sym packs.names ∙ ap packed_bucket none_there)) (λ nothing. absurd (cc (sym packs.names ∙ nothing)))
      (λ off. absurd (cc (sym packs.on ∙ off))) (λ sparse. absurd (not_sparse r.spec bucket below sparse)) lawful.narrow

  -- while nothing is packed the mark is 0
  no_mark : r.single ≡ 0 → r.mark ≡ 0
  no_mark empty = lawful.unpacked (no_packed version (buckets_of r.spec) r.single versions empty)

  -- its counts are those of the record
  pub packed_counts : (at : ℕ) (c : Counts) → IsCountsOf version at r c → IsCountsOf version at (with_single r new) c
  packed_counts at c is =
      let (units, marks) = is.unused on in
      counts_anew version at r new r.mark c is (λ i names. zero_index c.marks i marks) (λ still. (units, marks)) (λ one i names. most_of i (mark_few one))
    where
      most_of : (i : ℕ) → r.mark ≤ 65535 → r.mark ≤ max (slice_index c.units i + units_packed (form_at version (with_single r new)) i) 65535
      most_of i le = omega (arith, le)

      mark_few : version ≡ 1 → r.mark ≤ 65535
      mark_few one = ⊎_elim
          (λ empty. let none_there = no_mark empty in omega (arith, none_there))
          (λ names.
          let most = is.mark one bucket names in
          let nothing = zero_index c.units bucket (is.unused on).0 in
          let all = units_most (form_at version r) bucket in
          let units = packs.few_units in
          omega (arith, most, nothing, all, units))
          packs.named

  -- while no counts are mounted the mark is at most the packed units
  pub packed_mark : r.mark ≤ units_in (form_at version r) → r.mark ≤ units_in (form_at version (with_single r new))
  packed_mark le = let more = packs.more in omega (arith, le, more)

  -- it holds that many units more of the key of the bucket
  pub packed_held : (name : List ℕ) (key : ℤ) → units_held version name key (histogram (with_single r new))
      ≡ units_held version name key (histogram r) + of_name r.name name (if int_eq (key_of_bucket r.spec bucket) key then k else 0)
  packed_held name key =
      ap (λ (packed : Option ℕ). of_name r.name name (at_bucket r.spec key packed (units_in (form_at version (with_single r new))))) packs.names
      ∙ (ap (λ (n : ℕ). of_name r.name name (at_bucket r.spec key (Some bucket) n)) packs.more
      ∙ (by_tests (bytes_eq r.name name) (int_eq (key_of_bucket r.spec bucket) key) (units_in (form_at version r))
      ∙ ap (λ (n : ℕ). of_name r.name name n + of_name r.name name (if int_eq (key_of_bucket r.spec bucket) key then k else 0)) was))
    where
      by_tests : (b c : Bool) (n : ℕ) → (if b then (if c then n + k else 0) else 0) ≡ (if b then (if c then n else 0) else 0) + (if b then (if c then k else 0) else 0)
      by_tests true true n = refl
      by_tests true false n = refl
      by_tests false c n = refl

      nothing : r.single ≡ 0 → units_in (form_at version r) ≡ 0
      nothing empty = ap (λ (w : ℕ). units_in (single_of version (buckets_of r.spec) w)) empty

      was : at_bucket r.spec key (Some bucket) (units_in (form_at version r)) ≡ at_bucket r.spec key (packed_bucket (form_at version r)) (units_in (form_at version r))
      was = ⊎_elim
          (λ empty.
          ap (at_bucket r.spec key (Some bucket)) (nothing empty)
          ∙ (at_no_bucket r.spec key (Some bucket)
          ∙ (sym (at_no_bucket r.spec key (packed_bucket (form_at version r))) ∙ ap (at_bucket r.spec key (packed_bucket (form_at version r))) (sym (nothing empty)))))
          (λ names. ap (λ (packed : Option ℕ). at_bucket r.spec key packed (units_in (form_at version r))) (sym names))
          packs.named

  -- and the mark that it had
  pub packed_marks : (name : List ℕ) (key : ℤ) → marks_held version name key (histogram (with_single r new)) ≡ marks_held version name key (histogram r)
  packed_marks name key = ap (of_name r.name name) (ap (λ (packed : Option ℕ). at_bucket r.spec key packed r.mark) packs.names ∙ ⊎_elim
      (λ empty.
      ap (at_bucket r.spec key (Some bucket)) (no_mark empty)
      ∙ (at_no_bucket r.spec key (Some bucket)
      ∙ (sym (at_no_bucket r.spec key (packed_bucket (form_at version r))) ∙ ap (at_bucket r.spec key (packed_bucket (form_at version r))) (sym (no_mark empty)))))
      (λ names. ap (λ (packed : Option ℕ). at_bucket r.spec key packed r.mark) (sym names))
      packs.named)

-- ---- the exchange

module _ (shape : Dimensions) (opened : Anatomy) (state : State) (kept : Invariant shape opened state) (id : ℕ) (a : Actor)
    (mine : get_elem? state.actors id ≡ some a) (recorder : is_opener a.role ≡ false) (unbound : is_bound a.hand.place ≡ false) (entry : EntryProgress) (next : Next a.entries.running entry)
    (uncounted : is_counted entry ≡ false) (h : ℕ) (known : Known) (buckets : Buckets a h known) (named : entry.entry.name ≡ known.name)
    (bucket : ℕ) (is_key : IsKeyOfBucket known bucket entry.entry.key) (new : ℕ) (found_on : is_off (word_at state.words (h + 9)) ≡ false)
    (word_packs : IsPacking bucket entry.entry.units (word_at state.words (h + 9)) new) where
  lives : a.hand.place ≢ Spent
  lives spent = cc (unbound, ap is_bound spent)

  abbrev version : ℕ
  version = kept.anatomy.version

  abbrev units : ℕ
  units = entry.entry.units

  -- the first record of the name, whose single word that is
  abbrev Found : Type 0
  Found = (r : Record) × HasRecord kept.anatomy.pieces h r × (word_at state.words (h + 9) ≡ r.single) × (bucket < buckets_of r.spec)
      × (r.name ≡ entry.entry.name) × (key_of_bucket r.spec bucket ≡ entry.entry.key) × IsFirst kept.anatomy.records entry.entry.name r.spec h

  found : Found
  found =
      let (has, refers, bucketed) = buckets in
      let (r, first, there, called, many, keys) = knows_of shape opened state kept id a mine recorder lives known has in
      let stands : HasRecord kept.anatomy.pieces h r = subst (λ (n : ℕ). HasRecord kept.anatomy.pieces n r) refers there in
      let within = is_key.0 in (
        r,
        stands,
        body_word shape opened state kept h 9 (histogram r) stands (omega arith),
        omega (arith, within, many),
        called ∙ sym named,
        keys bucket ∙ is_key.1,
        subst (λ (p : List ℕ × ℕ). IsFirst kept.anatomy.records p.0 r.spec p.1) (λ i. (sym named i, refers i)) first,
      )

  abbrev r : Record
  r = found.0

  abbrev stands : HasRecord kept.anatomy.pieces h r
  stands = found.1

  abbrev below : bucket < buckets_of r.spec
  below = found.3

  lawful : IsLawfulRecord version shape.page r
  lawful = kept.records.lawful h r stands

  few : buckets_of r.spec ≤ 1048576
  few =
      let fits = lawful.fits in
      let one = kept.shown.sound.lawful.one in
      let many = kept.shown.sound.lawful.many in
      omega (arith, fits, one, many)

  on : is_off r.single ≡ false
  on = ap is_off (sym found.2) ∙ found_on

  packs : Packing version (buckets_of r.spec) bucket below few units r.single new
  packs = packing version (buckets_of r.spec) bucket below few units r.single new (has_units entry uncounted)
      (subst (λ (w : ℕ). IsPacking bucket units w new) found.2 word_packs)

  -- ---- the record continues

  abbrev s : Record
  s = with_single r new

  turns : Turns version (histogram r) (histogram s) 9 new
  turns = word_turns version (histogram r) (histogram s) 9 new refl refl refl (omega arith) (omega arith)
      (s, refl, record { is = refl; counts = λ there. refl; single = packs.leads; mark = omega arith; noted = omega arith })

  shows : CountedInto shape opened state kept id a mine recorder unbound entry next uncounted h (histogram r) (histogram s) 9 new stands turns
  shows = record {
    records = record_kept shape opened state kept h r s 9 new stands turns refl
        (packed_lawful version shape.page kept.versions r bucket units new below few on packs lawful)
        (λ c there is. packed_counts version shape.page kept.versions r bucket units new below few on packs lawful h c is)
        (λ none_there. packed_mark version shape.page kept.versions r bucket units new below few on packs lawful (kept.records.packed h r stands none_there))
        (λ kind place is. first_one kept.anatomy.records entry.entry.name kind r.spec place h
        (subst (λ (name : List ℕ). IsFirst kept.anatomy.records name kind place) found.4 is) found.6);
    units = λ name key.
        packed_held version shape.page kept.versions r bucket units new below few on packs lawful name key
        ∙ ap (λ (n : ℕ). units_held version name key (histogram r) + n)
        (by_tests (bytes_eq r.name name) (int_eq (key_of_bucket r.spec bucket) key)
        ∙ (λ i. if bytes_eq (found.4 i) name && int_eq (found.5 i) key then units else 0));
    marks = λ name key. packed_marks version shape.page kept.versions r bucket units new below few on packs lawful name key;
    sum = λ name. refl;
    sum_mark = λ name. refl;
    noted = λ name. refl;
    sums = record_sums shape opened state kept h r s 9 new stands turns refl refl refl;
    key = (r.spec, h, found.6, inl (bucket, below, sym found.5));
    met = λ of first. absurd (not_sparse r.spec bucket below (one_first shape opened state kept entry.entry.name r.spec spec.Sparse h of found.6 first).1);
  }
    where
      by_tests : (b c : Bool) → (if b then (if c then units else 0) else 0) ≡ (if b && c then units else 0)
      by_tests true c = refl
      by_tests false c = refl

  -- ---- and then it sees the word

  abbrev b : Actor
  b = counter shape opened state kept id a mine recorder unbound entry next uncounted

  abbrev between : State
  between = record { words = set state.words (h + 9) new; cursors = state.cursors; actors = set state.actors id b }

  first_step : KeptOn shape opened kept between
  first_step = units_counted shape opened state kept id a mine recorder unbound entry next uncounted h (histogram r) (histogram s) 9 new stands turns shows

  abbrev kept_between : Invariant shape opened between
  kept_between = first_step.0

  there : h + 9 < length state.words
  there = word_within shape opened state kept h 9 (histogram r) stands refl (omega arith)

  word_between : word_at between.words (h + 9) ≡ new
  word_between = get_or-set_same state.words (h + 9) new 0 there

  left : KeptOn shape opened kept (record {
    words = between.words;
    cursors = state.cursors;
    actors = set between.actors id (seer b Idle (record a.seen { singles = a.seen.singles ++ record { at = h + 9; word = word_at between.words (h + 9) } ∷ [] }) a.done.given a.done.lost);
  })
  left = kept_again shape opened state kept first_step
      (single_seen shape opened between kept_between id b (set_at state.actors id a b mine) recorder refl h known buckets Idle refl (λ reference sum is. cc is) (λ word. tt))

  -- the state is kept
  pub units_packed_on : KeptOn shape opened kept (record {
    words = set state.words (h + 9) new;
    cursors = state.cursors;
    actors = set state.actors id (after_pack true a h new (word_at state.words (h + 9)));
  })
  units_packed_on = subst (λ (actors : List Actor). KeptOn shape opened kept (record { words = between.words; cursors = state.cursors; actors = actors }))
      (set-set state.actors id b _ ∙ (λ i. set state.actors id (record a {
        hand = record a.hand { place = Idle };
        entries = record a.entries { running = sym (next.changed as_counted) i };
        seen = record a.seen { singles = a.seen.singles ++ record { at = h + 9; word = word_between i } ∷ [] };
      }))) left

  pub within_words : h + 9 < length state.words
  within_words = there

module _ (shape : Dimensions) (opened : Anatomy) (state : State) (kept : Invariant shape opened state) (id : ℕ) (a : Actor)
    (mine : get_elem? state.actors id ≡ some a) (recorder : is_opener a.role ≡ false) where
  -- so packing that goes through keeps what holds
  pub pack_through : (h old new : ℕ) → Ready a (packing_event (pack h old new)) → (word_at state.words (h + 9) == old) ≡ true
      → Goes shape opened state kept id a mine recorder (packing_event (pack h old new))
  pack_through h old new (c, look, known, bucket, ((rest, is_next), uncounted), (placed, of_it, single, on, buckets), named, keyed, packs) early =
      let word : ℕ = word_at state.words (h + 9) in
      let same : word ≡ old = eqb-true (word_at state.words (h + 9)) old early in
      let unbound = ap is_bound placed in
      let lives : a.hand.place ≢ Spent = λ spent. cc (sym placed ∙ spent) in
      let next = next_of a.entries.running c rest is_next in
      let still = ap is_off same ∙ on in
      let packed = subst (λ (w : ℕ). IsPacking bucket c.entry.units w new) (sym same) packs in
      happens opened.version state id a (packing_event (pack h old new))
      (within_words shape opened state kept id a mine recorder unbound c next uncounted h known buckets named bucket keyed new still packed) shape opened kept (
        subst (λ (b : Bool). KeptOn shape opened kept (record {
          words = set state.words (h + 9) (if b then new else word);
          cursors = state.cursors;
          actors = set state.actors id (after_pack b a h new word);
        })) (sym early) (units_packed_on shape opened state kept id a mine recorder unbound c next uncounted h known buckets named bucket keyed new still packed),
        learns_single shape opened state kept id a mine recorder lives h,
      )

-- the event
pub pack_kept : (h old new : ℕ) → EventKeeps (packing_event (pack h old new))
pack_kept h old new shape opened state id a kept mine recorder ready = by_test (word_at state.words (h + 9) == old) refl
  where
    by_test : (b : Bool) → (word_at state.words (h + 9) == old) ≡ b → Goes shape opened state kept id a mine recorder (packing_event (pack h old new))
    by_test true early = pack_through shape opened state kept id a mine recorder h old new ready early
    by_test false late = pack_beaten shape opened state kept id a mine recorder h old new ready late
