-- The mark of a bucket is raised to the count that was loaded: the invariant is kept, with what is learned.
use Rattle.segment_invariant.proofs.Prelude.Std.{◌≡◌, ◌≢◌, Bool, true, false, if◌then◌else◌, ℕ, ◌+◌, ◌-◌, max, ◌<◌, ◌≤◌, ℤ, List, [], ◌∷◌, ◌++◌, length, set, Option, Some, inl, refl, sym, ap, ◌∙◌, subst, arith, slice_index, int_eq, bytes_eq, set-set, get_or-set_same, All-contains, some, get_elem?}
use Rattle.segment_invariant.proofs.Prelude.Machine.{Dimensions, word_at, Spec, SingleWord, buckets_of, single_of, packed_bucket, is_packed_bucket, Actor, Known, Taken, Look, Place, Spent, Looking, CountLoaded, is_bound, bucket_key, known_at, all_counted, all_taken, taken_units, is_opener, back, change_last, tally_units, taking_event, is_off, State, raise_mark}
use Rattle.segment_invariant.proofs.Prelude.Invariant.{Record, Counts, counts, Anatomy, of_name, form_at, key_of_bucket, keyed, marks_held, HasRecord, HasCounts, IsFirst, WasFixed, WasCounter, IsCountsOf, StandsRight, Invariant, KeptOn, is_beaten}
use Rattle.alloc_core.proofs.Owners.{set_at}
use Rattle.segment_machine.specs.Calls.{form_seen}
use Rattle.segment_machine.specs.Taking.{take_units, taken_key, Takes}
use Rattle.segment_invariant.specs.Invariant.{LoadedOff}
use Rattle.segment_invariant.proofs.Frames.LaidOut.{laid_out}
use Rattle.segment_invariant.proofs.Blocks.Places.{counter_within}
use Rattle.segment_invariant.proofs.Consistency.Books.{marks_book, keyed_one, bucket_mounted}
use Rattle.segment_invariant.proofs.Consistency.Keys.{packed_within, packed_mark}
use Rattle.segment_invariant.proofs.Consistency.Marks.{packed_is}
use Rattle.segment_invariant.proofs.Frames.GoesOn.{happens}
use Rattle.segment_invariant.proofs.Frames.SeesMore.{seer}
use Rattle.segment_invariant.proofs.Frames.Shown.{Goes}
use Rattle.segment_invariant.proofs.Frames.Rises.{kept_again}
use Rattle.segment_invariant.proofs.Changes.Counts.{keyed_risen}
use Rattle.segment_invariant.proofs.Changes.Records.{counts_kept}
use Rattle.segment_invariant.proofs.Changes.Words.{Turns, sums_beside}
use Rattle.segment_invariant.proofs.Counting.Bounds.{counted_fits}
use Rattle.segment_invariant.proofs.Counting.Held.{not_sparse}
use Rattle.segment_invariant.proofs.Counting.Looks.{knows_of, one_record, counter_now, counts_was}
use Rattle.segment_invariant.proofs.Counting.Sights.{word_within}
use Rattle.segment_invariant.proofs.Counting.Whole.{whole_mounted}
use Rattle.segment_invariant.proofs.Taking.Knowns.{takes_of}
use Rattle.segment_invariant.proofs.Taking.Takes.{b, takes_kept, raised_is}
use Rattle.segment_invariant.proofs.Taking.MarkWords.{marked, marked_turns, marked_counts, TheMarks, the_marks, mark_now, mark_seen}

not_packed : (form : Option SingleWord) (i : ℕ) → packed_bucket form ≢ Some i → is_packed_bucket form i ≡ false
not_packed form i apart = by_test (is_packed_bucket form i) refl
  where
    by_test : (b : Bool) → is_packed_bucket form i ≡ b → is_packed_bucket form i ≡ false
    by_test true is = absurd (apart (packed_is form i is))
    by_test false is = is

module _ (shape : Dimensions) (opened : Anatomy) (state : State) (kept : Invariant shape opened state) (id : ℕ) (a : Actor)
    (mine : get_elem? state.actors id ≡ some a) (recorder : is_opener a.role ≡ false) (look : Look) (known : Known) (bucket least word : ℕ)
    (placed : a.hand.place ≡ CountLoaded look bucket least) (takes : Takes a look.histogram known) (single_is : look.single ≡ Some word)
    (apart : packed_bucket (form_seen a look.histogram word) ≢ Some bucket) where
  lives : a.hand.place ≢ Spent
  lives spent = cc (sym placed ∙ spent)

  abbrev stood : StandsRight shape kept.anatomy id a (CountLoaded look bucket least)
  stood = subst (StandsRight shape kept.anatomy id a) placed (kept.standing id a mine)

  abbrev off : LoadedOff a look
  off = stood.0

  abbrev marks_there : TheMarks shape opened state kept id a mine recorder (ap is_bound placed) look off bucket stood.1
  marks_there = the_marks shape opened state kept id a mine recorder (ap is_bound placed) look off bucket stood.1

  abbrev r : Record
  r = marks_there.0

  abbrev c : Counts
  c = marks_there.1

  has : HasRecord kept.anatomy.pieces look.histogram r
  has = marks_there.2

  mounted : HasCounts kept.anatomy.pieces look.counts c
  mounted = marks_there.3

  of_it : IsCountsOf kept.anatomy.version look.histogram r c
  of_it = marks_there.4

  low : bucket < length c.marks
  low = marks_there.5

  within : bucket < buckets_of r.spec
  within = let below = low in let marks = of_it.marks in omega (arith, below, marks)

  -- the record is the first of the name of the delta, with as many buckets, and packs another one
  abbrev Named : Type 0
  Named = IsFirst kept.anatomy.records known.name r.spec look.histogram × (r.name ≡ known.name) × (buckets_of r.spec ≡ buckets_of known.spec)
      × (packed_bucket (form_at kept.anatomy.version r) ≢ Some bucket)
      × (bucket_key (known_at a.answers.names look.histogram) bucket ≡ key_of_bucket r.spec bucket)

  named_it : Named
  named_it =
      let (first, named, many, keys, its_keys, forms) = takes_of shape opened state kept id a mine recorder lives look.histogram known takes r has in
      let some_word : Some word ≡ Some off.2.0 = sym single_is ∙ off.2.1 in
      let word_is : word ≡ off.2.0 = cc some_word in
      let form : form_seen a look.histogram word ≡ form_at kept.anatomy.version r =
      forms word ∙ ap (λ (w : ℕ). single_of kept.anatomy.version (buckets_of r.spec) w) (word_is ∙ marks_there.6) in
      (first, named, many, λ packs. apart (ap packed_bucket form ∙ packs), its_keys bucket)

  abbrev key : ℤ
  key = key_of_bucket r.spec bucket

  abbrev m : ℕ
  m = slice_index c.marks bucket

  -- the mark is what was taken
  taken_is : taken_units (all_taken state.actors) known.name key ≡ m
  taken_is =
      let lawful = (kept.records.lawful look.histogram r has).lawful in
      let bucketed = not_sparse r.spec bucket within in
      let (refers, mounts) = counts_was shape opened state kept look.histogram look.counts r has
      (All-contains (WasFixed kept.anatomy.pieces) a.seen.words _ (kept.each id a mine lives).sees.fixed (off.0.counts off.1)) in
      let all = bucket_mounted shape opened state.words (laid_out shape opened state kept) known.name r.spec look.histogram r named_it.0 has named_it.1 refl key _ _ _ _
      (marks_book kept.anatomy.version known.name key) bucketed c (subst (λ (n : ℕ). HasCounts kept.anatomy.pieces n c) (sym refers) mounted) of_it.named in
      let packed = packed_mark r.spec lawful bucketed bucket within (form_at kept.anatomy.version r) r.mark
      (λ b is. packed_within kept.anatomy.version (buckets_of r.spec) r.single b is)
      ∙ ap (λ (b : Bool). if b then r.mark else 0) (not_packed (form_at kept.anatomy.version r) bucket named_it.3) in
      let one = ap (λ (kind : Spec). keyed kind key c.marks) of_it.same ∙ keyed_one r.spec c.marks bucket lawful bucketed of_it.marks within in
      let ledger = kept.balanced.marks known.name key in
      omega (arith, all, packed, one, ledger)

  -- the count that was loaded is at most what was counted
  least_is : least ≤ tally_units (all_counted state.actors) known.name key
  least_is =
      let fits = kept.each id a mine lives in
      let now = counter_now shape opened state kept _ (All-contains (WasCounter kept.anatomy.pieces) a.seen.counts _ fits.sees.counters stood.2) in
      let word = marks_there.8 in
      let (refers, mounts) = counts_was shape opened state kept look.histogram look.counts r has
      (All-contains (WasFixed kept.anatomy.pieces) a.seen.words _ fits.sees.fixed (off.0.counts off.1)) in
      let whole = whole_mounted shape opened state kept known.name r.spec look.histogram r named_it.0 has named_it.1 refl bucket within c
      (subst (λ (n : ℕ). HasCounts kept.anatomy.pieces n c) (sym refers) mounted) of_it in
      omega (arith, now, word, whole)

  few : taken_units (all_taken state.actors) known.name key + (least - m) ≤ tally_units (all_counted state.actors) known.name key
  few =
      let taken = taken_is in
      let most = kept.balanced.taken known.name key in
      let bound = least_is in
      omega (arith, taken, most, bound)

  -- ---- the mark rises

  abbrev more : Counts
  more = marked c bucket (least - m) low

  abbrev v : ℕ
  v = m + (least - m)

  abbrev i : ℕ
  i = 4 + (length c.units + bucket)

  abbrev turns : Turns kept.anatomy.version (counts c) (counts more) i v
  turns = marked_turns c bucket (least - m) low kept.anatomy.version

  abbrev front : List Taken
  front = takes.3.0

  abbrev last : Taken
  last = takes.3.1

  marks_more : (name : List ℕ) (other : ℤ) → marks_held kept.anatomy.version name other (counts more)
      ≡ marks_held kept.anatomy.version name other (counts c) + of_name known.name name (if int_eq key other then least - m else 0)
  marks_more name other =
      ap (of_name c.name name) (keyed_risen c.spec other c.marks bucket (least - m) low)
      ∙ (by_name (bytes_eq c.name name)
      ∙ ap (λ (n : ℕ). of_name c.name name (keyed c.spec other c.marks) + n)
      (λ j. of_name ((of_it.named ∙ named_it.1) j) name (if int_eq (key_of_bucket (of_it.same j) bucket) other then least - m else 0)))
    where
      by_name : (b : Bool) → (if b then keyed c.spec other c.marks + (if int_eq (key_of_bucket c.spec bucket) other then least - m else 0) else 0)
          ≡ (if b then keyed c.spec other c.marks else 0) + (if b then (if int_eq (key_of_bucket c.spec bucket) other then least - m else 0) else 0)
      by_name true = refl
      by_name false = refl

  abbrev d : Actor
  d = b shape opened state kept look.counts (counts c) (counts more) i v mounted turns id a mine recorder lives known takes.0 front last takes.3.2 takes.3.3 key least m
      (Looking look)

  abbrev between : State
  between = record { words = set state.words (look.counts + i) v; cursors = state.cursors; actors = set state.actors id d }

  first_step : KeptOn shape opened kept between
  first_step = takes_kept shape opened state kept look.counts (counts c) (counts more) i v mounted turns id a mine recorder lives known takes.0 front last takes.3.2
      takes.3.3 key least m (Looking look) (record {
        records = counts_kept shape opened state kept look.counts c more i v mounted turns refl (λ at z there refers is.
            let owner : at ≡ look.histogram = sym is.mine ∙ of_it.mine in
            let same = one_record shape opened state kept look.histogram z r (subst (λ (n : ℕ). HasRecord kept.anatomy.pieces n z) owner there) has in
            marked_counts c bucket (least - m) low kept.anatomy.version at z (ap (λ (w : Record). is_off w.single) same ∙ marks_there.7)
            (λ packs. named_it.3 (sym (ap (λ (w : Record). packed_bucket (form_at kept.anatomy.version w)) same) ∙ packs)) is);
        units = λ name other. refl;
        marks = marks_more;
        amounts = λ name. (refl, refl, refl);
        sums = sums_beside shape opened state kept look.counts (counts c) (counts more) i v mounted turns (λ s is. cc is);
        few = few;
        keyed = (r.spec, look.histogram, named_it.0, inl (bucket, within, refl));
        lives = λ spent. cc spent;
        no_sum = λ reference sum is. cc is;
        still = (λ other bucket units moving. cc (sym placed ∙ moving), λ other bucket units moving. cc moving);
        stood = off.0;
        up = λ free. subst (λ (p : Place). is_beaten p ≡ false) (sym placed) refl;
      })

  abbrev kept_between : Invariant shape opened between
  kept_between = first_step.0

  mine_between : get_elem? between.actors id ≡ some d
  mine_between = set_at state.actors id a d mine

  abbrev off_between : LoadedOff d look
  off_between = (off.0, off.1, off.2)

  abbrev at : ℕ
  at = look.counts + 4 + buckets_of known.spec + bucket

  spot : at ≡ look.counts + i
  spot = let many = named_it.2 in let units = of_it.units in omega (arith, many, units)

  there : look.counts + i < length state.words
  there = word_within shape opened state kept look.counts i (counts c) mounted refl (let below = low in counter_within (counts c) i (omega arith, omega (arith, below)))

  found_is : word_at state.words at ≡ m
  found_is = ap (word_at state.words) spot ∙ mark_now shape opened state kept id a mine recorder (ap is_bound placed) look off bucket stood.1

  -- ---- what it leaves

  word_between : word_at between.words at ≡ v
  word_between = ap (word_at between.words) spot ∙ get_or-set_same state.words (look.counts + i) v 0 there

  spot_between : at ≡ look.counts + (4 + (length (the_marks shape opened between kept_between id d mine_between recorder refl look off_between bucket stood.1).1.units + bucket))
  spot_between =
      let its = the_marks shape opened between kept_between id d mine_between recorder refl look off_between bucket stood.1 in
      let (q, first, stands, named, many, keys) = knows_of shape opened between kept_between id d mine_between recorder (λ spent. cc spent) known takes.1 in
      let same = one_record shape opened between kept_between look.histogram q its.0
      (subst (λ (n : ℕ). HasRecord kept_between.anatomy.pieces n q) takes.2 stands) its.2 in
      let kind = ap (λ (z : Record). buckets_of z.spec) same in
      let units = its.4.units in
      omega (arith, many, kind, units)

  left : KeptOn shape opened kept (record {
    words = between.words;
    cursors = state.cursors;
    actors = set between.actors id (seer d (Looking look) (record a.seen { counts = a.seen.counts ++ record { at = at; word = word_at between.words at } ∷ [] }) a.done.given a.done.lost);
  })
  left = kept_again shape opened state kept first_step
      (mark_seen shape opened between kept_between id d mine_between recorder refl look off_between bucket stood.1 at spot_between)

  carry : v ≡ max (word_at state.words at) least
  carry = raised_is m least ∙ ap (λ (n : ℕ). max n least) (sym found_is)

  key_is : key ≡ taken_key a a.hand.place
  key_is = sym (ap (taken_key a) placed ∙ named_it.4)

  raised_at : Goes shape opened state kept id a mine recorder (taking_event (raise_mark at least))
  raised_at = happens opened.version state id a (taking_event (raise_mark at least)) (let below = there in omega (arith, spot, below)) shape opened kept (
    subst (λ (p : List ℕ × List Actor). KeptOn shape opened kept (record { words = p.0; cursors = state.cursors; actors = p.1 }))
        (λ i. (
          set state.words (sym spot i) (carry i),
          (set-set state.actors id d (seer d (Looking look) (record a.seen { counts = a.seen.counts ++ record { at = at; word = word_at between.words at } ∷ [] }) a.done.given a.done.lost)
              ∙ (λ j. set state.actors id (record a {
                hand = record a.hand { place = (sym (ap back placed)) j };
                deltas = record a.deltas { taken = change_last (take_units (key_is j) least (sym found_is j)) a.deltas.taken };
                seen = record a.seen { counts = a.seen.counts ++ record { at = at; word = (word_between ∙ carry) j } ∷ [] };
              }))) i,
        )) left,
    (let taken = taken_is in let most = kept.balanced.taken known.name key in let bound = counted_fits shape opened state kept known.name key in
        omega (arith, found_is, taken, most, bound)),
  )

-- A mark of a bucket that is not the packed one is raised
abbrev pub RaisesBucket : Actor → ℕ → ℕ → Type 0
RaisesBucket a at least =
    (look : Look) × (known : Known) × (bucket word : ℕ) × (a.hand.place ≡ CountLoaded look bucket least) × Takes a look.histogram known × (look.single ≡ Some word)
    × (packed_bucket (form_seen a look.histogram word) ≢ Some bucket) × (at ≡ look.counts + 4 + buckets_of known.spec + bucket)

-- so what holds is kept
pub bucket_raised : (shape : Dimensions) (opened : Anatomy) (state : State) (kept : Invariant shape opened state) (id : ℕ) (a : Actor)
    (mine : get_elem? state.actors id ≡ some a) (recorder : is_opener a.role ≡ false) (place least : ℕ) → RaisesBucket a place least
    → Goes shape opened state kept id a mine recorder (taking_event (raise_mark place least))
bucket_raised shape opened state kept id a mine recorder place least (look, known, bucket, word, placed, takes, single_is, apart, is) =
    subst (λ (n : ℕ). Goes shape opened state kept id a mine recorder (taking_event (raise_mark n least))) (sym is)
    (raised_at shape opened state kept id a mine recorder look known bucket least word placed takes single_is apart)
