-- The units of the entry that is next are added to the count of their bucket: the invariant is kept, with what is learned.
use Rattle.segment_invariant.proofs.Prelude.Std.{◌≡◌, ◌≢◌, Bool, true, false, if◌then◌else◌, ◌&&◌, ℕ, ◌+◌, ◌%◌, ◌^◌, ◌<◌, ◌≤◌, ℤ, List, [], ◌∷◌, ◌++◌, length, set, inl, refl, sym, ap, ◌∙◌, subst, arith, slice_index, int_eq, bytes_eq, set-set, get_or-set_same, All-contains, some, get_elem?}
use Rattle.segment_invariant.proofs.Prelude.Machine.{Spec, buckets_of, Dimensions, word_at, EntryProgress, Actor, Known, Look, Spent, Idle, Looking, Seen, is_counted, is_bound, is_opener, add_count, counting_event, is_off, State}
use Rattle.segment_invariant.proofs.Prelude.Invariant.{Record, Counts, counts, Anatomy, of_name, key_of_bucket, keyed, units_held, HasRecord, HasCounts, IsFirst, WasFixed, WasSingle, IsCountsOf, StandsRight, Invariant, KeptOn}
use Rattle.std.proofs.Math.Nat.{mod-eq_of_lt}
use Rattle.alloc_core.proofs.Owners.{set_at}
use Rattle.bucket_ranges.specs.declared.spec.Spec.TheVariants as spec
use Rattle.segment_machine.specs.Calls.{CountsNext, IsKeyOfBucket, LooksOff}
use Rattle.segment_invariant.specs.Invariant.{LooksRight}
use Rattle.segment_invariant.proofs.Blocks.Places.{counter_within}
use Rattle.segment_invariant.proofs.Frames.GoesOn.{happens}
use Rattle.segment_invariant.proofs.Frames.SeesMore.{seer}
use Rattle.segment_invariant.proofs.Frames.Shown.{Goes}
use Rattle.segment_invariant.proofs.Frames.Rises.{kept_again}
use Rattle.segment_invariant.proofs.Changes.Counts.{risen, risen_turns, risen_counts, keyed_risen}
use Rattle.segment_invariant.proofs.Changes.Records.{counts_kept}
use Rattle.segment_invariant.proofs.Changes.Words.{Turns, sums_beside}
use Rattle.segment_invariant.proofs.Counting.Counted.{its_units, as_counted, has_units, counter, CountedInto, units_counted}
use Rattle.segment_invariant.proofs.Counting.CountSeen.{the_counts, count_seen}
use Rattle.segment_invariant.proofs.Counting.Held.{not_sparse}
use Rattle.segment_invariant.proofs.Counting.Looks.{knows_of, one_record, counts_was, count_now}
use Rattle.segment_invariant.proofs.Counting.Running.{Next, next_of}
use Rattle.segment_invariant.proofs.Counting.Seen.{off_was}
use Rattle.segment_invariant.proofs.Counting.Sights.{word_within}
use Rattle.segment_invariant.proofs.Consistency.Books.{one_first}

module _ (shape : Dimensions) (opened : Anatomy) (state : State) (kept : Invariant shape opened state) (id : ℕ) (a : Actor)
    (mine : get_elem? state.actors id ≡ some a) (recorder : is_opener a.role ≡ false) (entry : EntryProgress) (next : Next a.entries.running entry) (uncounted : is_counted entry ≡ false)
    (look : Look) (known : Known) (off : LooksOff a look known) (named : entry.entry.name ≡ known.name)
    (bucket : ℕ) (is_key : IsKeyOfBucket known bucket entry.entry.key) where
  unbound : is_bound a.hand.place ≡ false
  unbound = ap is_bound off.0

  lives : a.hand.place ≢ Spent
  lives spent = cc (unbound, ap is_bound spent)

  stood : StandsRight shape kept.anatomy id a (Looking look)
  stood = subst (StandsRight shape kept.anatomy id a) off.0 (kept.standing id a mine)

  -- what it has in hand, of the histogram that it knows
  abbrev right : LooksRight a look
  right = record { known = known; knows = off.3; single = stood.single; counts = stood.counts }

  abbrev units : ℕ
  units = entry.entry.units

  -- what it finds under the reference: the first record of the name, whose single word is off, and its counts
  abbrev Found : Type 0
  Found = (r : Record) × (c : Counts) × HasRecord kept.anatomy.pieces look.histogram r × HasCounts kept.anatomy.pieces look.counts c
      × IsCountsOf kept.anatomy.version look.histogram r c × (is_off r.single ≡ true) × (bucket < buckets_of r.spec)
      × (r.name ≡ entry.entry.name) × (key_of_bucket r.spec bucket ≡ entry.entry.key)
      × IsFirst kept.anatomy.records entry.entry.name r.spec look.histogram

  found : Found
  found =
      let fits = kept.each id a mine lives in
      let (has, refers, bucketed) = off.3 in
      let (r, first, there, called, many, keys) = knows_of shape opened state kept id a mine recorder lives known has in
      let stands : HasRecord kept.anatomy.pieces look.histogram r = subst (λ (n : ℕ). HasRecord kept.anatomy.pieces n r) refers there in
      let (word, saw, is) = off.2 in
      let single = off_was shape opened state kept id a mine lives look.histogram word r stands
      (All-contains (WasSingle kept.anatomy.version kept.anatomy.pieces) a.seen.singles _ fits.sees.singles (stood.single word saw)) is in
      let (counts_is, mounts) = counts_was shape opened state kept look.histogram look.counts r stands
      (All-contains (WasFixed kept.anatomy.pieces) a.seen.words _ fits.sees.fixed (stood.counts off.1)) in
      let (c, mounted, of_it) = kept.records.mounted look.histogram r stands mounts in
      let within = is_key.0 in (
        r,
        c,
        stands,
        subst (λ (n : ℕ). HasCounts kept.anatomy.pieces n c) counts_is mounted,
        of_it,
        ap is_off (sym single) ∙ is,
        omega (arith, within, many),
        called ∙ sym named,
        keys bucket ∙ is_key.1,
        subst (λ (p : List ℕ × ℕ). IsFirst kept.anatomy.records p.0 r.spec p.1) (λ i. (sym named i, refers i)) first,
      )

  abbrev r : Record
  r = found.0

  abbrev c : Counts
  c = found.1

  abbrev has : HasRecord kept.anatomy.pieces look.histogram r
  has = found.2

  abbrev mounted : HasCounts kept.anatomy.pieces look.counts c
  mounted = found.3

  abbrev of_it : IsCountsOf kept.anatomy.version look.histogram r c
  of_it = found.4

  low : bucket < length c.units
  low = let within = found.6 in let many = of_it.units in omega (arith, within, many)

  -- ---- the count rises

  abbrev more : Counts
  more = risen c bucket units low

  abbrev v : ℕ
  v = slice_index c.units bucket + units

  abbrev turns : Turns kept.anatomy.version (counts c) (counts more) (4 + bucket) v
  turns = risen_turns c bucket units low kept.anatomy.version

  held : (name : List ℕ) (key : ℤ) → units_held kept.anatomy.version name key (counts more) ≡ units_held kept.anatomy.version name key (counts c) + its_units entry name key
  held name key =
      ap (of_name c.name name) (keyed_risen c.spec key c.units bucket units low)
      ∙ (by_name (bytes_eq c.name name) (int_eq (key_of_bucket c.spec bucket) key)
      ∙ ap (λ (n : ℕ). of_name c.name name (keyed c.spec key c.units) + n)
      (λ i. if bytes_eq (names i) name && int_eq (keys i) key then units else 0))
    where
      names : c.name ≡ entry.entry.name
      names = of_it.named ∙ found.7

      keys : key_of_bucket c.spec bucket ≡ entry.entry.key
      keys = ap (λ (kind : Spec). key_of_bucket kind bucket) of_it.same ∙ found.8

      by_name : (s t : Bool) → (if s then keyed c.spec key c.units + (if t then units else 0) else 0)
          ≡ (if s then keyed c.spec key c.units else 0) + (if s && t then units else 0)
      by_name true t = refl
      by_name false t = refl

  shows : CountedInto shape opened state kept id a mine recorder unbound entry next uncounted look.counts (counts c) (counts more) (4 + bucket) v mounted turns
  shows = record {
    records = counts_kept shape opened state kept look.counts c more (4 + bucket) v mounted turns refl (λ at z there refers is.
        let owner : at ≡ look.histogram = sym is.mine ∙ of_it.mine in
        let same = one_record shape opened state kept look.histogram z r (subst (λ (n : ℕ). HasRecord kept.anatomy.pieces n z) owner there) has in
        risen_counts c bucket units low kept.anatomy.version at z (ap (λ (w : Record). is_off w.single) same ∙ found.5) is);
    units = held;
    marks = λ name key. refl;
    sum = λ name. refl;
    sum_mark = λ name. refl;
    noted = λ name. refl;
    sums = sums_beside shape opened state kept look.counts (counts c) (counts more) (4 + bucket) v mounted turns (λ s is. cc is);
    key = (r.spec, look.histogram, found.9, inl (bucket, found.6, sym found.8));
    met = λ of first.
        absurd (not_sparse r.spec bucket found.6 (one_first shape opened state kept entry.entry.name r.spec spec.Sparse look.histogram of found.9 first).1);
  }

  -- ---- and then it sees the count

  abbrev at : ℕ
  at = look.counts + 4 + bucket

  spot : at ≡ look.counts + (4 + bucket)
  spot = omega arith

  there : look.counts + (4 + bucket) < length state.words
  there = word_within shape opened state kept look.counts (4 + bucket) (counts c) mounted refl (counter_within (counts c) (4 + bucket) (omega arith, omega (arith, low)))

  found_is : word_at state.words at ≡ slice_index c.units bucket
  found_is = count_now shape opened state kept look.counts bucket c mounted low

  abbrev b : Actor
  b = counter shape opened state kept id a mine recorder unbound entry next uncounted

  abbrev between : State
  between = record { words = set state.words (look.counts + (4 + bucket)) v; cursors = state.cursors; actors = set state.actors id b }

  first_step : KeptOn shape opened kept between
  first_step =
      units_counted shape opened state kept id a mine recorder unbound entry next uncounted look.counts (counts c) (counts more) (4 + bucket) v mounted turns shows

  abbrev kept_between : Invariant shape opened between
  kept_between = first_step.0

  mine_between : get_elem? between.actors id ≡ some b
  mine_between = set_at state.actors id a b mine

  word_between : word_at between.words at ≡ v
  word_between = ap (word_at between.words) spot ∙ get_or-set_same state.words (look.counts + (4 + bucket)) v 0 there

  abbrev right_between : LooksRight b look
  right_between = record { known = known; knows = off.3; single = stood.single; counts = stood.counts }

  -- the sum fits
  fits : v ≤ 4294967295
  fits =
      let bound = (the_counts shape opened between kept_between id b mine_between recorder refl look right_between off.1 bucket is_key.0).7 in
      omega (arith, bound, word_between)

  abbrev seen : Seen
  seen = record a.seen { counts = a.seen.counts ++ record { at = at; word = word_at between.words at } ∷ [] }

  left : KeptOn shape opened kept (record {
    words = between.words;
    cursors = state.cursors;
    actors = set between.actors id (seer b Idle seen a.done.given a.done.lost);
  })
  left = kept_again shape opened state kept first_step
      (count_seen shape opened between kept_between id b mine_between recorder refl look right_between off.1 bucket is_key.0
      (let some_units = has_units entry uncounted in omega (arith, word_between, some_units)) Idle refl (λ reference sum is. cc is) tt)

  carry : v ≡ (word_at state.words at + units) % 2 ^ 64
  carry =
      let small = fits in
      sym (mod-eq_of_lt (omega (arith, small))) ∙ ap (λ (n : ℕ). (n + units) % 2 ^ 64) (sym found_is)

  pub counted_at : Goes shape opened state kept id a mine recorder (counting_event (add_count at units))
  counted_at =
      let small = fits in
      let event = counting_event (add_count at units) in
      happens opened.version state id a event (omega (arith, spot, there)) shape opened kept (
        subst (λ (p : List ℕ × List Actor). KeptOn shape opened kept (record { words = p.0; cursors = state.cursors; actors = p.1 }))
            (λ i. (
              set state.words (sym spot i) (carry i),
              (set-set state.actors id b (seer b Idle seen a.done.given a.done.lost) ∙ (λ j. set state.actors id (record a {
                hand = record a.hand { place = Idle };
                entries = record a.entries { running = (sym (next.changed as_counted)) j };
                seen = record a.seen { counts = a.seen.counts ++ record { at = at; word = (word_between ∙ ap (λ (n : ℕ). n + units) (sym found_is)) j } ∷ [] };
              }))) i,
            )) left,
        omega (arith, small, found_is),
      )

module _ (shape : Dimensions) (opened : Anatomy) (state : State) (kept : Invariant shape opened state) (id : ℕ) (a : Actor)
    (mine : get_elem? state.actors id ≡ some a) (recorder : is_opener a.role ≡ false) where
  -- the units are those of the next entry, and the word is the count of its bucket
  abbrev pub CountsBucket : ℕ → ℕ → Type 0
  CountsBucket at units =
      (c : EntryProgress) × (known : Known) × CountsNext a c × (c.entry.name ≡ known.name) × (c.entry.units ≡ units)
      × ((look : Look) × (bucket : ℕ) × LooksOff a look known × IsKeyOfBucket known bucket c.entry.key × (at ≡ look.counts + 4 + bucket))

  -- adding them keeps what holds
  pub bucket_counted : (at units : ℕ) → CountsBucket at units → Goes shape opened state kept id a mine recorder (counting_event (add_count at units))
  bucket_counted word amount (c, known, ((rest, is_next), uncounted), named, units_are, (look, bucket, off, is_key, place)) =
      subst (λ (p : ℕ × ℕ). Goes shape opened state kept id a mine recorder (counting_event (add_count p.0 p.1))) (λ i. (sym place i, units_are i))
      (counted_at shape opened state kept id a mine recorder c (next_of a.entries.running c rest is_next) uncounted look known off named bucket is_key)
