-- A recorder sees a count of a histogram, which is in use: it is 1 at least, so the single word is off.
use Rattle.segment_invariant.proofs.Prelude.Std.{◌≡◌, ◌≢◌, Bool, true, false, ℕ, ◌+◌, ◌<◌, ◌≤◌, ℤ, List, [], ◌∷◌, ◌++◌, length, set, ⊎_elim, refl, sym, ap, ◌∙◌, subst, arith, length-append, slice_index, All-contains, All-push, some, get_elem?}
use Rattle.segment_invariant.proofs.Prelude.Machine.{Dimensions, word_at, buckets_of, Actor, Look, Place, Spent, SumLoaded, Moving, Sighting, is_off, is_bound, is_opener, State}
use Rattle.segment_invariant.proofs.Prelude.Invariant.{Record, Counts, Sample, counts, sample, Anatomy, key_of_bucket, HasRecord, HasCounts, HasSample, WasFixed, WasCounter, WasInUse, WasMet, IsCountsOf, StandsRight, Invariant, KeptOn}
use Rattle.segment_invariant.specs.Invariant.{LooksRight}
use Rattle.segment_invariant.proofs.Lists.FewTerms.{zero_index}
use Rattle.segment_invariant.proofs.Blocks.Places.{counter_within}
use Rattle.segment_invariant.proofs.Frames.OneActor.{rests_at}
use Rattle.segment_invariant.proofs.Frames.SeesMore.{seer, near_on}
use Rattle.segment_invariant.proofs.Counting.Bounds.{counted_fits}
use Rattle.segment_invariant.proofs.Counting.Looks.{knows_of, same_block, counts_was, count_now, looks_count}
use Rattle.segment_invariant.proofs.Counting.Sights.{word_within, counter_is, sees_on}
use Rattle.segment_invariant.proofs.Counting.Whole.{whole_mounted}

module _ (shape : Dimensions) (opened : Anatomy) (state : State) (kept : Invariant shape opened state) (id : ℕ) (a : Actor)
    (mine : get_elem? state.actors id ≡ some a) (recorder : is_opener a.role ≡ false) (unbound : is_bound a.hand.place ≡ false) (look : Look) (right : LooksRight a look)
    (some_counts : look.counts ≢ 0) (bucket : ℕ) (below : bucket < buckets_of right.known.spec) where
  lives : a.hand.place ≢ Spent
  lives spent = cc (unbound, ap is_bound spent)

  still : (look : Look) (bucket units : ℕ) → a.hand.place ≢ Moving look bucket units
  still look bucket units moving = cc (unbound, ap is_bound moving)

  abbrev at : ℕ
  at = look.counts + 4 + bucket

  abbrev z : Sighting
  z = record { at = at; word = word_at state.words at }

  -- the counts that it looks at: those of the record that it knows
  abbrev TheCounts : Type 0
  TheCounts = (r : Record) × (c : Counts) × HasRecord kept.anatomy.pieces look.histogram r × HasCounts kept.anatomy.pieces look.counts c
      × IsCountsOf kept.anatomy.version look.histogram r c × (bucket < length c.units) × (word_at state.words at ≡ slice_index c.units bucket)
      × (word_at state.words at ≤ 4294967295)

  pub the_counts : TheCounts
  the_counts =
      let fits = kept.each id a mine lives in
      let known = right.known in
      let (has, refers, bucketed) = right.knows in
      let (r, first, there, named, many, keys) = knows_of shape opened state kept id a mine recorder lives known has in
      let stands : HasRecord kept.anatomy.pieces look.histogram r = subst (λ (n : ℕ). HasRecord kept.anatomy.pieces n r) refers there in
      let (counts_is, mounts) = counts_was shape opened state kept look.histogram look.counts r stands
      (All-contains (WasFixed kept.anatomy.pieces) a.seen.words _ fits.sees.fixed (right.counts some_counts)) in
      let (c, mounted_at, of_it) = kept.records.mounted look.histogram r stands mounts in
      let mounted : HasCounts kept.anatomy.pieces look.counts c = subst (λ (n : ℕ). HasCounts kept.anatomy.pieces n c) counts_is mounted_at in
      let units = of_it.units in
      let low : bucket < length c.units = omega (arith, units, many, below) in
      let now = count_now shape opened state kept look.counts bucket c mounted low in
      let whole = whole_mounted shape opened state kept known.name r.spec known.reference r first there named refl bucket (omega (arith, below, many)) c mounted_at
      (subst (λ (n : ℕ). IsCountsOf kept.anatomy.version n r c) (sym refers) of_it) in
      let bound = counted_fits shape opened state kept known.name (key_of_bucket r.spec bucket) in
      (r, c, stands, mounted, of_it, low, now, omega (arith, now, whole, bound))

  abbrev c : Counts
  c = the_counts.1

  spot : at ≡ look.counts + (4 + bucket)
  spot = omega arith

  -- it lies within the segment
  pub count_there : at < length state.words
  count_there = subst (λ (n : ℕ). n < length state.words) (sym spot) (word_within shape opened state kept look.counts (4 + bucket) (counts c) the_counts.3 refl
      (let low = the_counts.5 in counter_within (counts c) (4 + bucket) (omega arith, omega (arith, low))))

  -- it is in use if it counts something
  in_use : 1 ≤ word_at state.words at → is_off the_counts.0.single ≡ true
  in_use some_units = by_test (is_off the_counts.0.single) refl the_counts.6
    where
      by_test : (b : Bool) → is_off the_counts.0.single ≡ b → word_at state.words at ≡ slice_index c.units bucket → is_off the_counts.0.single ≡ true
      by_test true is now = is
      by_test false is now = let none = zero_index c.units bucket (the_counts.4.unused is).0 in absurd (omega (arith, some_units, now, none))

  module _ (off : is_off the_counts.0.single ≡ true) where
    used : WasInUse kept.anatomy.pieces z
    used other i d there is from within =
        let low = the_counts.5 in
        let long = length-append d.units d.marks in
        let all = length-append (d.units ++ d.marks) d.rest in
        let (place, bodies, index) = same_block shape opened state kept look.counts other (4 + bucket) i (counts c) (counts d) the_counts.3 there
        (counter_within (counts c) (4 + bucket) (omega arith, omega (arith, low))) (omega (arith, within, long, all)) (omega (arith, is)) in
        let same : c ≡ d = cc bodies in (
          the_counts.0,
          subst (λ (n : ℕ). HasRecord kept.anatomy.pieces n the_counts.0) (sym the_counts.4.mine ∙ ap (λ (c : Counts). c.of) same) the_counts.2,
          off,
        )

    no_sample : {X : Type 0} (other i : ℕ) (x : Sample) → HasSample kept.anatomy.pieces other x → at ≡ other + i → i < 8 → X
    no_sample other i x is_sample same few =
        let low = the_counts.5 in
        let (place, bodies, index) = same_block shape opened state kept look.counts other (4 + bucket) i (counts c) (sample x) the_counts.3 is_sample
        (counter_within (counts c) (4 + bucket) (omega arith, omega (arith, low))) (omega (arith, few)) (omega (arith, same)) in
        absurd (cc bodies)

    -- the state is kept when it sees that count, and moves on to a place
    pub off_seen : (place : Place) → is_bound place ≡ false → ((reference : ℕ) (sum : ℤ) → place ≢ SumLoaded reference sum)
        → StandsRight shape kept.anatomy id (seer a place (record a.seen { counts = a.seen.counts ++ z ∷ [] }) a.done.given a.done.lost) place
        → KeptOn shape opened kept (record {
          words = state.words;
          cursors = state.cursors;
          actors = set state.actors id (seer a place (record a.seen { counts = a.seen.counts ++ z ∷ [] }) a.done.given a.done.lost);
        })
    off_seen place free no_sum stood =
        let fits = kept.each id a mine lives in
        let low = the_counts.5 in
        let moves : (name : List ℕ) (key : ℤ) → _ = λ name key. rests_at a name key place (λ look bucket units moving. cc (free, ap is_bound moving))
        ∙ sym (rests_at a name key a.hand.place still) in
        sees_on shape opened state kept id a mine recorder place a.seen.singles (a.seen.counts ++ z ∷ []) unbound free moves
        (near_on shape opened state kept id a mine recorder place (record a.seen { counts = a.seen.counts ++ z ∷ [] }) a.done.given a.done.lost lives
        (λ spent. cc (free, ap is_bound spent)) moves (λ reference sum is. absurd (no_sum reference sum is)))
        fits.sees.singles
        (All-push (WasCounter kept.anatomy.pieces) a.seen.counts z fits.sees.counters
        (counter_is shape opened state kept at look.counts (4 + bucket) (counts c) the_counts.3 (omega arith, omega (arith, low)) spot))
        (All-push (WasInUse kept.anatomy.pieces) a.seen.counts z fits.sees.in_use used)
        (All-push (WasMet kept.anatomy.pieces a.seen) a.seen.counts z fits.sees.met (λ other x is_sample which. ⊎_elim
        (λ six. no_sample other 6 x is_sample six (omega arith))
        (λ seven. no_sample other 7 x is_sample seven (omega arith))
        which))
        stood
        (looks_count shape opened state kept id a mine recorder lives at place a.done.given still (λ reference sum is. absurd (no_sum reference sum is)))

  pub count_seen : 1 ≤ word_at state.words at → (place : Place) → is_bound place ≡ false → ((reference : ℕ) (sum : ℤ) → place ≢ SumLoaded reference sum)
      → StandsRight shape kept.anatomy id (seer a place (record a.seen { counts = a.seen.counts ++ z ∷ [] }) a.done.given a.done.lost) place
      → KeptOn shape opened kept (record {
        words = state.words;
        cursors = state.cursors;
        actors = set state.actors id (seer a place (record a.seen { counts = a.seen.counts ++ z ∷ [] }) a.done.given a.done.lost);
      })
  count_seen some_units = off_seen (in_use some_units)
