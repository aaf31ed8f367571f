-- The units that a recorder took out of a single word are added to the count of their bucket: the invariant is kept, with what is learned.
use Rattle.segment_invariant.proofs.Prelude.Std.{◌≡◌, ◌≢◌, Bool, true, false, if◌then◌else◌, ℕ, ◌+◌, ◌%◌, ◌^◌, ◌<◌, ◌≤◌, ℤ, pos, List, [], ◌∷◌, ◌++◌, length, set, Option, Some, refl, sym, ap, ◌∙◌, subst, arith, slice_index, int_eq, bytes_eq, +ℤ_idr, set-set, get_or-set_same, All-contains, some, get_elem?, at_from}
use Rattle.segment_invariant.proofs.Prelude.Machine.{Dimensions, word_at, Spec, buckets_of, single_of, packed_bucket, Actor, Known, Look, Place, Spent, Looking, Moving, Seen, bucket_key, is_opener, back, packing_event, Ready, is_off, add_moved, State}
use Rattle.segment_invariant.proofs.Prelude.Invariant.{Record, Counts, counts, Anatomy, of_name, key_of_bucket, keyed, units_held, moving_at, HasRecord, HasCounts, WasFixed, is_beaten, IsCountsOf, StandsRight, Invariant, KeptOn}
use Rattle.std.proofs.Math.Nat.{mod-eq_of_lt}
use Rattle.alloc_core.proofs.Owners.{set_at}
use Rattle.segment_invariant.specs.Ledger.{moving_of}
use Rattle.segment_invariant.specs.Invariant.{LooksRight}
use Rattle.segment_invariant.proofs.Consistency.Keys.{packed_within}
use Rattle.segment_invariant.proofs.Consistency.Totals.{find_known}
use Rattle.segment_invariant.proofs.Frames.GoesOn.{happens}
use Rattle.segment_invariant.proofs.Frames.Shown.{Goes}
use Rattle.segment_invariant.proofs.Blocks.Places.{counter_within}
use Rattle.segment_invariant.proofs.Frames.SeesMore.{seer}
use Rattle.segment_invariant.proofs.Frames.Rises.{kept_again}
use Rattle.segment_invariant.proofs.Changes.Others.{deed_of, changed}
use Rattle.segment_invariant.proofs.Counting.Sights.{word_within}
use Rattle.segment_invariant.proofs.Changes.Counts.{risen, risen_turns, risen_counts, keyed_risen}
use Rattle.segment_invariant.proofs.Changes.Places.{Placed, places_on}
use Rattle.segment_invariant.proofs.Changes.Records.{counts_kept}
use Rattle.segment_invariant.proofs.Changes.Words.{Turns, sums_beside}
use Rattle.segment_invariant.proofs.Counting.CountSeen.{the_counts, count_seen}
use Rattle.segment_invariant.proofs.Counting.Looks.{knows_of, one_record, counts_was, count_now}

module _ (shape : Dimensions) (opened : Anatomy) (state : State) (kept : Invariant shape opened state) (id : ℕ) (a : Actor)
    (mine : get_elem? state.actors id ≡ some a) (recorder : is_opener a.role ≡ false) (look : Look) (bucket units : ℕ) (placed : a.hand.place ≡ Moving look bucket units) where
  lives : a.hand.place ≢ Spent
  lives spent = cc (sym placed ∙ spent)

  abbrev stood : StandsRight shape kept.anatomy id a (Moving look bucket units)
  stood = subst (StandsRight shape kept.anatomy id a) placed (kept.standing id a mine)

  abbrev right : LooksRight a look
  right = stood.0

  -- ---- what it knows

  -- what it finds under the reference: the record, whose single word is off, and its counts
  abbrev Found : Type 0
  Found = (known : Known) × (r : Record) × (c : Counts) × HasRecord kept.anatomy.pieces look.histogram r
      × HasCounts kept.anatomy.pieces look.counts c × IsCountsOf kept.anatomy.version look.histogram r c × (is_off r.single ≡ true) × (bucket < buckets_of r.spec)
      × (r.counts ≡ look.counts) × (r.name ≡ known.name) × (key_of_bucket r.spec bucket ≡ bucket_key (Some known) bucket)
      × ((name : List ℕ) (key : ℤ) → moving_at a name key a.hand.place ≡ of_name known.name name (if int_eq (bucket_key (Some known) bucket) key then units else 0))

  found : Found
  found =
      let fits = kept.each id a mine lives in
      let among = at_from a.answers.names right.known right.knows.0 in
      let (known, is, has, refers) = find_known a.answers.names look.histogram among.0 right.known among.1 right.knows.1 in
      let (r, first, there, named, many, keys) = knows_of shape opened state kept id a mine recorder lives known has in
      let stands : HasRecord kept.anatomy.pieces look.histogram r = subst (λ (n : ℕ). HasRecord kept.anatomy.pieces n r) refers there in
      let (q, its, packs, off) = stood.5 in
      let same = one_record shape opened state kept look.histogram q r its stands in
      let within = packed_within 1 (buckets_of r.spec) r.single bucket
      (subst (λ (z : Record). packed_bucket (single_of 1 (buckets_of z.spec) z.single) ≡ Some bucket) same packs) in
      let (counts_is, mounts) = counts_was shape opened state kept look.histogram look.counts r stands
      (All-contains (WasFixed kept.anatomy.pieces) a.seen.words _ fits.sees.fixed (right.counts stood.2)) in
      let (c, mounted, of_it) = kept.records.mounted look.histogram r stands mounts in (
        known,
        r,
        c,
        stands,
        subst (λ (n : ℕ). HasCounts kept.anatomy.pieces n c) counts_is mounted,
        of_it,
        sym (ap (λ (z : Record). is_off z.single) same) ∙ off,
        within,
        counts_is,
        named,
        keys bucket,
        λ name key. ap (moving_at a name key) placed ∙ ap (λ (known : Option Known). moving_of name key known bucket units) is,
      )

  abbrev known : Known
  known = found.0

  abbrev r : Record
  r = found.1

  abbrev c : Counts
  c = found.2

  abbrev has : HasRecord kept.anatomy.pieces look.histogram r
  has = found.3

  abbrev mounted : HasCounts kept.anatomy.pieces look.counts c
  mounted = found.4

  abbrev of_it : IsCountsOf kept.anatomy.version look.histogram r c
  of_it = found.5

  low : bucket < length c.units
  low = let within = found.7 in let units = of_it.units in omega (arith, within, units)

  -- ---- the count rises

  abbrev more : Counts
  more = risen c bucket units low

  abbrev v : ℕ
  v = slice_index c.units bucket + units

  abbrev turns : Turns kept.anatomy.version (counts c) (counts more) (4 + bucket) v
  turns = risen_turns c bucket units low kept.anatomy.version

  abbrev place : Place
  place = Looking look

  -- the block holds what was in transit
  held : (name : List ℕ) (key : ℤ) → units_held kept.anatomy.version name key (counts more) ≡ units_held kept.anatomy.version name key (counts c) + moving_at a name key a.hand.place
  held name key =
      ap (of_name c.name name) (keyed_risen c.spec key c.units bucket units low)
      ∙ (by_name (bytes_eq c.name name)
      ∙ sym (ap (λ (n : ℕ). of_name c.name name (keyed c.spec key c.units) + n) (found.11 name key ∙ (λ i. of_name (names i) name (if int_eq (keys i) key then units else 0)))))
    where
      names : known.name ≡ c.name
      names = sym found.9 ∙ sym of_it.named

      keys : bucket_key (Some known) bucket ≡ key_of_bucket c.spec bucket
      keys = sym found.10 ∙ ap (λ (kind : Spec). key_of_bucket kind bucket) (sym of_it.same)

      by_name : (b : Bool) → (if b then keyed c.spec key c.units + (if int_eq (key_of_bucket c.spec bucket) key then units else 0) else 0)
          ≡ (if b then keyed c.spec key c.units else 0) + (if b then (if int_eq (key_of_bucket c.spec bucket) key then units else 0) else 0)
      by_name true = refl
      by_name false = refl

  shows : Placed shape opened state kept look.counts (counts c) (counts more) (4 + bucket) v mounted turns id a mine recorder lives place
  shows = record {
    records = counts_kept shape opened state kept look.counts c more (4 + bucket) v mounted turns refl (λ at z there refers is.
        let owner : at ≡ look.histogram = sym is.mine ∙ of_it.mine in
        let same = one_record shape opened state kept look.histogram z r (subst (λ (n : ℕ). HasRecord kept.anatomy.pieces n z) owner there) has in
        risen_counts c bucket units low kept.anatomy.version at z (ap (λ (w : Record). is_off w.single) same ∙ found.6) is);
    balances = record {
      units = λ name key. let more = held name key in omega (arith, more);
      marks = λ name key. refl;
      sums = λ name. (pos 0, sym (+ℤ_idr _), sym (+ℤ_idr _));
      sum_marks = λ name. (pos 0, sym (+ℤ_idr _), sym (+ℤ_idr _));
      noted = λ name. refl;
    };
    sums = sums_beside shape opened state kept look.counts (counts c) (counts more) (4 + bucket) v mounted turns (λ s is. cc is);
    lives = λ spent. cc spent;
    no_sum = λ reference sum is. cc is;
    stood = right;
    up = λ free. subst (λ (p : Place). is_beaten p ≡ false) (sym placed) refl;
  }

  -- ---- what it leaves

  abbrev at : ℕ
  at = look.counts + 4 + bucket

  spot : at ≡ look.counts + (4 + bucket)
  spot = omega arith

  there : look.counts + (4 + bucket) < length state.words
  there = word_within shape opened state kept look.counts (4 + bucket) (counts c) mounted refl (counter_within (counts c) (4 + bucket) (omega arith, omega (arith, low)))

  found_is : word_at state.words at ≡ slice_index c.units bucket
  found_is = count_now shape opened state kept look.counts bucket c mounted low

  abbrev b : Actor
  b = changed a (record (deed_of a) { place = place })

  abbrev between : State
  between = record { words = set state.words (look.counts + (4 + bucket)) v; cursors = state.cursors; actors = set state.actors id b }

  first_step : KeptOn shape opened kept between
  first_step = places_on shape opened state kept look.counts (counts c) (counts more) (4 + bucket) v mounted turns id a mine recorder lives place shows

  abbrev kept_between : Invariant shape opened between
  kept_between = first_step.0

  mine_between : get_elem? between.actors id ≡ some b
  mine_between = set_at state.actors id a b mine

  word_between : word_at between.words at ≡ v
  word_between = ap (word_at between.words) spot ∙ get_or-set_same state.words (look.counts + (4 + bucket)) v 0 there

  abbrev right_between : LooksRight b look
  right_between = right

  below : bucket < buckets_of right.known.spec
  below =
      let (q, first, stands, named, many, keys) = knows_of shape opened state kept id a mine recorder lives right.known right.knows.0 in
      let same = one_record shape opened state kept look.histogram q r (subst (λ (n : ℕ). HasRecord kept.anatomy.pieces n q) right.knows.1 stands) has in
      let kind = ap (λ (z : Record). buckets_of z.spec) same in
      let within = found.7 in
      omega (arith, many, kind, within)

  -- the sum fits
  fits : v ≤ 4294967295
  fits =
      let bound = (the_counts shape opened between kept_between id b mine_between recorder refl look right_between stood.2 bucket below).7 in
      omega (arith, bound, word_between)

  abbrev seen : Seen
  seen = record a.seen { counts = a.seen.counts ++ record { at = at; word = word_at between.words at } ∷ [] }

  left : KeptOn shape opened kept (record {
    words = between.words;
    cursors = state.cursors;
    actors = set between.actors id (seer b place seen a.done.given a.done.lost);
  })
  left = kept_again shape opened state kept first_step
      (count_seen shape opened between kept_between id b mine_between recorder refl look right_between stood.2 bucket below
      (let some_units = stood.3 in omega (arith, word_between, some_units)) place refl (λ reference sum is. cc is)
      right)

  carry : v ≡ (word_at state.words at + units) % 2 ^ 64
  carry =
      let small = fits in
      sym (mod-eq_of_lt (omega (arith, small))) ∙ ap (λ (n : ℕ). (n + units) % 2 ^ 64) (sym found_is)

  pub moved_at : Goes shape opened state kept id a mine recorder (packing_event (add_moved look.counts bucket units))
  moved_at =
      let small = fits in
      let event = packing_event (add_moved look.counts bucket units) in
      happens opened.version state id a event (omega (arith, spot, there)) shape opened kept (
        subst (λ (p : List ℕ × List Actor). KeptOn shape opened kept (record { words = p.0; cursors = state.cursors; actors = p.1 }))
            (λ i. (
              set state.words (sym spot i) (carry i),
              (set-set state.actors id b (seer b place seen a.done.given a.done.lost) ∙ (λ j. set state.actors id (record a {
                hand = record a.hand { place = (sym (ap back placed)) j };
                seen = record a.seen { counts = a.seen.counts ++ record { at = at; word = (word_between ∙ ap (λ (n : ℕ). n + units) (sym found_is)) j } ∷ [] };
              }))) i,
            )) left,
        omega (arith, small, found_is),
      )

module _ (shape : Dimensions) (opened : Anatomy) (state : State) (kept : Invariant shape opened state) (id : ℕ) (a : Actor)
    (mine : get_elem? state.actors id ≡ some a) (recorder : is_opener a.role ≡ false) where
  -- adding units that are in transit keeps what holds
  pub moved_added : (block bucket units : ℕ) → Ready a (packing_event (add_moved block bucket units))
      → Goes shape opened state kept id a mine recorder (packing_event (add_moved block bucket units))
  moved_added block bucket units (look, placed, refers) =
      subst (λ (n : ℕ). Goes shape opened state kept id a mine recorder (packing_event (add_moved n bucket units))) refers
      (moved_at shape opened state kept id a mine recorder look bucket units placed)
