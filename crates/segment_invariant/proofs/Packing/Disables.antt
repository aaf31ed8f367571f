-- A single word is disabled, or frozen: the invariant is kept, with what is learned. First the word changes, and then its actor sees it.
use Rattle.segment_invariant.proofs.Prelude.Std.{◌≡◌, ◌≢◌, Bool, true, false, ◌&&◌, ◌==◌, nat_lt, if◌then◌else◌, ℕ, ◌+◌, ◌<◌, ◌≤◌, ℤ, pos, max, List, [], ◌∷◌, ◌++◌, length, set, All, Contains, Option, Some, None, ⊎_elim, refl, sym, ap, ◌∙◌, subst, arith, true≢false, eqb-true, eq-eqb, unwrap_or, int_eq, bytes_eq, +ℤ_idr, and_parts, eqb-false, ltb-true, ltb-false, set-set, get_or-set_same, All-contains, All-weaker, Contains-push, some, get_elem?, at_from}
use Rattle.segment_invariant.proofs.Prelude.Machine.{Dimensions, word_at, SingleWord, Spec, buckets_of, single_of, packed_bucket, Actor, Known, Look, Place, Spent, Looking, SumLoaded, Moving, taken_units, known_at, bucket_key, Buckets, taken_of, is_opener, look_of, packing_event, Ready, is_off, units_in, disable, after_disable, State}
use Rattle.segment_invariant.proofs.Prelude.Invariant.{Record, Counts, histogram, Anatomy, EventKeeps, form_at, of_name, at_bucket, key_of_bucket, units_held, moving_at, HasRecord, IsFirst, WasFixed, WasInUse, is_beaten, IsLawfulRecord, IsCountsOf, StandsRight, Invariant, KeptOn}
use Rattle.std.proofs.lemmas.Bool.{and_cases}
use Rattle.alloc_core.proofs.Owners.{set_at}
use Rattle.segment_machine.specs.Actor.{known_buckets}
use Rattle.segment_machine.specs.Calls.{nothing_of, form_seen}
use Rattle.segment_calls.specs.Form.{off_word}
use Rattle.segment_machine.specs.Packing.{after_disabling}
use Rattle.segment_invariant.specs.Ledger.{moving_of}
use Rattle.segment_invariant.specs.Invariant.{LooksRight}
use Rattle.segment_invariant.proofs.Lists.FewTerms.{if_nothing, zero_index}
use Rattle.segment_invariant.proofs.Consistency.Keys.{packed_within, no_units, at_no_bucket}
use Rattle.segment_invariant.proofs.Consistency.Totals.{find_known}
use Rattle.segment_invariant.proofs.Frames.Ahead.{KeepsUp}
use Rattle.segment_invariant.proofs.Frames.Answers.{first_one}
use Rattle.segment_invariant.proofs.Frames.GoesOn.{happens}
use Rattle.segment_invariant.proofs.Frames.SeesMore.{seer}
use Rattle.segment_invariant.proofs.Frames.Shown.{Goes}
use Rattle.segment_invariant.proofs.Changes.Others.{deed_of, changed}
use Rattle.segment_invariant.proofs.Changes.Places.{Placed, places_on}
use Rattle.segment_invariant.proofs.Changes.Records.{record_kept}
use Rattle.segment_invariant.proofs.Changes.Words.{Turns, behind, stands_then, word_turns, record_sums}
use Rattle.segment_invariant.proofs.Counting.Looks.{knows_of, body_word, counts_was, in_use_now}
use Rattle.segment_invariant.proofs.Counting.Sights.{word_within}
use Rattle.segment_invariant.proofs.Packing.Beaten.{now_seen, disable_beaten}
use Rattle.segment_invariant.proofs.Packing.Forms.{units_most}
use Rattle.segment_invariant.proofs.Packing.Loads.{learns_single}
use Rattle.segment_invariant.proofs.Packing.OffForms.{Disabling, disabling, few_buckets}
use Rattle.segment_invariant.proofs.Packing.Packs.{with_single}
use Rattle.segment_invariant.proofs.Frames.Anew.{lawful_anew, counts_anew}
use Rattle.segment_invariant.proofs.Frames.Rises.{kept_again}

-- ---- the record with its word off

-- what is at most the greater of two small numbers is small, so at most the greater of any and the limit
low_mark : (mark few more limit : ℕ) → mark ≤ max few limit → few ≤ limit → mark ≤ max more limit
low_mark mark few more limit most low = omega (arith, most, low)

module _ (version at : ℕ) (r : Record) (d : Disabling version (buckets_of r.spec) r.single) (on : is_off r.single ≡ false) (mounts : r.counts ≢ 0) where
  abbrev off : Record
  off = with_single r (off_word version r.single)

  lawful_off : (page : ℕ) → IsLawfulRecord version page r → IsLawfulRecord version page off
  lawful_off page is = lawful_anew version page r r.counts (off_word version r.single) r.mark r.sum r.sum_mark r.noted is
      d.formed (λ none_there. is.unpacked (sym d.names ∙ none_there)) (λ _. mounts) (λ sparse. absurd (mounts (is.sparse sparse).0)) is.narrow

  -- in version 1 nothing was counted in the counts before this, so the mark is at most 65,535
  counts_off : (c : Counts) → IsCountsOf version at r c → IsCountsOf version at off c
  counts_off c is = counts_anew version at r (off_word version r.single) r.mark c is
      (λ i packs. is.packed i (sym d.names ∙ packs)) (λ still. absurd (true≢false (sym d.off ∙ still)))
      (λ one i packs.
      let none_there = zero_index c.units i (is.unused on).0 in
      let fewer = units_most (form_at version r) i in
      let few = d.few in
      low_mark r.mark _ _ 65535 (is.mark one i (sym d.names ∙ packs)) (omega (arith, none_there, fewer, few)))

-- ---- the word changes

module _ (shape : Dimensions) (opened : Anatomy) (state : State) (kept : Invariant shape opened state) (id : ℕ) (a : Actor)
    (mine : get_elem? state.actors id ≡ some a) (recorder : is_opener a.role ≡ false) (look : Look) (old : ℕ) (asked : Known) (placed : a.hand.place ≡ Looking look)
    (single : look.single ≡ Some old) (on : is_off old ≡ false) (buckets : Buckets a look.histogram asked) (some_counts : look.counts ≢ 0)
    (is_old : word_at state.words (look.histogram + 9) ≡ old) where
  lives : a.hand.place ≢ Spent
  lives spent = cc (sym placed ∙ spent)

  abbrev h : ℕ
  h = look.histogram

  abbrev version : ℕ
  version = kept.anatomy.version

  abbrev right : LooksRight a look
  right = subst (StandsRight shape kept.anatomy id a) placed (kept.standing id a mine)

  -- what it finds under the reference: the record, whose single word is the old one, and its counts
  abbrev Found : Type 0
  Found = (known : Known) × (r : Record) × HasRecord kept.anatomy.pieces h r × (r.single ≡ old) × (r.counts ≡ look.counts) × (r.counts ≢ 0)
      × (r.name ≡ known.name) × (buckets_of r.spec ≡ buckets_of known.spec) × ((i : ℕ) → key_of_bucket r.spec i ≡ bucket_key (Some known) i)
      × (known_at a.answers.names h ≡ Some known) × ((kind : Spec) (place : ℕ) → IsFirst kept.anatomy.records r.name kind place → place ≡ h)

  found : Found
  found =
      let fits = kept.each id a mine lives in
      let among = at_from a.answers.names asked buckets.0 in
      let (known, is, has, refers) = find_known a.answers.names h among.0 asked among.1 buckets.1 in
      let (r, first, there, named, many, keys) = knows_of shape opened state kept id a mine recorder lives known has in
      let stands : HasRecord kept.anatomy.pieces h r = subst (λ (n : ℕ). HasRecord kept.anatomy.pieces n r) refers there in
      let (counts_is, mounts) = counts_was shape opened state kept h look.counts r stands
      (All-contains (WasFixed kept.anatomy.pieces) a.seen.words _ fits.sees.fixed (right.counts some_counts)) in (
        known,
        r,
        stands,
        sym (body_word shape opened state kept h 9 (histogram r) stands (omega arith)) ∙ is_old,
        counts_is,
        mounts,
        named,
        many,
        keys,
        is,
        λ kind place is_first. first_one kept.anatomy.records known.name kind r.spec place known.reference
            (subst (λ (name : List ℕ). IsFirst kept.anatomy.records name kind place) named is_first) first ∙ refers,
      )

  abbrev known : Known
  known = found.0

  abbrev r : Record
  r = found.1

  abbrev stands : HasRecord kept.anatomy.pieces h r
  stands = found.2

  still_on : is_off r.single ≡ false
  still_on = ap is_off found.3 ∙ on

  abbrev d : Disabling version (buckets_of r.spec) r.single
  d =
      let lawful = kept.records.lawful h r stands in
      let few = few_buckets r.spec lawful.lawful in
      disabling version (buckets_of r.spec) r.single kept.versions (omega (arith, few)) lawful.formed still_on

  abbrev v : ℕ
  v = off_word version r.single

  abbrev s : Record
  s = with_single r v

  abbrev turns : Turns version (histogram r) (histogram s) 9 v
  turns = word_turns version (histogram r) (histogram s) 9 v refl refl refl (omega arith) (omega arith)
      (s, refl, record { is = refl; counts = λ there. refl; single = d.leads; mark = omega arith; noted = omega arith })

  abbrev new : Anatomy
  new = behind shape opened state kept h (histogram r) (histogram s) 9 v stands turns

  -- what it looks at before it sees the word, and then
  abbrev unseen : Look
  unseen = record look { single = None }

  abbrev looked : Look
  looked = record look { single = Some v }

  there : h + 9 < length state.words
  there = word_within shape opened state kept h 9 (histogram r) stands refl (omega arith)

  -- It turns to a place that is one of looks: the word changes, and it is seen.
  module _ (turn : Look → Place) (alive : (l : Look) → turn l ≢ Spent) (no_sum : (l : Look) (reference : ℕ) (sum : ℤ) → turn l ≢ SumLoaded reference sum)
      (held : (name : List ℕ) (key : ℤ) → units_held version name key (histogram s) + moving_at a name key (turn unseen) ≡ units_held version name key (histogram r))
      (moves : (b : Actor) (name : List ℕ) (key : ℤ) → moving_at b name key (turn looked) ≡ moving_at b name key (turn unseen))
      (keeps_up : KeepsUp (turn unseen) (turn looked))
      (stood : LooksRight (changed a (record (deed_of a) { place = turn unseen })) unseen
      → StandsRight shape new id (changed a (record (deed_of a) { place = turn unseen })) (turn unseen))
      (goes_on : (anatomy : Anatomy) (b : Actor) → StandsRight shape anatomy id (changed a (record (deed_of a) { place = turn unseen })) (turn unseen)
      → b.seen.counts ≡ a.seen.counts → LooksRight b looked → StandsRight shape anatomy id b (turn looked)) where
    abbrev b : Actor
    b = changed a (record (deed_of a) { place = turn unseen })

    abbrev between : State
    between = record { words = set state.words (h + 9) v; cursors = state.cursors; actors = set state.actors id b }

    shows : Placed shape opened state kept h (histogram r) (histogram s) 9 v stands turns id a mine recorder lives (turn unseen)
    shows = record {
      records = record_kept shape opened state kept h r s 9 v stands turns refl (lawful_off version h r d still_on found.5 shape.page (kept.records.lawful h r stands))
          (λ c there is. counts_off version h r d still_on found.5 c is) (λ none_there. absurd (found.5 none_there)) found.10;
      balances = record {
        units = λ name key.
            let all = held name key in
            let rests : moving_at a name key a.hand.place ≡ 0 = ap (moving_at a name key) placed in
            omega (arith, all, rests);
        marks = λ name key. ap (λ (packed : Option ℕ). of_name r.name name (at_bucket r.spec key packed r.mark) + taken_units (taken_of a) name key) d.names;
        sums = λ name. (pos 0, sym (+ℤ_idr _), sym (+ℤ_idr _));
        sum_marks = λ name. (pos 0, sym (+ℤ_idr _), sym (+ℤ_idr _));
        noted = λ name. refl;
      };
      sums = record_sums shape opened state kept h r s 9 v stands turns refl refl refl;
      lives = alive unseen;
      no_sum = no_sum unseen;
      stood = stood (record { known = right.known; knows = right.knows; single = λ w is. absurd (cc is); counts = right.counts });
      up = λ free. subst (λ (p : Place). is_beaten p ≡ false) (sym placed) refl;
    }

    first_step : KeptOn shape opened kept between
    first_step = places_on shape opened state kept h (histogram r) (histogram s) 9 v stands turns id a mine recorder lives (turn unseen) shows

    abbrev kept_between : Invariant shape opened between
    kept_between = first_step.0

    mine_between : get_elem? between.actors id ≡ some b
    mine_between = set_at state.actors id a b mine

    abbrev c : Actor
    c = seer b (turn looked) (record a.seen { singles = a.seen.singles ++ record { at = h + 9; word = v } ∷ [] }) a.done.given a.done.lost

    left : KeptOn shape opened kept (record { words = between.words; cursors = state.cursors; actors = set between.actors id c })
    left = kept_again shape opened state kept first_step
        (now_seen shape opened between kept_between id b mine_between recorder (alive unseen) h asked buckets (turn looked) (alive looked) (moves b) (no_sum looked) keeps_up
        v (get_or-set_same state.words (h + 9) v 0 there)
        (goes_on kept_between.anatomy c (kept_between.standing id b mine_between) refl (record {
          known = right.known;
          knows = right.knows;
          single = λ w is. subst (λ (n : ℕ). Contains (a.seen.singles ++ record { at = h + 9; word = v } ∷ []) (record { at = h + 9; word = n })) (cc is)
              (Contains-push a.seen.singles (record { at = h + 9; word = v }));
          counts = right.counts;
        })))

    -- so the event keeps what holds, if this is the place after disabling
    went : turn looked ≡ after_disabling a.segment.version (look_of a.hand.place h) old (form_seen a h old) → Goes shape opened state kept id a mine recorder (packing_event (disable h old))
    went place_is =
        let fits = kept.each id a mine lives in
        let same : v ≡ off_word opened.version old = (λ i. off_word (kept.same.0 i) (found.3 i)) in
        let seen_as : v ≡ off_word a.segment.version old = (λ i. off_word (sym fits.versioned i) (found.3 i)) in
        happens opened.version state id a (packing_event (disable h old)) there shape opened kept (
          subst (λ (test : Bool). KeptOn shape opened kept (record {
            words = set state.words (h + 9) (if test then off_word opened.version old else word_at state.words (h + 9));
            cursors = state.cursors;
            actors = set state.actors id (after_disable test a h old (word_at state.words (h + 9)));
          })) (sym (eq-eqb (word_at state.words (h + 9)) old is_old))
              (subst (λ (p : List ℕ × List Actor). KeptOn shape opened kept (record { words = p.0; cursors = state.cursors; actors = p.1 }))
              (λ i. (
                set state.words (h + 9) (same i),
                (set-set state.actors id b c ∙ (λ j. set state.actors id (record a {
                  hand = record a.hand { place = place_is j };
                  seen = record a.seen { singles = a.seen.singles ++ record { at = h + 9; word = seen_as j } ∷ [] };
                }))) i,
              )) left),
          learns_single shape opened state kept id a mine recorder lives h,
        )

  -- ---- what is in transit then

  abbrev in_transit : Bool
  in_transit = (a.segment.version == 1) && nat_lt 0 old

  abbrev form : Option SingleWord
  form = form_at version r

  abbrev bucket : ℕ
  bucket = unwrap_or (packed_bucket form) 0

  abbrev units : ℕ
  units = units_in form

  versioned : a.segment.version ≡ version
  versioned = (kept.each id a mine lives).versioned

  look_is : look_of a.hand.place h ≡ look
  look_is = ap (λ (p : Place). look_of p h) placed ∙ (λ i. if eq-eqb h h refl i then look else nothing_of h)

  form_is : form_seen a h old ≡ form
  form_is = (λ i. single_of (versioned i) (known_buckets (found.9 i)) (sym found.3 i)) ∙ ap (λ (n : ℕ). single_of version n r.single) (sym found.7)

  word_is : off_word a.segment.version old ≡ v
  word_is = λ i. off_word (versioned i) (sym found.3 i)

  place_is : (b : Bool) → in_transit ≡ b
      → after_disabling a.segment.version (look_of a.hand.place h) old (form_seen a h old) ≡ (if b then Moving looked bucket units else Looking looked)
  place_is b test = λ i. if test i
      then Moving (record (look_is i) { single = Some (word_is i) }) (unwrap_or (packed_bucket (form_is i)) 0) (units_in (form_is i))
      else Looking (record (look_is i) { single = Some (word_is i) })

  -- a word that leaves nothing in transit keeps its units: it is frozen, or it was empty
  units_stay : in_transit ≡ false → units_in (form_at version s) ≡ units
  units_stay test = ⊎_elim frozen empty (and_cases (a.segment.version == 1) (nat_lt 0 old) test)
    where
      frozen : (a.segment.version == 1) ≡ false → units_in (form_at version s) ≡ units
      frozen other = ⊎_elim
          (λ one. absurd (eqb-false a.segment.version 1 other (versioned ∙ one)))
          (λ two. d.units ∙ (λ i. if two i == 2 then units else 0))
          kept.versions

      empty : nat_lt 0 old ≡ false → units_in (form_at version s) ≡ units
      empty none_there =
          let low = ltb-false 0 old none_there in
          let is = found.3 in
          let nothing = no_units version (buckets_of r.spec) r.single kept.versions (omega (arith, low, is)) in
          d.units ∙ (if_nothing (version == 2) units 0 nothing ∙ sym nothing)

  looking : in_transit ≡ false → Goes shape opened state kept id a mine recorder (packing_event (disable h old))
  looking test = went Looking (λ l e. cc e) (λ l reference sum e. cc e)
      (λ name key.
      let same : units_held version name key (histogram s) ≡ units_held version name key (histogram r) =
      (λ i. of_name r.name name (at_bucket r.spec key (d.names i) (units_stay test i))) in
      omega (arith, same))
      (λ b name key. refl) (λ free. refl) (λ right. right) (λ anatomy b was same right. right) (sym (place_is false test))

  -- if units are in transit they are those that the word had
  module _ (test : in_transit ≡ true) where
    one : version ≡ 1
    one = sym versioned ∙ eqb-true a.segment.version 1 (and_parts (a.segment.version == 1) (nat_lt 0 old) test).0

    some_there : r.single ≢ 0
    some_there empty = let low = ltb-true 0 old (and_parts (a.segment.version == 1) (nat_lt 0 old) test).1 in let is = found.3 in omega (arith, low, is, empty)

    packs : packed_bucket form ≡ Some bucket
    packs = let is = (d.packed some_there).1 in is ∙ sym (ap (λ (packed : Option ℕ). Some (unwrap_or packed 0)) is)

    nothing_held : (name : List ℕ) (key : ℤ) → units_held version name key (histogram s) ≡ 0
    nothing_held name key =
        ap (λ (n : ℕ). of_name r.name name (at_bucket r.spec key (packed_bucket (form_at version s)) n)) (d.units ∙ (λ i. if one i == 2 then units else 0))
        ∙ (ap (of_name r.name name) (at_no_bucket r.spec key (packed_bucket (form_at version s))) ∙ if_nothing (bytes_eq r.name name) 0 0 refl)

    all_moves : (name : List ℕ) (key : ℤ) → moving_at a name key (Moving unseen bucket units) ≡ units_held version name key (histogram r)
    all_moves name key =
        ap (λ (known : Option Known). moving_of name key known bucket units) found.9
        ∙ ((λ i. of_name (sym found.6 i) name (if int_eq (sym (found.8 bucket) i) key then units else 0))
        ∙ sym (ap (λ (packed : Option ℕ). of_name r.name name (at_bucket r.spec key packed units)) packs))

    -- no count of that bucket was seen, for the word was on
    unseen_count : All (λ t. t.at ≢ look.counts + 4 + bucket) a.seen.counts
    unseen_count =
        let (c, mounted, of_it) = kept.records.mounted h r stands found.5 in
        let within = packed_within version (buckets_of r.spec) r.single bucket packs in
        let long = of_it.units in
        let refers = found.4 in
        All-weaker (WasInUse kept.anatomy.pieces) (λ t. t.at ≢ look.counts + 4 + bucket)
        (λ t was spot. true≢false (sym (in_use_now shape opened state kept t r c h (4 + bucket) was stands mounted (omega (arith, spot, refers)) (omega arith)
        (omega (arith, within, long))) ∙ still_on))
        a.seen.counts (kept.each id a mine lives).sees.in_use

    moving : Goes shape opened state kept id a mine recorder (packing_event (disable h old))
    moving = went (λ l. Moving l bucket units) (λ l e. cc e) (λ l reference sum e. cc e)
        (λ name key. let none_there = nothing_held name key in let all = all_moves name key in omega (arith, none_there, all))
        (λ b name key. refl) (λ free. refl)
        (λ right. (
          right,
          one,
          some_counts,
          (d.packed some_there).2,
          d.few,
          (
            s,
            stands_then shape opened state kept h (histogram r) (histogram s) 9 v stands turns,
            (λ i. packed_bucket (form_at (sym one i) s)) ∙ (d.names ∙ packs),
            d.off,
          ),
          unseen_count,
        ))
        (λ anatomy b was same right. (
          right,
          was.1,
          was.2,
          was.3,
          was.4,
          was.5,
          subst (All (λ t. t.at ≢ look.counts + 4 + bucket)) (sym same) was.6,
        ))
        (sym (place_is true test))

  disabled_at : Goes shape opened state kept id a mine recorder (packing_event (disable h old))
  disabled_at = by_test in_transit refl
    where
      by_test : (b : Bool) → in_transit ≡ b → Goes shape opened state kept id a mine recorder (packing_event (disable h old))
      by_test true test = moving test
      by_test false test = looking test

-- disabling keeps what holds, whether it goes through or comes too late
pub disable_kept : (h old : ℕ) → EventKeeps (packing_event (disable h old))
disable_kept h old shape opened state id a kept mine recorder ready = by_test (word_at state.words (h + 9) == old) refl ready
  where
    by_test : (b : Bool) → (word_at state.words (h + 9) == old) ≡ b → Ready a (packing_event (disable h old))
        → Goes shape opened state kept id a mine recorder (packing_event (disable h old))
    by_test false late ready = disable_beaten shape opened state kept id a mine recorder h old ready late
    by_test true here (look, known, (placed, of_it, single, on, buckets), some_counts, counts_in) =
        subst (λ (n : ℕ). Goes shape opened state kept id a mine recorder (packing_event (disable n old))) of_it
        (disabled_at shape opened state kept id a mine recorder look old known placed single on (subst (λ (n : ℕ). Buckets a n known) (sym of_it) buckets) some_counts
        (ap (λ (n : ℕ). word_at state.words (n + 9)) of_it ∙ eqb-true _ _ here))
