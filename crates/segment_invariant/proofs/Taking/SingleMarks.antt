-- The single mark is raised: to the packed units that were seen, or to the count of the packed bucket that was loaded.
use Rattle.segment_invariant.proofs.Prelude.Std.{◌≡◌, ◌≢◌, Bool, true, false, ℕ, ◌+◌, max, ◌<◌, ◌≤◌, Option, Some, None, inl, inr, refl, sym, ap, ◌∙◌, subst, arith, slice_index, unwrap_or, All-contains, some, get_elem?}
use Rattle.segment_invariant.proofs.Prelude.Machine.{Dimensions, SingleWord, buckets_of, single_of, packed_bucket, units_packed, Actor, Known, Look, Spent, Looking, CountLoaded, is_bound, bucket_key, known_at, all_counted, is_opener, back, tally_units, taking_event, is_off, units_in, Leads, State, raise_single_mark}
use Rattle.segment_invariant.proofs.Prelude.Invariant.{Record, Counts, Anatomy, EventKeeps, form_at, key_of_bucket, HasRecord, HasCounts, WasFixed, WasCounter, WasSingle, is_beaten, IsCountsOf, StandsRight, Invariant}
use Rattle.segment_machine.specs.Actor.{SawSingle}
use Rattle.segment_machine.specs.Calls.{form_seen}
use Rattle.segment_machine.specs.Taking.{single_key, packed_key, Takes}
use Rattle.segment_invariant.specs.Invariant.{LooksRight, LoadedOff}
use Rattle.segment_invariant.proofs.Consistency.Keys.{packed_within, no_units}
use Rattle.segment_invariant.proofs.Consistency.Marks.{packed_all}
use Rattle.segment_invariant.proofs.Frames.Leads.{on_leads}
use Rattle.segment_invariant.proofs.Frames.Shown.{Goes}
use Rattle.segment_invariant.proofs.Counting.Looks.{knows_of, counter_now, count_now, counts_was, single_now}
use Rattle.segment_invariant.proofs.Counting.Whole.{whole_mounted}
use Rattle.segment_invariant.proofs.Packing.OffForms.{Disabling, disabling, few_buckets}
use Rattle.segment_invariant.proofs.Taking.Knowns.{TakesOf, takes_of}
use Rattle.segment_invariant.proofs.Taking.MarkWords.{TheMarks, the_marks}
use Rattle.segment_invariant.proofs.Taking.SingleMarkRises.{raised_at}

module _ (shape : Dimensions) (opened : Anatomy) (state : State) (kept : Invariant shape opened state) (id : ℕ) (a : Actor)
    (mine : get_elem? state.actors id ≡ some a) (recorder : is_opener a.role ≡ false) (look : Look) (known : Known) (takes : Takes a look.histogram known) (word : ℕ)
    (single : look.single ≡ Some word) (least : ℕ) where
  abbrev h : ℕ
  h = look.histogram

  abbrev version : ℕ
  version = kept.anatomy.version

  -- the key of the bucket that the word packs
  key_of_word : (bucket : ℕ) → packed_bucket (form_seen a h word) ≡ Some bucket → packed_key a look ≡ bucket_key (known_at a.answers.names h) bucket
  key_of_word bucket packs = λ i. bucket_key (known_at a.answers.names h) (unwrap_or (is i) 0)
    where
      is : packed_bucket (form_seen a h (unwrap_or look.single 0)) ≡ Some bucket
      is = ap (λ (w : Option ℕ). packed_bucket (form_seen a h (unwrap_or w 0))) single ∙ packs

  -- ---- packed units, while the word is on

  module _ (placed : a.hand.place ≡ Looking look) (on : is_off word ≡ false) (saw : SawSingle a (h + 9) word) (some_units : 1 ≤ least)
      (least_is : least ≡ units_in (form_seen a h word)) where
    lives_open : a.hand.place ≢ Spent
    lives_open spent = cc (sym placed ∙ spent)

    abbrev right : LooksRight a look
    right = subst (StandsRight shape kept.anatomy id a) placed (kept.standing id a mine)

    the_record : (r : Record) × HasRecord kept.anatomy.pieces h r
    the_record =
        let (q, first, stands, named, many, keys) = knows_of shape opened state kept id a mine recorder lives_open known takes.1 in
        (q, subst (λ (n : ℕ). HasRecord kept.anatomy.pieces n q) takes.2 stands)

    abbrev r : Record
    r = the_record.0

    abbrev has : HasRecord kept.anatomy.pieces h r
    has = the_record.1

    known_it : TakesOf shape opened state kept id a mine recorder lives_open h known takes r has
    known_it = takes_of shape opened state kept id a mine recorder lives_open h known takes r has

    abbrev form : Option SingleWord
    form = single_of version (buckets_of r.spec) word

    units_are : least ≡ units_in form
    units_are = least_is ∙ ap units_in (known_it.5 word)

    was : (form ≢ None) × Leads version (buckets_of r.spec) word r.single
    was = single_now shape opened state kept (record { at = h + 9; word = word }) h r
        (All-contains (WasSingle version kept.anatomy.pieces) a.seen.singles _ (kept.each id a mine lives_open).sees.singles (right.single word single)) refl has

    off : Disabling version (buckets_of r.spec) word
    off =
        let few = few_buckets r.spec (kept.records.lawful h r has).lawful in
        disabling version (buckets_of r.spec) word kept.versions (omega (arith, few)) was.0 on

    some_there : word ≢ 0
    some_there empty =
        let none_there = no_units version (buckets_of r.spec) word kept.versions empty in
        let is = units_are in
        omega (arith, some_units, none_there, is)

    packs : (bucket : ℕ) × (packed_bucket form ≡ Some bucket) × (1 ≤ units_in form)
    packs = off.packed some_there

    abbrev bucket : ℕ
    bucket = packs.0

    leads : (packed_bucket (form_at version r) ≡ Some bucket) × (is_off r.single ≡ false → units_in form ≤ units_in (form_at version r))
    leads = on_leads version (buckets_of r.spec) word r.single bucket some_there packs.1 was.1

    -- all that it saw packed was counted
    seen_counted : least ≤ tally_units (all_counted state.actors) known.name (key_of_bucket r.spec bucket)
    seen_counted =
        let fits = kept.each id a mine lives_open in
        let (first, named, many, keys, its_keys, forms) = known_it in
        let within = packed_within version (buckets_of r.spec) r.single bucket leads.0 in
        let most = (fits.looks recorder).most known bucket (units_packed (single_of a.segment.version (buckets_of known.spec) word) bucket) takes.1 (omega (arith, within, many))
        (word, subst (λ (n : ℕ). SawSingle a (n + 9) word) (sym takes.2) saw, inl (on, refl)) in
        let same : units_packed (single_of a.segment.version (buckets_of known.spec) word) bucket ≡ units_packed form bucket =
        (λ i. units_packed (single_of (fits.versioned i) (sym many i) word) bucket) in
        let all = packed_all form bucket packs.1 in
        let is = units_are in
        let key = ap (tally_units (all_counted state.actors) known.name) (keys bucket) in
        omega (arith, most, same, all, is, key)

    still_on : (b : Bool) → is_off r.single ≡ b → r.counts ≡ 0 → is_off r.single ≡ false
    still_on true is none_there = absurd ((kept.records.lawful h r has).off is none_there)
    still_on false is none_there = is

    open_raised : Goes shape opened state kept id a mine recorder (taking_event (raise_single_mark h least))
    open_raised = raised_at shape opened state kept id a mine recorder (ap is_bound placed) (ap is_beaten placed) look right known takes r has bucket least (record {
      packs = leads.0;
      counted = seen_counted;
      mounted = λ c there is one. let few = off.few in let is = units_are in at_most _ least (omega (arith, few, is));
      alone = λ none_there. let more = leads.1 (still_on (is_off r.single) refl none_there) in let is = units_are in omega (arith, more, is);
    }) (ap back placed) (ap (single_key a) placed ∙ (key_of_word bucket (ap packed_bucket (known_it.5 word) ∙ packs.1) ∙ known_it.4 bucket))
      where
        at_most : (x n : ℕ) → n ≤ 65535 → n ≤ max x 65535
        at_most x n le = omega (arith, le)

  -- ---- the count of the packed bucket, once the word is off

  module _ (bucket count : ℕ) (placed : a.hand.place ≡ CountLoaded look bucket count) (packs : packed_bucket (form_seen a h word) ≡ Some bucket)
      (least_is : least ≡ count + units_in (form_seen a h word)) where
    lives_off : a.hand.place ≢ Spent
    lives_off spent = cc (sym placed ∙ spent)

    abbrev stood : StandsRight shape kept.anatomy id a (CountLoaded look bucket count)
    stood = subst (StandsRight shape kept.anatomy id a) placed (kept.standing id a mine)

    abbrev off_it : LoadedOff a look
    off_it = stood.0

    there_is : TheMarks shape opened state kept id a mine recorder (ap is_bound placed) look off_it bucket stood.1
    there_is = the_marks shape opened state kept id a mine recorder (ap is_bound placed) look off_it bucket stood.1

    abbrev q : Record
    q = there_is.0

    abbrev holds : HasRecord kept.anatomy.pieces h q
    holds = there_is.2

    takes_it : TakesOf shape opened state kept id a mine recorder lives_off h known takes q holds
    takes_it = takes_of shape opened state kept id a mine recorder lives_off h known takes q holds

    form_now : form_seen a h word ≡ form_at version q
    form_now =
        let some_word : Some word ≡ Some off_it.2.0 = sym single ∙ off_it.2.1 in
        let word_is : word ≡ off_it.2.0 = cc some_word in
        takes_it.5 word ∙ ap (λ (w : ℕ). single_of version (buckets_of q.spec) w) (word_is ∙ there_is.6)

    packs_now : packed_bucket (form_at version q) ≡ Some bucket
    packs_now = sym (ap packed_bucket form_now) ∙ packs

    refers : (q.counts ≡ look.counts) × (q.counts ≢ 0)
    refers = counts_was shape opened state kept h look.counts q holds
        (All-contains (WasFixed kept.anatomy.pieces) a.seen.words _ (kept.each id a mine lives_off).sees.fixed (off_it.0.counts off_it.1))

    inside : bucket < buckets_of q.spec
    inside = packed_within version (buckets_of q.spec) q.single bucket packs_now

    -- it is at most what the record and its counts have of the bucket
    loaded_most : (c : Counts) → HasCounts kept.anatomy.pieces q.counts c → IsCountsOf version h q c
        → least ≤ slice_index c.units bucket + units_packed (form_at version q) bucket
    loaded_most c mounts is =
        let now = counter_now shape opened state kept _
        (All-contains (WasCounter kept.anatomy.pieces) a.seen.counts _ (kept.each id a mine lives_off).sees.counters stood.2) in
        let units = is.units in
        let below = inside in
        let word = count_now shape opened state kept look.counts bucket c (subst (λ (n : ℕ). HasCounts kept.anatomy.pieces n c) refers.0 mounts)
        (omega (arith, units, below)) in
        let kept_units = ap units_in form_now in
        let all = packed_all (form_at version q) bucket packs_now in
        omega (arith, now, word, kept_units, all, least_is)

    loaded_counted : least ≤ tally_units (all_counted state.actors) known.name (key_of_bucket q.spec bucket)
    loaded_counted =
        let (c, mounts, is) = kept.records.mounted h q holds refers.1 in
        let most = loaded_most c mounts is in
        let whole = whole_mounted shape opened state kept known.name q.spec h q takes_it.0 holds takes_it.1 refl bucket inside c mounts is in
        omega (arith, most, whole)

    off_raised : Goes shape opened state kept id a mine recorder (taking_event (raise_single_mark h least))
    off_raised = raised_at shape opened state kept id a mine recorder (ap is_bound placed) (ap is_beaten placed) look off_it.0 known takes q holds bucket least (record {
      packs = packs_now;
      counted = loaded_counted;
      mounted = λ c there is one. at_most _ 65535 least (loaded_most c there is);
      alone = λ none_there. absurd (refers.1 none_there);
    }) (ap back placed) (ap (single_key a) placed ∙ (key_of_word bucket packs ∙ takes_it.4 bucket))
      where
        at_most : (x y n : ℕ) → n ≤ x → n ≤ max x y
        at_most x y n le = omega (arith, le)

-- raising the single mark keeps what holds
pub single_mark_raised : (histogram least : ℕ) → EventKeeps (taking_event (raise_single_mark histogram least))
single_mark_raised h least shape opened state id a kept mine recorder (some_units, (known, takes), inl (look, other, old, (placed, is, single, on, buckets), saw, least_is)) =
    subst (λ (n : ℕ). Takes a n known → SawSingle a (n + 9) old → least ≡ units_in (form_seen a n old)
    → Goes shape opened state kept id a mine recorder (taking_event (raise_single_mark n least))) is
    (λ its seen units. open_raised shape opened state kept id a mine recorder look known its old single least placed on seen some_units units) takes saw least_is
single_mark_raised h least shape opened state id a kept mine recorder (some_units, (known, takes), inr (look, i, count, old, placed, is, single, named, least_is)) =
    subst (λ (n : ℕ). Takes a n known → packed_bucket (form_seen a n old) ≡ Some i → least ≡ count + units_in (form_seen a n old)
    → Goes shape opened state kept id a mine recorder (taking_event (raise_single_mark n least))) is
    (λ its names units. off_raised shape opened state kept id a mine recorder look known its old single least i count placed names units) takes named least_is
