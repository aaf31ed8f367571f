-- How a recorder puts the counts of a histogram in use: what it knows of the counts reference, and what mounting leaves unchanged.
use Rattle.std.proofs.Common.{◌≡◌, ◌≢◌, ℕ, ◌+◌, ◌≤◌, not, Bool, true, false, true≢false, if◌then◌else◌, zero, suc, ◌-◌, ◌*◌, ◌<◌, length, append-nil, Option, Ok, Err, List, [], ◌∷◌, ◌++◌, filter, Some, None, inl, inr, refl, sym, ap, ◌∙◌, subst, arith, eq-eqb, ne_eqb, eqb-true, ◌==◌}
use Rattle.std.specs.Prelude.{slice_index}
use Rattle.std.specs.List.{Contains}
use Rattle.std.proofs.Math.ListN.{get_or}
use Rattle.std.proofs.lemmas.List.Elements.{Contains-append_right}
use Rattle.segment_calls.specs.declared.refusal.Refusal.{Refusal}
use Rattle.segment_calls.specs.declared.refusal.Refusal.TheVariants.{Full, Corrupt}
use Rattle.bucket_ranges.specs.declared.spec.Spec.{Spec}
use Rattle.bucket_ranges.specs.declared.spec.Spec.TheVariants.{Sparse}
use Rattle.bucket_ranges.specs.Ranges.{boundaries_of}
use Rattle.bucket_ranges.specs.Spec.{buckets_of, spec_fault}
use Rattle.bucket_ranges.proofs.Ascent.{boundaries_of-split}
use mathlib.Core.Option.{some}
use lib.ListN.{get_elem?}
use Rattle.atomic_table.specs.Table.{Allows}
use Rattle.segment_machine.specs.declared.actor.Actor.{Actor}
use Rattle.segment_machine.specs.declared.actor.Entries.{Entries}
use Rattle.segment_machine.specs.declared.actor.Hand.{Hand}
use Rattle.segment_machine.specs.declared.actor.Known.{Known}
use Rattle.segment_machine.specs.declared.actor.Done.{Done}
use Rattle.segment_machine.specs.declared.actor.Own.{Own}
use Rattle.segment_machine.specs.declared.actor.Rise.{Rise}
use Rattle.segment_machine.specs.declared.entry.EntryProgress.{EntryProgress}
use Rattle.segment_machine.specs.declared.place.Look.{Look}
use Rattle.segment_machine.specs.declared.place.Place.TheVariants.{Idle, Looking, Spent}
use Rattle.segment_machine.specs.declared.seen.Seen.{Seen}
use Rattle.segment_machine.specs.declared.seen.Sighting.{Sighting}
use Rattle.segment_machine.specs.Actor.{has_buckets, is_bound, is_opener, known_at, word_seen}
use Rattle.segment_machine.specs.Allocating.{new_own}
use Rattle.segment_machine.specs.Calls.{change_own, look_of, sight, sight_counts}
use Rattle.segment_machine.specs.Counting.{load_counts}
use Rattle.segment_machine.specs.Entry.{has_ended}
use Rattle.segment_machine.specs.Event.{counting_event, packing_event, change, next, Ready}
use Rattle.segment_machine.specs.Packing.{mount_counts, purge_block, after_mount}
use Rattle.segment_invariant.proofs.Counting.Looks.{knows_of, counts_seen}
use Rattle.live_segment.specs.declared.rule.Opening.{Opening}
use Rattle.live_segment.specs.declared.segment.Segment.{Segment}
use Rattle.live_segment.specs.Add.Sample.{HasNoRoom, block_words}
use Rattle.live_segment.specs.Alloc.Allocation.{Allocates, filled, noticed, saw_free}
use Rattle.live_segment.specs.Alloc.Rises.{RaisesFor}
use Rattle.live_segment.specs.Add.Refusal.{given_up}
use Rattle.live_segment.specs.Holders.{table_of, MayStep}
use Rattle.live_segment.specs.Add.Counts.{SawNoNone, LoadsCounts, MayMount, HasBlank, HasMounted, HasNotMounted, MountsAt, MountsAtMostOne}
use Rattle.segment_promises.specs.Onward.{Grows, SeesOn}
use Rattle.live_segment.specs.Rule.{Runs}
use Rattle.live_segment.specs.Steps.{Pass, Sat, Stepped}
use Rattle.live_segment.specs.Add.Progress.{CountsWithin, LooksOn}
use Rattle.live_segment.proofs.lemmas.Steps.Allowed.{does_at}
use Rattle.live_segment.proofs.lemmas.Alloc.Claimed.{looks_claimed, looks_refused}
use Rattle.live_segment.proofs.lemmas.Steps.Proceeding.{does_not, looks_on, sees_lists}
use Rattle.segment_promises.proofs.Growing.{ended_grows, grows_by, grows_not, grows_on, grows_same}
use Rattle.segment_promises.proofs.Calls.Places.{looks_there}
use Rattle.live_segment.proofs.lemmas.Add.Refusing.{only_given_up}
use Rattle.live_segment.proofs.lemmas.Alloc.Rooms.{lacked_since, lacks_room}
use Rattle.live_segment.specs.List.Ends.{FoundNoCounts}
use Rattle.live_segment.proofs.lemmas.List.Ends.{found_now, found_on}

-- ---- the counts reference

-- what it saw of the reference was the record's, which is not 0
pub loads_counts : (given : Opening) (slots id : ℕ) (me : Sat) (word : ℕ) → is_opener me.0.role ≡ false → (histogram : ℕ)
    → word ≡ histogram + 8 + 1 → Ready me.0 (counting_event (load_counts histogram))
    → Allows (Runs given) slots id me word (change given.setting.version (counting_event (load_counts histogram))) (LoadsCounts word me)
loads_counts given slots id me word records histogram at ready s run wide mine small =
    let (view, act, valid, holds, told) =
    does_at given slots id me word records (λ (x : ℕ). counting_event (load_counts x)) histogram at (λ y e. omega (arith, at, e)) ready s run wide mine small in
    let there : get_elem? run.running.segment.actors id ≡ some me.0 = ap (λ list. get_elem? list id) (sym run.running.views) ∙ mine in
    let lives : me.0.hand.place ≢ Spent = λ e. true≢false (sym (ap is_bound e) ∙ ready.0) in
    let (known, of) = ready.1 in
    let (has, refers, bucketed) = of in
    let (r, first, stands, named, many, keys) = knows_of given.setting.shape run.opened run.running.segment run.running.kept id me.0 there records lives known has in
    let saw : SawNoNone me.0.seen known.reference =
    λ counts seen. let (is, some_there) = counts_seen given.setting.shape run.opened run.running.segment run.running.kept id me.0 there records lives known.reference counts r stands seen in
    λ none. some_there (is ∙ none) in
    (view, act, valid, holds, λ y same. (told y same, subst (SawNoNone me.0.seen) (let e = refers in omega (arith, e, at, same)) saw))

-- ---- a call that continues may still mount them

pub mounts_on : (a b : Actor) (known : Known) → MayMount a known → LooksOn a b → MayMount b known
mounts_on a b known may looks =
    let same = looks.proceeds.same in record {
      recorder = ap (λ (x : Actor). is_opener x.role) same ∙ may.recorder;
      free = looks.proceeds.free;
      knows = (
        subst (λ (names : List Known). Contains names known) (sym (ap (λ (x : Actor). x.answers.names) same)) may.knows.0,
        may.knows.1,
        may.knows.2,
      );
      alone = ap (λ (x : Actor). known_at x.answers.names known.reference) same ∙ may.alone;
      counts = (
        ap (λ (x : Actor). x.deltas.taking) same ∙ may.counts.0,
        λ c (rest, is). may.counts.1 c (rest, ap (λ (e : Entries). filter (λ (x : EntryProgress). not (has_ended x)) e.running) (sym looks.entries) ∙ is),
      );
    }

-- it has seen more words, and may have found one that leads to no block
sees_words : (a : Seen) (more : List Sighting) (ends : List ℕ) → Grows a.ends ends → SeesOn a (record a { words = a.words ++ more; ends = ends })
sees_words a more ends longer = sees_lists a (grows_not a.chain) longer (grows_not a.tails) (grows_not a.singles) (grows_not a.counts) (grows_by a.words more) (grows_not a.cursors)

-- it is elsewhere with other blocks, and has seen more words
pub with_words : (a : Actor) (hand : Hand) (more : List Sighting) (ends : List ℕ) → Grows a.seen.ends ends → is_bound hand.place ≡ false
    → LooksOn a (record a { hand = hand; seen = record a.seen { words = a.seen.words ++ more; ends = ends } })
with_words a hand more ends longer free = record {
  proceeds = record { same = refl; free = free; done = does_not a.done; seen = sees_words a.seen more ends longer };
  units = refl;
  entries = refl;
}

-- ---- a block is mounted

-- of its own blocks, the one at a word is purged
abbrev purged : Own → Own
purged own = record own { tag = 0 }

purges_one : (at : ℕ) (list : List Own) (own : Own) → Contains list own → own.at ≡ at
    → (one : Own) × Contains (change_own at purged list) one × (one.at ≡ at) × (one.tag ≡ 0)
purges_one at [] own (i, below, is) stands = absurd (omega (arith, below))
purges_one at (x ∷ rest) own (i, below, is) stands = by (x.at == at) refl (λ n under there. purges_one at rest own (n, under, there) stands) i below is
  where
    by : (here : Bool) → (x.at == at) ≡ here
        → ((n : ℕ) → n < length rest → get_or rest n own ≡ own → (one : Own) × Contains (change_own at purged rest) one × (one.at ≡ at) × (one.tag ≡ 0))
        → (i : ℕ) → i < length (x ∷ rest) → get_or (x ∷ rest) i own ≡ own
        → (one : Own) × Contains (if here then purged x ∷ rest else x ∷ change_own at purged rest) one × (one.at ≡ at) × (one.tag ≡ 0)
    by true e behind i below is = (purged x, (0, omega arith, refl), eqb-true x.at at e, refl)
    by false e behind zero below is = absurd (true≢false (sym (eq-eqb x.at at (ap (λ (y : Own). y.at) is ∙ stands)) ∙ e))
    by false e behind (suc n) below is = let (one, has, there, tag) = behind n (omega (arith, below)) is in (one, Contains-append_right (x ∷ []) (change_own at purged rest) one has, there, tag)

module _ (segment : Segment) (known : Known) (old : Pass) (at : ℕ) (table : old.table_id ≡ table_of segment) (may : MayMount old.me.0 known)
    (blank : HasBlank old.me.0 known at) (within : CountsWithin old.me.0 known at) where
  abbrev a : Actor
  a = old.me.0

  pub may_mount : MayStep segment old (packing_event (mount_counts known.reference at))
  may_mount = record {
    table = table;
    recorder = may.recorder;
    ready = (blank.0, known, may.free, blank.1, blank.2, may.knows, may.counts, blank.3);
  }

  module _ (found : ℕ) (mid : Pass) (step : Stepped old (packing_event (mount_counts known.reference at)) found mid) where
    -- there were none
    pub mounts_first : found ≡ 0 → HasMounted known a at mid.me.0
    mounts_first none =
        let view : mid.me.0 ≡ after_mount true a known.reference at found =
        step.view ∙ ap (λ (b : Bool). after_mount b a known.reference at found) (eq-eqb found 0 none) in
        subst (λ (b : Actor). HasMounted known a at b) (sym view) (record {
          looks = with_words a (after_mount true a known.reference at found).hand (sight_counts known.reference at) a.seen.ends (grows_not a.seen.ends) refl;
          filled = refl;
          stands = ((None, refl), within);
        })

    pub claims_first : found ≡ 0 → MountsAt known at a at mid.me.0
    claims_first none =
        let view : mid.me.0 ≡ after_mount true a known.reference at found =
        step.view ∙ ap (λ (b : Bool). after_mount b a known.reference at found) (eq-eqb found 0 none) in
        subst (λ (b : Actor). MountsAt known at a at b) (sym view) (record {
          done = refl;
          saw = ap (λ (b : Bool). a.seen.words ++ (if b then [] else sight (known.reference + 8) at)) (ne_eqb at 0 within.0);
          kept = inl refl;
        })

    module _ (there : found ≢ 0) where
      view : mid.me.0 ≡ after_mount false a known.reference at found
      view = step.view ∙ ap (λ (b : Bool). after_mount b a known.reference at found) (ne_eqb found 0 there)

      pub may_purge : MayStep segment mid (packing_event (purge_block at))
      may_purge = record {
        table = step.same.0 ∙ table;
        recorder = ap (λ (b : Actor). is_opener b.role) view ∙ may.recorder;
        ready = (record { histogram = known.reference; single = None; counts = found }, ap (λ (b : Actor). b.hand.place) view);
      }

      -- others were there, and the block is given up
      pub mounts_late : (new : Pass) → Stepped mid (packing_event (purge_block at)) 0 new → HasMounted known a found new.me.0
      mounts_late new purged =
          let all : new.me.0 ≡ next (after_mount false a known.reference at found) (packing_event (purge_block at)) 0 =
          purged.view ∙ ap (λ (b : Actor). next b (packing_event (purge_block at)) 0) view in
          subst (λ (b : Actor). HasMounted known a found b) (sym all) (record {
            looks = with_words a (next (after_mount false a known.reference at found) (packing_event (purge_block at)) 0).hand (sight_counts known.reference found) a.seen.ends (grows_not a.seen.ends) refl;
            filled = refl;
            stands = ((None, refl), (there, step.learned.0 known may.knows there));
          })

      pub claims_late : (new : Pass) → Stepped mid (packing_event (purge_block at)) 0 new → MountsAt known at a found new.me.0
      claims_late new step_behind =
          let all : new.me.0 ≡ next (after_mount false a known.reference at found) (packing_event (purge_block at)) 0 =
          step_behind.view ∙ ap (λ (b : Actor). next b (packing_event (purge_block at)) 0) view in
          subst (λ (b : Actor). MountsAt known at a found b) (sym all) (record {
            done = refl;
            saw = ap (λ (b : Bool). a.seen.words ++ (if b then [] else sight (known.reference + 8) found)) (ne_eqb found 0 there);
            kept = inr (purges_one at a.hand.own blank.0 blank.1 blank.2);
          })

-- ---- how many words they take

has_some : (spec : Spec) → has_buckets spec ≡ true → spec ≢ Sparse
has_some spec buckets is = true≢false (sym buckets ∙ ap has_buckets is)

pub bucket_count : (spec : Spec) → spec_fault spec ≡ None → has_buckets spec ≡ true
    → (length (boundaries_of spec) - 1 ≡ buckets_of spec) × (1 ≤ buckets_of spec)
bucket_count spec lawful buckets =
    let split = boundaries_of-split spec lawful (has_some spec buckets) in
    let count = split.count in
    (omega (arith, count), by (buckets_of spec) refl)
  where
    by : (n : ℕ) → buckets_of spec ≡ n → 1 ≤ buckets_of spec
    by zero none =
        let split = boundaries_of-split spec lawful (has_some spec buckets) in
        let first = split.first in
        let last = ap (slice_index (boundaries_of spec)) (sym none) ∙ split.last in
        absurd (omega (arith, first, last))
    by (suc n) more = omega (arith, more)

pub words_of_block : (known : Known) → has_buckets known.spec ≡ true → block_words known ≡ 4 + 2 * buckets_of known.spec
words_of_block known buckets = ap (λ (b : Bool). if b then 4 + 2 * buckets_of known.spec else 8) buckets

-- ---- the reference is loaded

module _ (segment : Segment) (known : Known) (old : Pass) (table : old.table_id ≡ table_of segment) (may : MayMount old.me.0 known) where
  pub may_load_counts : MayStep segment old (counting_event (load_counts known.reference))
  may_load_counts = record { table = table; recorder = may.recorder; ready = (may.free, (known, may.knows)) }

  module _ (found : ℕ) (seat : Pass) (step : Stepped old (counting_event (load_counts known.reference)) found seat) where
    abbrev first : Actor
    first = old.me.0

    abbrev look : Look
    look = look_of first.hand.place known.reference

    abbrev loaded : Actor
    loaded = next first (counting_event (load_counts known.reference)) found

    ends_more : Grows first.seen.ends loaded.seen.ends
    ends_more = ended_grows first.seen.ends (known.reference + 8) (found == 0)

    pub looks_loaded : LooksOn first seat.me.0
    looks_loaded = subst (LooksOn first) (sym step.view) (with_words first loaded.hand (sight_counts known.reference found) loaded.seen.ends ends_more refl)

    -- there are some
    pub finds_some : found ≢ 0 → HasMounted known first found seat.me.0
    finds_some there =
        subst (λ (b : Actor). HasMounted known first found b) (sym step.view) (record {
          looks = with_words first loaded.hand (sight_counts known.reference found) loaded.seen.ends ends_more refl;
          filled = refl;
          stands = (
            (
              look.single,
              ap (λ (h : ℕ). Looking (record { histogram = h; single = look.single; counts = found })) (looks_there first.hand.place known.reference),
            ),
            (there, step.learned.0 known may.knows there),
          );
        })

    pub claims_not : MountsAtMostOne known first seat.me.0
    claims_not = (
      inl (ap (λ (b : Actor). b.done) step.view),
      subst (λ (b : Actor). Grows first.seen.words b.seen.words) (sym step.view) (grows_by first.seen.words (sight_counts known.reference found)),
      subst (λ (b : Actor). Grows first.seen.ends b.seen.ends) (sym step.view) ends_more,
      ap (λ (b : Actor). b.segment) step.view,
    )

    -- there are none, and a block is claimed
    module _ (at size : ℕ) (new : Pass) (words : size ≡ 4 + 2 * buckets_of known.spec) (unspoiled : seat.me.0.done.spoiled ≡ false)
        (made : Allocates size 2 seat.me.0 (Ok at) new.me.0) where
      pub looks_with_block : LooksOn first new.me.0
      looks_with_block = looks_on first seat.me.0 new.me.0 looks_loaded (looks_claimed size 2 at seat.me.0 new.me.0 unspoiled made)

      pub mounts_next : MayMount new.me.0 known
      mounts_next = mounts_on first new.me.0 known may looks_with_block

      pub has_blank : HasBlank new.me.0 known at
      has_blank =
          let (to, view, behind, enough, few, place, raises) = made in (
            new_own at (to - at) 2,
            subst (λ (b : Actor). Contains b.hand.own (new_own at (to - at) 2)) (sym view)
                (Contains-append_right seat.me.0.hand.own (new_own at (to - at) 2 ∷ []) (new_own at (to - at) 2) (0, omega arith, refl)),
            refl,
            (refl, refl, refl, omega (arith, words, enough)),
          )

      pub block_within : CountsWithin new.me.0 known at
      block_within =
          let (to, view, behind, enough, few, place, raises) = made in
          let from = place.from in let within = place.within in
          (λ none. omega (arith, none, from), subst (λ (b : Actor). at + (4 + 2 * buckets_of known.spec) ≤ b.segment.shape.size) (sym view) (omega (arith, words, enough, within)))

      pub block_least : at + 5 ≤ seat.me.0.segment.shape.size
      block_least =
          let (to, view, behind, enough, few, place, raises) = made in
          let within = place.within in let five = place.five in omega (arith, within, five)

      -- it is mounted
      pub mounted_behind : (counts : ℕ) (last : Pass) → HasMounted known new.me.0 counts last.me.0 → HasMounted known first counts last.me.0
      mounted_behind counts last has = record {
        looks = looks_on first new.me.0 last.me.0 looks_with_block has.looks;
        filled = has.filled ∙ (ap (λ (b : Actor). b.done.filled) made.1 ∙ ap (λ (b : Actor). b.done.filled) step.view);
        stands = has.stands;
      }

    -- there are none, and no block can be claimed
    module _ (none : found ≡ 0) (saw : SawNoNone first.seen known.reference) where
      words_still : seat.me.0.seen.words ≡ first.seen.words
      words_still = ap (λ (b : Actor). b.seen.words) step.view
          ∙ (ap (λ (b : Bool). first.seen.words ++ (if b then [] else sight (known.reference + 8) found)) (eq-eqb found 0 none) ∙ append-nil first.seen.words)

      -- it had seen none
      none_before : word_seen first.seen.words (known.reference + 8) ≡ None
      none_before = by (word_seen first.seen.words (known.reference + 8)) refl
        where
          by : (w : Option ℕ) → word_seen first.seen.words (known.reference + 8) ≡ w → word_seen first.seen.words (known.reference + 8) ≡ None
          by None is = is
          by (Some counts) is = absurd (saw counts is (sym (step.learned.1.0 counts is) ∙ none))

      -- and has still seen none
      none_seen : word_seen seat.me.0.seen.words (known.reference + 8) ≡ None
      none_seen = ap (λ (ws : List Sighting). word_seen ws (known.reference + 8)) words_still ∙ none_before

      -- it has just loaded that
      loaded_none : FoundNoCounts known.reference first.seen seat.me.0.seen
      loaded_none = found_now first.seen seat.me.0.seen (known.reference + 8) (found == 0) (ap (λ (b : Actor). b.seen.ends) step.view) (eq-eqb found 0 none)

      -- and still has, whatever else it finds
      loaded_on : (a : Actor) → Grows seat.me.0.seen.ends a.seen.ends → FoundNoCounts known.reference first.seen a.seen
      loaded_on a more = found_on first.seen first.seen seat.me.0.seen a.seen (grows_not first.seen.ends) looks_loaded.proceeds.seen.ends more (known.reference + 8) loaded_none

      -- it claims one block for them, and mounts it
      pub claims_block : (at size : ℕ) (new last : Pass) (counts : ℕ) → size ≡ block_words known → Allocates size 2 seat.me.0 (Ok at) new.me.0
          → MountsAt known at new.me.0 counts last.me.0 → LooksOn new.me.0 last.me.0 → MountsAtMostOne known first last.me.0
      claims_block at size new last counts words (to, view, behind, enough, few, place, raises) mounts looks = (
        inr (record {
          claim = record { at = at; size = to - at };
          block = (omega (arith, words, enough), omega (arith, words, enough, few));
          raises = subst (λ (words : ℕ). RaisesFor first.segment.shape words (record { at = at; size = to - at }) first.done.raised last.me.0.done.raised) words
              (subst (RaisesFor first.segment.shape size (record { at = at; size = to - at }) first.done.raised) (sym (ap (λ (d : Done). d.raised) mounts.done))
              (subst (λ (b : Actor). RaisesFor b.segment.shape size (record { at = at; size = to - at }) b.done.raised new.me.0.done.raised) step.view raises));
          done = mounts.done
              ∙ (ap (λ (b : Actor). b.done) view
              ∙ (λ i. record (step.view i).done {
                claimed = (step.view i).done.claimed ++ record { at = at; size = to - at } ∷ [];
                raised = sym (ap (λ (d : Done). d.raised) mounts.done) i;
              }));
          none = none_before;
          loaded = loaded_on last.me.0 more_yet;
          counts = counts;
          saw = saw_one;
          kept = mounts.kept;
        }),
        subst (Grows first.seen.words) (sym saw_one) (grows_by first.seen.words (sight (known.reference + 8) counts)),
        grows_on first.seen.ends seat.me.0.seen.ends last.me.0.seen.ends looks_loaded.proceeds.seen.ends more_yet,
        ap (λ (b : Actor). b.segment) looks.proceeds.same ∙ (ap (λ (b : Actor). b.segment) view ∙ ap (λ (b : Actor). b.segment) step.view),
      )
        where
          more : Grows new.me.0.seen.ends last.me.0.seen.ends
          more = looks.proceeds.seen.ends

          more_yet : Grows seat.me.0.seen.ends last.me.0.seen.ends
          more_yet = subst (λ (l : List ℕ). Grows l last.me.0.seen.ends) (ap (λ (b : Actor). b.seen.ends) view) more

          saw_one : last.me.0.seen.words ≡ first.seen.words ++ sight (known.reference + 8) counts
          saw_one = mounts.saw
              ∙ ap (λ (l : List Sighting). l ++ sight (known.reference + 8) counts) (ap (λ (b : Actor). b.seen.words) view ∙ words_still)

      -- what was refused there
      module _ (last : Actor) (free : ℕ) (raised : List Rise) (filled corrupt : Bool) (lacked : List ℕ) (warned : ℕ)
          (is : last ≡ record seat.me.0 {
            hand = record seat.me.0.hand { place = Idle };
            done = record seat.me.0.done { raised = raised; filled = filled; lacked = lacked };
            seen = record seat.me.0.seen { free = free; corrupt = corrupt; warned = warned };
          })
          (later : seat.me.0.seen.free ≤ free) (rises : Grows seat.me.0.done.raised raised) (still : seat.me.0.done.filled ≡ true → filled ≡ true) (noticing : seat.me.0.seen.corrupt ≡ true → corrupt ≡ true)
          (longer : Grows seat.me.0.done.lacked lacked) (more : seat.me.0.seen.warned ≤ warned) where
        looks_last : LooksOn first last
        looks_last = looks_on first seat.me.0 last looks_loaded (looks_refused seat.me.0 last free raised filled corrupt lacked warned is later rises still noticing longer more)

        turned : (why : Refusal) (new : Actor) → new ≡ given_up last → HasNoRoom why (block_words known) seat.me.0 new → HasNotMounted why known first new
        turned why new ends room =
            let seen : new.seen ≡ last.seen = ap (λ (b : Actor). b.seen) (ends ∙ only_given_up last) in record {
              last = last;
              looks = looks_last;
              untouched = ap (λ (b : Actor). b.seen.counts) is ∙ ap (λ (b : Actor). b.seen.counts) step.view;
              ends = ends;
              idle = ap (λ (b : Actor). b.hand.place) (ends ∙ only_given_up last) ∙ ap (λ (b : Actor). b.hand.place) is;
              none = ap (λ (s : Seen). word_seen s.words (known.reference + 8)) seen
                  ∙ (ap (λ (b : Actor). word_seen b.seen.words (known.reference + 8)) is ∙ none_seen);
              loaded = loaded_on new (grows_same seat.me.0.seen.ends new.seen.ends (ap (λ (s : Seen). s.ends) seen ∙ ap (λ (b : Actor). b.seen.ends) is));
              room = lacked_since why (block_words known) first seat.me.0 new (ap (λ (b : Actor). b.done) step.view) looks_loaded.proceeds.seen.warned room;
            }

      pub refused_block : (why : Refusal) (size : ℕ) (new : Pass) → size ≡ block_words known → Allocates size 2 seat.me.0 (Err why) new.me.0
          → HasNotMounted why known first new.me.0
      refused_block Full size new words (free, view, later, passes, wastes) =
          let last = filled (saw_free seat.me.0 Idle free new.me.0.done.raised) in
          turned last free new.me.0.done.raised true seat.me.0.seen.corrupt last.done.lacked seat.me.0.seen.warned refl later (wastes.0, wastes.1) (λ e. refl) (λ e. e)
          (grows_by seat.me.0.done.lacked _) (omega arith) Full new.me.0 view
          (subst (λ (n : ℕ). HasNoRoom Full n seat.me.0 new.me.0) words (lacks_room Full size 2 seat.me.0 new.me.0 (free, view, later, passes, wastes)))
      refused_block Corrupt size new words (free, view, later, wastes) =
          let last = noticed (saw_free seat.me.0 Idle free new.me.0.done.raised) in
          turned last free new.me.0.done.raised seat.me.0.done.filled true seat.me.0.done.lacked last.seen.warned refl later (wastes.0, wastes.1) (λ e. e) (λ e. refl)
          (grows_not seat.me.0.done.lacked) (omega arith) Corrupt new.me.0 view
          (subst (λ (n : ℕ). HasNoRoom Corrupt n seat.me.0 new.me.0) words (lacks_room Corrupt size 2 seat.me.0 new.me.0 (free, view, later, wastes)))
      refused_block _ size new words none_there = absurd none_there
