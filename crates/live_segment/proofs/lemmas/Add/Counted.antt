-- Units of a bucket are counted in the counts, once these are in use: what a call that may count them knows after each of its parts.
use Rattle.std.proofs.Common.{◌≡◌, ◌≢◌, ℕ, ◌+◌, ◌<◌, ◌||◌, ◌==◌, not, Bool, false, List, [], ◌∷◌, ◌++◌, filter, length, drop, Some, inl, inr, refl, sym, ap, ◌∙◌, subst, arith}
use Rattle.std.specs.List.{Contains}
use Rattle.std.proofs.lemmas.Bool.{ne_eqb}
use Rattle.std.proofs.lemmas.List.Elements.{Contains-append_left}
use Rattle.std.proofs.Math.Seq.{drop-append_seam}
use Rattle.std.proofs.lemmas.List.{append_assoc}
use Rattle.bucket_ranges.specs.Spec.{buckets_of}
use Rattle.segment_machine.specs.declared.actor.Actor.{Actor}
use Rattle.segment_machine.specs.declared.actor.Known.{Known}
use Rattle.segment_machine.specs.declared.entry.EntryProgress.{EntryProgress}
use Rattle.segment_machine.specs.declared.entry.Entry.{Entry}
use Rattle.segment_machine.specs.declared.place.Look.{Look}
use Rattle.segment_machine.specs.declared.place.Place.TheVariants.{Looking}
use Rattle.segment_machine.specs.declared.seen.Sighting.{Sighting}
use Rattle.segment_machine.specs.Actor.{Buckets}
use Rattle.segment_machine.specs.Calls.{IsNext, sight_counts}
use Rattle.segment_machine.specs.Counting.{add_count, load_counts}
use Rattle.segment_machine.specs.Entry.{fresh, has_ended, is_counted}
use Rattle.segment_machine.specs.Event.{counting_event, next}
use Rattle.segment_promises.specs.Follows.{noted_by}
use Rattle.segment_promises.proofs.Calls.Places.{looks_again}
use Rattle.segment_calls.specs.declared.refusal.Refusal.{Refusal}
use Rattle.live_segment.specs.declared.add.bucket.PackAttempt.TheVariants.{Off, Passed}
use Rattle.live_segment.specs.Alloc.Claims.{KeepsBlocks}
use Rattle.live_segment.specs.Add.Counts.{HasDisabled, HasMounted, HasNotMounted, MayMount, StandsOff}
use Rattle.live_segment.specs.Add.Refusal.{IsTurnedAway, MayGiveUp}
use Rattle.live_segment.specs.Steps.{IsSame, Pass, Stepped}
use Rattle.live_segment.specs.Rule.{IsOf}
use Rattle.live_segment.specs.declared.segment.Segment.{Segment}
use Rattle.segment_image.specs.Shape.{Dimensions}
use Rattle.live_segment.specs.Steps.GhostNotes.{HasAddedTo, MayAddTo, Noted, bucket_entry, bucket_notes}
use Rattle.live_segment.specs.Add.Progress.{HasCounted, IsOpenTo, LooksFor, LooksOn, MayCountInBucket, Tries}
use Rattle.live_segment.proofs.lemmas.Add.Beginning.{counted_behind, knows, looks_for, looks_for_on, may_yet, may_tell, only_begun}
use Rattle.live_segment.proofs.lemmas.Add.Blocks.{keeps_counted}
use Rattle.live_segment.proofs.lemmas.Add.Ended.{next_behind, none_open}
use Rattle.live_segment.proofs.lemmas.Add.CountsAlone.{counted_at, counts_next, goes, may_give_up}
use Rattle.live_segment.proofs.lemmas.Add.Mounted.{with_words}
use Rattle.live_segment.proofs.lemmas.List.Ends.{found_on}
use Rattle.segment_promises.proofs.Growing.{ended_grows, grows_not}
use Rattle.segment_promises.specs.Onward.{Grows}
use Rattle.live_segment.proofs.lemmas.Add.Refusing.{only_given_up}
use Rattle.live_segment.proofs.lemmas.Alloc.Rooms.{lacked_since}
use Rattle.live_segment.specs.Add.Sample.{block_words}

-- ---- what a call that may count units of a bucket may do

module _ (a : Actor) (known : Known) (bucket units : ℕ) (may : MayCountInBucket a known bucket units) where
  abbrev entry : Entry
  entry = bucket_entry known bucket units

  abbrev one : EntryProgress
  one = fresh entry

  -- it may need counts
  pub may_mount : MayMount a known
  may_mount = record {
    recorder = may.counts.recorder;
    free = may.counts.free;
    knows = knows a known bucket units may;
    alone = may.counts.alone;
    counts = (may.counts.takes, λ c next. by may.counts.begun c next);
  }
    where
      by : IsOpenTo a entry → (c : EntryProgress) → IsNext a c → (is_counted c ≡ false) × (c.entry.name ≡ known.name)
      by (inl new) c (rest, is) = absurd (cc (sym is ∙ ap (filter (λ (x : EntryProgress). not (has_ended x))) new.0))
      by (inr (inl going)) c (rest, is) = absurd (cc (sym is ∙ none_open a.entries.running going.ended.ended))
      by (inr (inr waits)) c (rest, is) =
          let both : c ∷ rest ≡ one ∷ [] =
          sym is ∙ (ap (filter (λ (x : EntryProgress). not (has_ended x))) waits.runs ∙ next_behind one (goes a known entry may.counts) waits.before waits.ended.ended) in
          let same : c ≡ one = cc both in (
            ap is_counted same ∙ ap (λ (b : Bool). false || b) (ne_eqb units 0 (let some_units = may.counts.some in λ e. omega (arith, e, some_units))),
            ap (λ (x : EntryProgress). x.entry.name) same,
          )

  -- and may end if it gets none
  pub may_do_without : MayGiveUp a
  may_do_without = may_give_up a known entry may.counts

-- ---- a count

-- the units are added to the count of their bucket
module _ (known : Known) (bucket units counts : ℕ) (seat : Pass) (may : MayCountInBucket seat.me.0 known bucket units) (off : StandsOff seat.me.0 known counts)
    (below : bucket < buckets_of known.spec) where
  abbrev a : Actor
  a = seat.me.0

  abbrev x : Actor
  x = noted_by a (bucket_notes a known bucket units)

  abbrev at : ℕ
  at = counts + 4 + bucket

  abbrev look : Look
  look = record { histogram = known.reference; single = Some off.0.0; counts = counts }

  only : x ≡ record a { units = x.units; entries = x.entries }
  only = only_begun a known (bucket_entry known bucket units) may.counts

  pub count_within : at < a.segment.shape.size
  count_within = let most = off.1.1 in omega (arith, most, below)

  pub may_add : MayAddTo seat at units
  may_add = (
    record { known = known; counts = counts; bucket = bucket; units = units },
    ((look, off.0.1, refl, refl), may.counts.alone, refl, refl),
    record {
      recorder = may.counts.recorder;
      may = may_tell a known (bucket_entry known bucket units) may.counts;
      ready = (
        fresh (bucket_entry known bucket units),
        known,
        counts_next a known (bucket_entry known bucket units) may.counts,
        refl,
        refl,
        inl (
          look,
          bucket,
          (
            ap (λ (y : Actor). y.hand.place) only ∙ off.0.1,
            off.1.0,
            (off.0.0, refl, off.0.2),
            subst (λ (y : Actor). Buckets y known.reference known) (sym only) (knows a known bucket units may),
          ),
          (below, refl),
          refl,
        ),
      );
      goes = λ found told. refl;
    },
  )

  has_told : (found : ℕ) (after : Pass) → HasAddedTo seat at units found after
      → Noted seat (bucket_notes a known bucket units) (counting_event (add_count at units)) [] found after
  has_told found after has = has (record { known = known; counts = counts; bucket = bucket; units = units }) ((look, off.0.1, refl, refl), may.counts.alone, refl, refl)

  pub adds_keeps : (found : ℕ) (after : Pass) → HasAddedTo seat at units found after → KeepsBlocks a after.me.0
  adds_keeps found after has = keeps_counted known (bucket_entry known bucket units) at found seat after may.counts (has_told found after has)

  pub adds : (found : ℕ) (after : Pass) → HasAddedTo seat at units found after → HasCounted (bucket_entry known bucket units) a after.me.0
  adds found after has = counted_at known (bucket_entry known bucket units) at found seat after may.counts (has_told found after has)

-- it looks at counts in use, and may add units of a bucket to the count of that
pub record IsAtCounts (known : Known) (bucket units counts : ℕ) (old seat : Pass) : Type 0 where
  pub may : MayCountInBucket old.me.0 known bucket units
  pub looks : LooksFor (bucket_entry known bucket units) old.me.0 seat.me.0
  pub filled : seat.me.0.done.filled ≡ old.me.0.done.filled
  pub off : StandsOff seat.me.0 known counts

module _ {known : Known} {bucket units counts : ℕ} {old seat : Pass} (is : IsAtCounts known bucket units counts old seat) (below : bucket < buckets_of known.spec) where
  may_here : MayCountInBucket seat.me.0 known bucket units
  may_here = may_yet old.me.0 seat.me.0 known bucket units is.may is.looks

  pub room_here : (segment : Segment) → IsOf segment.setting old.me.0 → counts + 4 + bucket < segment.setting.shape.size
  room_here segment of = subst (λ (shape : Dimensions). counts + 4 + bucket < shape.size) (ap (λ (b : Actor). b.segment.shape) is.looks.proceeds.same ∙ of.shape)
      (count_within known bucket units counts seat may_here is.off below)

  pub may_add_here : MayAddTo seat (counts + 4 + bucket) units
  may_add_here = may_add known bucket units counts seat may_here is.off below

  module _ (found : ℕ) (after : Pass) (has : HasAddedTo seat (counts + 4 + bucket) units found after) where
    pub same_here : IsSame old seat → IsSame old after
    same_here same =
        let told = has_told known bucket units counts seat may_here is.off below found after has in
        (told.same.0 ∙ same.0, told.same.1 ∙ same.1, told.same.2 ∙ same.2)

    pub keeps_here : KeepsBlocks seat.me.0 after.me.0
    keeps_here = adds_keeps known bucket units counts seat may_here is.off below found after has

    pub counted_here : HasCounted (bucket_entry known bucket units) old.me.0 after.me.0
    counted_here =
        counted_behind old.me.0 seat.me.0 after.me.0 known (bucket_entry known bucket units) is.may.counts is.looks is.filled
        (adds known bucket units counts seat may_here is.off below found after has)

-- ---- after an attempt to pack

module _ (known : Known) (bucket units : ℕ) (old mid : Pass) (may : MayCountInBucket old.me.0 known bucket units) where
  -- the counts are in use: the reference is loaded
  module _ (tried : Tries known bucket units old.me.0 Off mid.me.0) where
    looks_off : LooksFor (bucket_entry known bucket units) old.me.0 mid.me.0
    looks_off = tried.0

    pub counts_off : MayCountInBucket mid.me.0 known bucket units
    counts_off = may_yet old.me.0 mid.me.0 known bucket units may looks_off

    module _ {found : ℕ} {seat : Pass} (step : Stepped mid (counting_event (load_counts known.reference)) found seat) where
      stands_off : StandsOff seat.me.0 known found
      stands_off =
          let (word, counts, placed, off, saw) = tried.3 in
          let there : found ≢ 0 = step.learned.1.1 word saw off in
          let look : Look = record { histogram = known.reference; single = Some word; counts = counts } in
          subst (λ (b : Actor). StandsOff b known found) (sym step.view) (
            (word, ap (λ (l : Look). Looking (record l { counts = found })) (looks_again mid.me.0.hand.place look known.reference placed refl), off),
            (there, step.learned.0 known (knows mid.me.0 known bucket units counts_off) there),
          )

      pub at_counts_off : IsAtCounts known bucket units found old seat
      at_counts_off = record {
        may = may;
        looks = looks_for_on old.me.0 mid.me.0 seat.me.0 known (bucket_entry known bucket units) may.counts looks_off
            (looks_for (bucket_entry known bucket units) mid.me.0 seat.me.0 (subst (LooksOn mid.me.0) (sym step.view)
            (with_words mid.me.0 (next mid.me.0 (counting_event (load_counts known.reference)) found).hand (sight_counts known.reference found) _ (ended_grows mid.me.0.seen.ends (known.reference + 8) (found == 0)) refl)));
        filled = ap (λ (b : Actor). b.done.filled) step.view ∙ ap (λ d. d.filled) tried.1.done;
        off = stands_off;
      }

  -- the single word cannot take them: counts are found or made
  module _ (tried : Tries known bucket units old.me.0 Passed mid.me.0) where
    looks_passed : LooksFor (bucket_entry known bucket units) old.me.0 mid.me.0
    looks_passed = tried.0

    pub may_passed : MayCountInBucket mid.me.0 known bucket units
    may_passed = may_yet old.me.0 mid.me.0 known bucket units may looks_passed

    -- they are in use then
    module _ (counts : ℕ) (with_counts seat : Pass) (mounted : HasMounted known mid.me.0 counts with_counts.me.0)
        (disabled : HasDisabled known counts with_counts.me.0 seat.me.0) where
      pub at_counts_passed : IsAtCounts known bucket units counts old seat
      at_counts_passed =
          let first = looks_for_on old.me.0 mid.me.0 with_counts.me.0 known (bucket_entry known bucket units) may.counts looks_passed (looks_for (bucket_entry known bucket units) mid.me.0 with_counts.me.0 mounted.looks) in record {
            may = may;
            looks = looks_for_on old.me.0 with_counts.me.0 seat.me.0 known (bucket_entry known bucket units) may.counts first (looks_for (bucket_entry known bucket units) with_counts.me.0 seat.me.0 disabled.looks);
            filled = ap (λ d. d.filled) disabled.keeps.done ∙ (mounted.filled ∙ ap (λ d. d.filled) tried.1.done);
            off = disabled.stands;
          }

    -- a single word that cannot take them is still seen
    pub turned : (why : Refusal) (new : Pass) → HasNotMounted why known mid.me.0 new.me.0 → IsTurnedAway why known bucket units old.me.0 new.me.0
    turned why new refuses =
        let (word, saw, on, none) = tried.3 in
        let (more, grown) = looks_passed.proceeds.seen.singles in
        let (rest, longer) = refuses.looks.proceeds.seen.singles in
        let begin = old.me.0.seen.singles in
        let seen : new.me.0.seen.singles ≡ refuses.last.seen.singles = ap (λ (b : Actor). b.seen.singles) (refuses.ends ∙ only_given_up refuses.last) in
        let all : new.me.0.seen.singles ≡ begin ++ (more ++ rest) =
        seen ∙ (longer ∙ (ap (λ (l : List Sighting). l ++ rest) grown ∙ append_assoc begin more rest)) in
        let first : Contains more (record { at = known.reference + 9; word = word }) =
        subst (λ (l : List Sighting). Contains l (record { at = known.reference + 9; word = word })) (ap (drop (length begin)) grown ∙ drop-append_seam begin more) saw in
        let last : drop (length begin) new.me.0.seen.singles ≡ more ++ rest = ap (drop (length begin)) all ∙ drop-append_seam begin (more ++ rest) in record {
          last = refuses.last;
          looks = looks_for_on old.me.0 mid.me.0 refuses.last known (bucket_entry known bucket units) may.counts looks_passed (looks_for (bucket_entry known bucket units) mid.me.0 refuses.last refuses.looks);
          untouched = refuses.untouched ∙ tried.2;
          ends = refuses.ends;
          idle = refuses.idle;
          cannot = (
            word,
            subst (λ (l : List Sighting). Contains l (record { at = known.reference + 9; word = word })) (sym last) (Contains-append_left more rest _ first),
            on,
            none,
          );
          none = refuses.none;
          loaded = found_on old.me.0.seen mid.me.0.seen new.me.0.seen new.me.0.seen looks_passed.proceeds.seen.ends
              (subst (λ (b : Actor). Grows mid.me.0.seen.ends b.seen.ends) (sym (refuses.ends ∙ only_given_up refuses.last)) refuses.looks.proceeds.seen.ends)
              (grows_not new.me.0.seen.ends) (known.reference + 8) refuses.loaded;
          room = lacked_since why (block_words known) old.me.0 mid.me.0 new.me.0 tried.1.done looks_passed.proceeds.seen.warned refuses.room;
        }
