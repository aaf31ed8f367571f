-- A delta ends: it takes what is new of the sum, and its recorder keeps what it took.
use Rattle.std.proofs.Common.{◌≡◌, ℕ, ◌+◌, ℤ, false, true, true≢false, List, [], ◌∷◌, ◌++◌, refl, sym, ap, subst, ◌∙◌}
use Rattle.std.specs.Prelude.{◌-ℤ◌}
use Rattle.std.specs.Int.{cast_signed, w64}
use Rattle.std.specs.List.{Contains}
use Rattle.std.proofs.Math.IntN.{+ℤ_idl}
use Rattle.segment_machine.specs.declared.actor.Actor.{Actor}
use Rattle.segment_machine.specs.declared.actor.Known.{Known}
use Rattle.segment_machine.specs.declared.actor.Taken.{Taken}
use Rattle.segment_machine.specs.declared.place.Place.TheVariants.{Idle, SumLoaded}
use Rattle.segment_machine.specs.declared.seen.Seen.{Seen}
use Rattle.segment_machine.specs.Actor.{has_buckets, is_opener, looking, units_listed}
use Rattle.segment_machine.specs.Calls.{change_last, sight}
use Rattle.segment_machine.specs.Event.{Event, next, packing_event, taking_event}
use Rattle.segment_machine.specs.Note.{TookAll, has_taken, noted, nothing_taken, takes}
use Rattle.segment_machine.specs.Packing.{load_single}
use Rattle.segment_machine.specs.Taking.{Takes, load_sum, swap_sum, swap_sum_mark}
use Rattle.segment_invariant.proofs.Notes.Amounts.{last_changed}
use Rattle.live_segment.specs.declared.segment.Segment.{Segment}
use Rattle.live_segment.specs.Delta.Outcome.{AreUnits, HasTaken, HasTakenBuckets, HasTakenSome, HasTakenSum, MayTakeSum, TakesOn, TakesWord, taken_as, with_sum, with_units}
use Rattle.live_segment.specs.Holders.{MayStep}
use Rattle.segment_promises.specs.Calls.{SamplesStandBehind}
use Rattle.segment_promises.specs.Onward.{SeesOn}
use Rattle.segment_promises.specs.Values.{NoRepeats}
use Rattle.live_segment.specs.Steps.{IsSame, Pass, Stepped}
use Rattle.live_segment.specs.Steps.GhostNotes.{MayDo, Noted}
use Rattle.live_segment.proofs.lemmas.Delta.OneBucket.{takes_of}
use Rattle.live_segment.proofs.lemmas.Steps.Proceeding.{sees_on, sees_single}

module _ (segment : Segment) (known : Known) (old : Pass) (may : MayTakeSum segment known old) where
  pub may_load_sum : MayStep segment old (taking_event (load_sum known.reference))
  may_load_sum = record { table = may.table; recorder = may.recorder; ready = (may.free, (known, may.takes.1, refl)) }

  module _ (word : ℕ) (mid : Pass) (load : Stepped old (taking_event (load_sum known.reference)) word mid) (behind : SamplesStandBehind old.me.0)
      (once : NoRepeats old.me.0.seen.chain) where
    abbrev sum : ℤ
    sum = cast_signed w64 word

    abbrev loaded : Actor
    loaded = record old.me.0 { hand = record old.me.0.hand { place = SumLoaded known.reference sum } }

    abbrev swapping : Event
    swapping = taking_event (swap_sum_mark known.reference sum)

    takes_loaded : Takes loaded known.reference known
    takes_loaded = may.takes

    -- all that it saw is taken, whatever the mark was
    took_all : (found : ℕ) → TookAll (next loaded swapping found) known
    took_all found =
        let (taking, has, of, (before, last, is, name)) = may.takes in record {
          buckets = may.buckets;
          samples = may.samples behind once;
          summed = (
            before,
            swap_sum sum (cast_signed w64 found) last,
            ap (change_last (swap_sum sum (cast_signed w64 found))) is ∙ last_changed (swap_sum sum (cast_signed w64 found)) before last,
            name,
            refl,
          );
        }

    pub may_swap : MayDo mid [] swapping (has_taken ∷ [])
    may_swap = record {
      recorder = ap (λ (a : Actor). is_opener a.role) load.view ∙ may.recorder;
      may = refl;
      ready = subst (λ (a : Actor). (k : Known) × Takes a known.reference k × (a.hand.place ≡ SumLoaded known.reference sum)) (sym load.view)
          (known, takes_loaded, refl);
      goes = λ found learned. (
        (
          ap (λ (a : Actor). a.deltas.taking) load.view ∙ may.takes.0,
          subst (λ (a : Actor). (k : Known) × Contains a.answers.names k × TookAll (next a swapping found) k) (sym load.view)
              (known, may.takes.1, took_all found),
        ),
        refl,
      );
    }

    module _ (mark : ℕ) (new : Pass) (swap : Noted mid [] swapping (has_taken ∷ []) mark new) where
      pub ended : (amount : ℤ) → amount ≡ sum -ℤ cast_signed w64 mark → HasTakenSum known amount old.me.0 new.me.0
      ended amount is =
          let whole : new.me.0 ≡ noted (next loaded swapping mark) has_taken = swap.view ∙ ap (λ (a : Actor). noted (next a swapping mark) has_taken) load.view in record {
            view = whole ∙ ap (λ (d : ℤ). record old.me.0 {
              hand = record old.me.0.hand { place = Idle };
              deltas = record old.me.0.deltas { taking = false; taken = change_last (with_sum d) old.me.0.deltas.taken };
            }) (sym is);
            all = subst (λ (a : Actor). TookAll a known) (sym whole) (let all = took_all mark in record { buckets = all.buckets; samples = all.samples; summed = all.summed });
          }

-- ---- all of it

-- what it has taken once it continues and takes more
pub takes_some : (known : Known) (first one two : Actor) (units : List (ℤ × ℕ)) → HasTakenSome known [] first one → TakesOn units one two
    → HasTakenSome known units first two
takes_some known first one two units gone on = record {
  view = on.view ∙ (ap (λ (a : Actor). record a {
    hand = record a.hand { place = two.hand.place };
    deltas = record a.deltas { taken = change_last (with_units units) a.deltas.taken };
    seen = two.seen;
  }) gone.view ∙ ap (λ (taken : List Taken). record (looking first) {
    hand = record first.hand { place = two.hand.place };
    seen = two.seen;
    deltas = record first.deltas { taking = true; taken = taken };
  }) (last_changed (with_units units) first.deltas.taken (nothing_taken first known.name)));
  seen = sees_on first.seen one.seen two.seen gone.seen on.seen;
}

-- what its recorder keeps
module _ (known : Known) (first two : Actor) (units : List (ℤ × ℕ)) (gone : HasTakenSome known units first two) (amount : ℤ) (new : Actor)
    (ends : HasTakenSum known amount two new) where
  abbrev ending : Actor → Actor
  ending a = record a {
    hand = record a.hand { place = Idle };
    deltas = record a.deltas { taking = false; taken = change_last (with_sum amount) a.deltas.taken };
  }

  abbrev keeping : Seen → List Taken → Actor
  keeping seen taken = record (looking first) {
    hand = record first.hand { place = Idle };
    seen = seen;
    deltas = record first.deltas { taking = false; taken = taken };
  }

  abbrev all : List Taken
  all = first.deltas.taken ++ taken_as first known units amount ∷ []

  taken_is : change_last (with_sum amount) (first.deltas.taken ++ with_units units (nothing_taken first known.name) ∷ []) ≡ all
  taken_is = last_changed (with_sum amount) first.deltas.taken (with_units units (nothing_taken first known.name))
      ∙ ap (λ (sum : ℤ). first.deltas.taken ++ record (taken_as first known units amount) { sum = sum } ∷ []) (+ℤ_idl amount)

  seen_is : new.seen ≡ two.seen
  seen_is = ap (λ (a : Actor). a.seen) ends.view

  pub has_kept : (delta : List (ℤ × ℕ)) → AreUnits delta → ((key : ℤ) → units_listed delta key ≡ units_listed units key) → HasTaken known delta amount first new
  has_kept delta are each = record {
    counts = units;
    same = ends.view ∙ (ap ending gone.view ∙ (ap (keeping two.seen) taken_is ∙ ap (λ (seen : Seen). keeping seen all) (sym seen_is)));
    seen = subst (SeesOn first.seen) (sym seen_is) gone.seen;
    all = ends.all;
    units = are;
    each = each;
  }

module _ (segment : Segment) (known : Known) (first one two : Pass) (word : ℕ) (takes_word : TakesWord segment known word one)
    (view : one.me.0 ≡ next (noted first.me.0 (takes known.name)) (packing_event (load_single known.reference)) word)
    (units : List (ℤ × ℕ)) (same : IsSame one two) (took : HasTakenBuckets known units one.me.0 two.me.0) where
  pub may_take_sum : MayTakeSum segment known two
  may_take_sum = record {
    table = same.0 ∙ takes_word.table;
    recorder = ap (λ (a : Actor). is_opener a.role) took.on.view ∙ takes_word.recorder;
    free = took.free;
    takes = takes_of one.me.0 two.me.0 units known.reference known took.on takes_word.takes;
    buckets = λ bucketed. took.took;
    samples = λ behind once sparse. absurd (true≢false (sym takes_word.bucketed ∙ ap has_buckets sparse));
  }

  module _ (amount : ℤ) (new : Actor) (ends : HasTakenSum known amount two.me.0 new) where
    pub has_taken_all : HasTaken known units amount first.me.0 new
    has_taken_all = has_kept known first.me.0 two.me.0 units (takes_some known first.me.0 one.me.0 two.me.0 units (record {
      view = view ∙ (λ i. record (noted first.me.0 (takes known.name)) {
        hand = record first.me.0.hand { place = sym (ap (λ (a : Actor). a.hand.place) view) i };
        seen = sym (ap (λ (a : Actor). a.seen) view) i;
      });
      seen = subst (λ (a : Actor). SeesOn first.me.0.seen a.seen) (sym view) (sees_single first.me.0.seen (sight (known.reference + 9) word));
    }) took.on) amount new ends units took.units (λ key. refl)
