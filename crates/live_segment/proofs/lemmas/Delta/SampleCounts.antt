-- The count of a sample that was visited is loaded.
use Rattle.std.proofs.Common.{◌≡◌, ◌≢◌, ℕ, ◌+◌, ◌-◌, false, ℤ, List, [], ◌++◌, drop, inr, refl, sym, ap, ◌∙◌, subst, arith}
use Rattle.std.specs.List.{Contains}
use Rattle.std.proofs.lemmas.List.{append-nil, drop-append-le}
use Rattle.std.proofs.lemmas.List.Elements.{Contains-append_right}
use Rattle.segment_machine.specs.declared.actor.Actor.{Actor}
use Rattle.segment_machine.specs.declared.actor.Known.{Known}
use Rattle.segment_machine.specs.declared.place.Place.{Place}
use Rattle.segment_machine.specs.declared.place.Place.TheVariants as place
use Rattle.segment_machine.specs.declared.place.Place.TheVariants.{SampleLoaded}
use Rattle.segment_machine.specs.declared.seen.Sighting.{Sighting}
use Rattle.segment_machine.specs.Actor.{SawCount, is_bound, is_opener}
use Rattle.segment_machine.specs.Calls.{MayTurn, sight}
use Rattle.segment_machine.specs.Event.{Event, next, taking_event}
use Rattle.segment_machine.specs.Made.{SawSample}
use Rattle.segment_machine.specs.Taking.{IsLaterSample, at_count, load_count}
use Rattle.segment_promises.specs.Onward.{is_holding}
use Rattle.live_segment.specs.declared.segment.Segment.{Segment}
use Rattle.live_segment.specs.Hist.ListSearch.{SeesWords}
use Rattle.live_segment.specs.Holders.{MayStep}
use Rattle.live_segment.specs.List.SampleRecords.{SeesSample}
use Rattle.live_segment.specs.Ready.{LooksAtValues}
use Rattle.live_segment.specs.Steps.{Pass, IsSame, Stepped}
use Rattle.live_segment.proofs.lemmas.Add.Beginning.{known_there}
use Rattle.live_segment.proofs.lemmas.List.Showing.{meets_still}
use Rattle.segment_promises.proofs.Calls.Places.{not_looking}

-- where a recorder is that has loaded the count of a sample
loads_sample : (p : Place) (at found : ℕ) → is_holding p ≡ false → (is_holding (at_count p at found) ≡ false) × (is_bound (at_count p at found) ≡ false)
loads_sample (place.Looking look) at found apart = absurd (cc apart)
loads_sample (place.CountLoaded look bucket count) at found apart = absurd (cc apart)
loads_sample p at found apart = (refl, refl)

at_sample : (p : Place) (at found : ℕ) → is_holding p ≡ false → at_count p (at + 6) found ≡ SampleLoaded at found
at_sample (place.Looking look) at found apart = absurd (cc apart)
at_sample (place.CountLoaded look bucket count) at found apart = absurd (cc apart)
at_sample p at found apart = let same : at + 6 - 6 ≡ at = omega arith in ap (λ (n : ℕ). SampleLoaded n found) same

-- it has only seen words
pub sees_no_count : (a b : Actor) → MayTurn a → is_holding a.hand.place ≡ false → SeesWords a b → SeesSample a b
sees_no_count a b free apart sees = record {
  view = sees.view ∙ (λ i. record a {
    hand = record a.hand { place = sym (ap (λ (x : Actor). x.hand.place) sees.view) i };
    seen = record a.seen { words = b.seen.words; counts = sym (ap (λ (x : Actor). x.seen.counts) sees.view) i };
  });
  words = sees.words;
  counts = ([], ap (λ (x : Actor). x.seen.counts) sees.view ∙ sym (append-nil a.seen.counts));
  free = ap (λ (x : Actor). is_bound x.hand.place) sees.view ∙ free;
  apart = ap (λ (x : Actor). is_holding x.hand.place) sees.view ∙ apart;
}

module _ {segment : Segment} {known : Known} {first old : Pass} (at : ℕ) (value : ℤ) (looks : LooksAtValues segment known first)
    (met : Contains first.me.0.seen.chain at) (same : IsSame first old) (sees : SeesWords first.me.0 old.me.0)
    (saw : SawSample old.me.0.seen known.reference value at) where
  abbrev event : Event
  event = taking_event (load_count (at + 6))

  pub may_count : MayStep segment old event
  may_count = let there = meets_still at first.me.0 old.me.0 sees (looks.free, met) in record {
    table = same.0 ∙ looks.seated.table;
    recorder = ap (λ (x : Actor). is_opener x.role) sees.view ∙ looks.seated.recorder;
    ready = inr (
      known,
      at,
      value,
      (
        subst (λ (x : Actor). Contains x.answers.names known) (sym sees.view) (known_there first.me.0.answers.names known.reference known looks.alone).0,
        refl,
        looks.sparse,
      ),
      there.1,
      saw,
      refl,
      there.0,
      not_looking old.me.0.hand.place (ap (λ (x : Actor). is_holding x.hand.place) sees.view ∙ looks.apart),
    );
  }

  module _ {found : ℕ} {new : Pass} (step : Stepped old event found new) where
    apart_old : is_holding old.me.0.hand.place ≡ false
    apart_old = ap (λ (x : Actor). is_holding x.hand.place) sees.view ∙ looks.apart

    counts_are : new.me.0.seen.counts ≡ first.me.0.seen.counts ++ sight (at + 6) found
    counts_are = ap (λ (x : Actor). x.seen.counts) step.view ∙ ap (λ (x : Actor). x.seen.counts ++ sight (at + 6) found) sees.view

    words_are : new.me.0.seen.words ≡ old.me.0.seen.words
    words_are = ap (λ (x : Actor). x.seen.words) step.view

    pub sees_count : SeesSample first.me.0 new.me.0
    sees_count = record {
      view = step.view ∙ (ap (λ (x : Actor). next x event found) sees.view ∙ (λ i. record first.me.0 {
        hand = record first.me.0.hand { place = sym (ap (λ (x : Actor). x.hand.place) (step.view ∙ ap (λ (x : Actor). next x event found) sees.view)) i };
        seen = record first.me.0.seen { words = sym words_are i; counts = sym counts_are i };
      }));
      words = (sees.words.0, words_are ∙ sees.words.1);
      counts = (sight (at + 6) found, counts_are);
      free = ap (λ (x : Actor). is_bound x.hand.place) step.view ∙ (loads_sample old.me.0.hand.place (at + 6) found apart_old).1;
      apart = ap (λ (x : Actor). is_holding x.hand.place) step.view ∙ (loads_sample old.me.0.hand.place (at + 6) found apart_old).0;
    }

    pub saw_sample : SawSample new.me.0.seen known.reference value at
    saw_sample = subst (λ (x : Actor). SawSample x.seen known.reference value at) (sym step.view) saw

    pub saw_found : SawCount new.me.0 (at + 6) found
    saw_found =
        let seen : Sighting = record { at = at + 6; word = found } in
        let began : new.me.0.since.counts ≡ first.me.0.since.counts = ap (λ (x : Actor). x.since.counts) step.view ∙ ap (λ (x : Actor). x.since.counts) sees.view in
        subst (λ (l : List Sighting). Contains l seen)
        (sym ((λ i. drop (began i) (counts_are i)) ∙ drop-append-le first.me.0.since.counts first.me.0.seen.counts (sight (at + 6) found) looks.counts))
        (Contains-append_right (drop first.me.0.since.counts first.me.0.seen.counts) (sight (at + 6) found) seen (0, omega arith, refl))

    -- it is at the sample
    pub loaded : new.me.0.hand.place ≡ SampleLoaded at found
    loaded = ap (λ (x : Actor). x.hand.place) step.view ∙ at_sample old.me.0.hand.place at found apart_old

    -- a later one of its value has none
    pub not_later : found ≢ 0 → ¬ (IsLaterSample new.me.0 at)
    not_later some later = some (step.learned.1 at refl (subst (λ (x : Actor). IsLaterSample x at) step.view later))
