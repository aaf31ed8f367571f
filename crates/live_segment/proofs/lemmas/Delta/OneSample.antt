-- A delta takes what is counted in one sample of a sparse histogram: the sample's mark is raised to the count that was loaded.
use Rattle.std.proofs.Common.{◌≡◌, ℕ, ◌+◌, ◌-◌, ℤ, max, List, ◌++◌, Option, inr, refl, sym, ap, subst, ◌∙◌, arith}
use Rattle.std.specs.Prelude.{unwrap_or}
use Rattle.std.specs.Int.{cast_signed, w64}
use Rattle.segment_machine.specs.declared.actor.Actor.{Actor}
use Rattle.segment_machine.specs.declared.actor.Known.{Known}
use Rattle.segment_machine.specs.declared.actor.Taken.{Taken}
use Rattle.segment_machine.specs.declared.place.Place.TheVariants.{Idle}
use Rattle.segment_machine.specs.declared.seen.Seen.{Seen}
use Rattle.segment_machine.specs.Actor.{SawCount, is_bound}
use Rattle.segment_machine.specs.Calls.{back, sight}
use Rattle.segment_machine.specs.Event.{taking_event}
use Rattle.segment_machine.specs.Taking.{raise_mark, taken_key}
use Rattle.segment_machine.proofs.Values.{value_word}
use Rattle.segment_promises.specs.Onward.{is_holding}
use Rattle.live_segment.specs.declared.segment.Segment.{Segment}
use Rattle.live_segment.specs.Delta.Outcome.{HasTakenSample, MayTakeSample, TakesOn, units_of_key}
use Rattle.live_segment.specs.List.Values.SampleCall.{OfDelta}
use Rattle.live_segment.specs.Holders.{MayStep}
use Rattle.live_segment.specs.Steps.{Pass, Stepped}
use Rattle.live_segment.proofs.lemmas.Delta.OneBucket.{marked, saw_here, takes_by}
use Rattle.segment_promises.proofs.Calls.Sights.{saw_count}
use Rattle.live_segment.proofs.lemmas.List.SampleCalls.{goes_on}
use Rattle.live_segment.proofs.lemmas.Snapshot.Seeing.{began, takes_sees}
use Rattle.live_segment.proofs.lemmas.Steps.Proceeding.{sees_count}

module _ (segment : Segment) (known : Known) (value : ℤ) (sample count : ℕ) (old : Pass) (may : MayTakeSample segment known value sample count old) where
  pub may_raise : MayStep segment old (taking_event (raise_mark (sample + 7) count))
  may_raise =
      let some = may.some in record {
        table = may.takes.looks.seated.table;
        recorder = may.takes.looks.seated.recorder;
        ready = (omega (arith, some), inr (sample, known.reference, known, may.loaded, may.saw.1, may.takes.takes, refl));
      }

  key : taken_key old.me.0 old.me.0.hand.place ≡ value
  key = ap (taken_key old.me.0) may.loaded ∙ (ap (λ (w : Option ℕ). cast_signed w64 (unwrap_or w 0)) may.saw.2 ∙ value_word value may.saw.3)

  module _ (found : ℕ) (new : Pass) (raise : Stepped old (taking_event (raise_mark (sample + 7) count)) found new) where
    abbrev seen : Seen
    seen = record old.me.0.seen { counts = old.me.0.seen.counts ++ sight (sample + 7) (max found count) }

    raised : TakesOn (units_of_key value (count - found)) old.me.0 new.me.0
    raised = takes_by old.me.0 new.me.0 (back old.me.0.hand.place) (units_of_key value (count - found)) seen
        (raise.view ∙ ap (λ (l : List Taken). record old.me.0 {
          hand = record old.me.0.hand { place = back old.me.0.hand.place };
          deltas = record old.me.0.deltas { taken = l };
          seen = seen;
        }) (marked (taken_key old.me.0 old.me.0.hand.place) value found count old.me.0.deltas.taken key))
        (sees_count old.me.0.seen (sight (sample + 7) (max found count)))

    idle : new.me.0.hand.place ≡ Idle
    idle = ap (λ (a : Actor). a.hand.place) raise.view ∙ ap back may.loaded

    pub took_units : (units : ℕ) → units ≡ count - found → HasTakenSample segment known value sample units old new
    took_units units is = record {
      takes = goes_on OfDelta segment known old new (units_of_key value (count - found)) may.takes raised raise.same (ap is_bound idle) (ap is_holding idle);
      on = subst (λ (n : ℕ). TakesOn (units_of_key value n) old.me.0 new.me.0) (sym is) raised;
      seen = ap (λ (a : Actor). a.seen) raise.view ∙ (λ i. record old.me.0.seen { counts = sym (ap (λ (a : Actor). a.seen.counts) raise.view) i });
      took = (
        count,
        saw_count old.me.0 new.me.0 (takes_sees old.me.0 new.me.0 (units_of_key value (count - found)) raised) (began old.me.0 may.takes.looks.singles may.takes.looks.counts) (sample + 6) count may.counted,
        inr (
          max found count,
          subst (λ (a : Actor). SawCount a (sample + 7) (max found count)) (sym raise.view) (saw_here old.me.0 (sample + 7) (max found count) may.takes.looks.counts),
          omega arith,
        ),
      );
    }
