-- What a delta takes of one record that it visited after the record of a sparse histogram.
use Rattle.std.proofs.Common.{◌≡◌, ◌≢◌, ℕ, ℤ, if◌then◌else◌, Bool, List, [], ◌∷◌, Some, None, inl, inr, refl, sym, ap, subst, ◌∙◌, arith}
use Rattle.std.proofs.lemmas.Bool.{lt-ltb}
use Rattle.segment_machine.specs.declared.actor.Actor.{Actor}
use Rattle.segment_machine.specs.declared.actor.Known.{Known}
use Rattle.segment_machine.specs.declared.seen.Seen.{Seen}
use Rattle.segment_machine.specs.Made.{SawSample}
use Rattle.segment_machine.specs.Note.{TookSample}
use Rattle.segment_machine.specs.Taking.{IsLaterSample}
use Rattle.live_segment.specs.declared.segment.Segment.{Segment}
use Rattle.live_segment.specs.Delta.Outcome.{HasTakenSample, MayTakeSample, TakesOn, TakesValues, units_of_key}
use Rattle.live_segment.specs.List.SampleRecords.{CountsSample, HasUnits, SeesSample}
use Rattle.live_segment.specs.Steps.{IsSame, Pass}
use Rattle.segment_promises.specs.Values.{PassesRecord}
use Rattle.live_segment.specs.List.Values.{TakesValue}
use Rattle.live_segment.specs.List.Values.SampleCall.{OfDelta}
use Rattle.live_segment.proofs.lemmas.Delta.OneBucket.{takes_then}
use Rattle.live_segment.proofs.lemmas.List.SampleCalls.{goes_on, seen_one}

module _ {segment : Segment} {known : Known} (at : ℕ) {old mid : Pass} (takes : TakesValues segment known old) (same : IsSame old mid)
    (sees : SeesSample old.me.0 mid.me.0) where
  none_taken : TakesOn [] old.me.0 mid.me.0
  none_taken = seen_one OfDelta old.me.0 mid.me.0 sees

  takes_mid : TakesValues segment known mid
  takes_mid = goes_on OfDelta segment known old mid [] takes none_taken same sees.free sees.apart

  chain_mid : mid.me.0.seen.chain ≡ old.me.0.seen.chain
  chain_mid = ap (λ (a : Actor). a.seen.chain) sees.view

  -- it is no sample, or has no units
  pub takes_nothing : CountsSample known.reference at None mid.me.0 → TakesValue segment known at None old mid
  takes_nothing counts = record { takes = takes_mid; on = none_taken; chain = chain_mid; lists = by counts }
    where
      by : CountsSample known.reference at None mid.me.0 → PassesRecord (λ value sample. TookSample mid.me.0 sample) mid.me.0.seen known.reference at
      by (inl none) = inr none
      by (inr (value, saw, zero)) = inl (value, saw, (0, zero, inl refl))

  module _ {value : ℤ} {count : ℕ} (has : HasUnits known.reference at value count mid.me.0) where
    pub may_take : MayTakeSample segment known value at count mid
    may_take = record { takes = takes_mid; saw = has.saw; loaded = has.loaded; counted = has.counted; some = has.some }

    module _ {units : ℕ} {late : Pass} (taken : HasTakenSample segment known value at units mid late) where
      late_is : late.me.0 ≡ record mid.me.0 {
        hand = record mid.me.0.hand { place = late.me.0.hand.place };
        deltas = late.me.0.deltas;
        seen = record mid.me.0.seen { counts = late.me.0.seen.counts };
      }
      late_is = taken.on.view ∙ (λ i. record mid.me.0 {
        hand = record mid.me.0.hand { place = late.me.0.hand.place };
        deltas = sym (ap (λ (a : Actor). a.deltas) taken.on.view) i;
        seen = taken.seen i;
      })

      chain_late : late.me.0.seen.chain ≡ old.me.0.seen.chain
      chain_late = ap (λ (s : Seen). s.chain) taken.seen ∙ chain_mid

      saw_late : SawSample late.me.0.seen known.reference value at
      saw_late = subst (λ (a : Actor). SawSample a.seen known.reference value at) (sym late_is) has.saw

      first_late : ¬ (IsLaterSample late.me.0 at)
      first_late later = has.first (subst (λ (a : Actor). IsLaterSample a at) late_is later)

      on_late : TakesOn (units_of_key value units) old.me.0 late.me.0
      on_late = takes_then old.me.0 mid.me.0 late.me.0 [] (units_of_key value units) none_taken taken.on

      -- others took its units
      pub takes_none : units ≡ 0 → TakesValue segment known at None old late
      takes_none none = record {
        takes = taken.takes;
        on = subst (λ (n : ℕ). TakesOn (units_of_key value n) old.me.0 late.me.0) none on_late;
        chain = chain_late;
        lists = inl (value, saw_late, taken.took);
      }

      pub takes_some : units ≢ 0 → TakesValue segment known at (Some (value, units)) old late
      takes_some some = record {
        takes = taken.takes;
        on = subst (λ (l : List (ℤ × ℕ)). TakesOn l old.me.0 late.me.0)
            (ap (λ (b : Bool). if b then (value, units) ∷ [] else []) (lt-ltb 0 units (omega (arith, some)))) on_late;
        chain = chain_late;
        lists = (saw_late, taken.took, omega (arith, some), first_late);
      }
