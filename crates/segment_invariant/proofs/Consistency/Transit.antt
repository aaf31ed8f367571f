-- Units of a kept state are in transit in version 1 alone, and in the packed bucket alone.
use Rattle.segment_invariant.proofs.Prelude.Std.{⊎_elim, ◌≡◌, Bool, true, false, ◌&&◌, ◌==◌, ℕ, ◌<◌, if◌then◌else◌, sym, ap, subst, ◌∙◌, refl, arith, Some, eqb-true, and_parts}
use Rattle.segment_invariant.proofs.Prelude.Machine.{Dimensions, packed_bucket, Actor, Place, State}
use Rattle.segment_invariant.proofs.Prelude.Invariant.{Record, Anatomy, form_at, HasRecord, StandsRight, Invariant}
use Rattle.segment_machine.specs.Actor.{transit_at, transit_of}
use Rattle.segment_invariant.specs.Keeps.{KeptTransitIsLocal}
use Rattle.segment_invariant.proofs.Frames.OneActor.{moves_or_not}
use Rattle.segment_invariant.proofs.Lists.FewTerms.{some_counts}
use Rattle.segment_invariant.proofs.Consistency.Specs.{form_is}

-- units of the bucket of a histogram
local_to : (b : Bool) (units : ℕ) → 0 < (if b then units else 0) → b ≡ true
local_to true units above = refl
local_to false units above = absurd (omega (arith, above))

-- an actor that moves units of a bucket disabled the word of its record, in version 1
module _ (shape : Dimensions) (opened : Anatomy) (state : State) (kept : Invariant shape opened state) where
  abbrev pub Moves : ℕ → ℕ → Type 0
  Moves at i = (r : Record) × HasRecord kept.anatomy.pieces at r × (kept.anatomy.version ≡ 1) × (packed_bucket (form_at 1 r) ≡ Some i)

  moves : (who : ℕ) (a : Actor) (at i : ℕ) (place : Place) → StandsRight shape kept.anatomy who a place → 0 < transit_at place at i → Moves at i
  moves who a at i place stands above = ⊎_elim
      (λ (look, bucket, units, is).
      let (looks, first, counts, least, most, (r, there, packed, off), unseen) = subst (StandsRight shape kept.anatomy who a) is stands in
      let both = local_to ((look.histogram == at) && (bucket == i)) units (subst (λ place. 0 < transit_at place at i) is above) in
      let same = and_parts (look.histogram == at) (bucket == i) both in
      let here : look.histogram ≡ at = eqb-true look.histogram at same.0 in
      let this : bucket ≡ i = eqb-true bucket i same.1 in
      (r, subst (λ (at : ℕ). HasRecord kept.anatomy.pieces at r) here there, first, packed ∙ ap Some this))
      (λ still. let none = still.1 at i in absurd (omega (arith, none, above)))
      (moves_or_not place)

  -- so this holds if units of a bucket are in transit
  pub in_transit : (at i : ℕ) → 0 < transit_of state.actors at i → Moves at i
  in_transit at i above =
      let (who, a, there, counts) = some_counts (λ (a : Actor). transit_at a.hand.place at i) state.actors above in
      moves who a at i a.hand.place (kept.standing who a there) counts

pub transit_is_local : KeptTransitIsLocal
transit_is_local shape opened state kept at i above =
    let (r, here, first, packed) = in_transit shape opened state kept at i above in
    let one : opened.version ≡ 1 = sym kept.same.0 ∙ first in (
      one,
      ap packed_bucket (form_is shape state.words kept.anatomy kept.shown kept.anatomy.version at r here (kept.records.lawful at r here) opened.version)
          ∙ (ap (λ (v : ℕ). packed_bucket (form_at v r)) one ∙ packed),
    )
