-- The units that are read of a histogram in a kept state: of each key those that were counted, less those in transit.
use Rattle.segment_invariant.proofs.Prelude.Std.{◌≡◌, Bool, true, false, if◌then◌else◌, ℕ, ◌<◌, ℤ, pos, List, ⊎_elim, refl, sym, ap, subst, ◌∙◌, arith, Option, Some, slice_index, bytes_eq, int_eq, Decides-int_eq, bytes_eq-Decides, some, none, get_elem?}
use Rattle.segment_invariant.proofs.Prelude.Machine.{Dimensions, Spec, boundaries_of, packed_bucket, Histogram, spec_of, record_single, Actor, Known, Place, bucket_key, State}
use Rattle.segment_invariant.proofs.Prelude.Invariant.{Record, histogram, Anatomy, form_at, key_of_bucket, moving_at, HasRecord, IsFirst, StandsRight, Invariant}
use Rattle.segment_invariant.specs.Ledger.{moving_of, all_moving}
use Rattle.segment_invariant.proofs.Lists.FewTerms.{some_counts}
use Rattle.segment_invariant.proofs.Frames.OneActor.{moves_or_not}
use Rattle.segment_invariant.proofs.Blocks.Pieces.{one_stands}
use Rattle.segment_invariant.proofs.Consistency.Books.{one_first}
use Rattle.segment_invariant.proofs.Consistency.Keys.{same_boundaries}
use Rattle.segment_invariant.proofs.Consistency.Specs.{form_is, boundaries_are}
use Rattle.segment_invariant.proofs.Consistency.Totals.{moving_known}
use Rattle.segment_promises.specs.Reads.{units_read, ReadsUnits}
use Rattle.segment_promises.proofs.Readings.Buckets.{units_of_key}
use Rattle.segment_promises.proofs.Readings.Entries.{all_ended, all_begun}

-- if two tests let a number through, both are passed
both_pass : (b t : Bool) (n : ℕ) → 0 < (if b then (if t then n else 0) else 0) → (b ≡ true) × (t ≡ true)
both_pass true true n above = (refl, refl)
both_pass true false n above = absurd (omega (arith, above))
both_pass false t n above = absurd (omega (arith, above))

module _ (shape : Dimensions) (opened : Anatomy) (state : State) (kept : Invariant shape opened state) (at : ℕ) (r : Record)
    (has : HasRecord kept.anatomy.pieces at r) (kind : Spec) (first : IsFirst kept.anatomy.records r.name kind at) (specified : r.spec ≡ kind) where
  -- units of a key of its name that an actor moves are those of the packed bucket of its record, in version 1
  abbrev IsMoved : ℤ → Type 0
  IsMoved key =
      (kept.anatomy.version ≡ 1)
      × ((bucket : ℕ) × (packed_bucket (record_single 1 state.words at) ≡ Some bucket) × (key_of_bucket (spec_of state.words at) bucket ≡ key))

  moved : (who : ℕ) (a : Actor) (key : ℤ) → get_elem? state.actors who ≡ some a → 0 < moving_at a r.name key a.hand.place → IsMoved key
  moved who a key there above = ⊎_elim
      (λ (look, bucket, units, place).
      let stands = subst (StandsRight shape kept.anatomy who a) place (kept.standing who a there) in
      let (found, is, names_it, knows) = moving_known shape opened state kept r.name kind at r first has refl specified who a look bucket units there place in
      let (q, its, packs, off) = stands.5 in
      let passes = both_pass (bytes_eq found.name r.name) (int_eq (bucket_key (Some found) bucket) key) units
      (subst (λ (known : Option Known). 0 < moving_of r.name key known bucket units) is (subst (λ (place : Place). 0 < moving_at a r.name key place) place above)) in
      let named : found.name ≡ r.name = (bytes_eq-Decides found.name r.name).0 passes.0 in
      let same = one_first shape opened state kept r.name knows.first_spec kind found.reference at
      (subst (λ (name : List ℕ). IsFirst kept.anatomy.records name knows.first_spec found.reference) named knows.first) first in
      let here = subst (λ (at : ℕ). HasRecord kept.anatomy.pieces at q) (sym names_it ∙ same.0) its in
      let bodies : histogram q ≡ histogram r = (one_stands shape state.words kept.anatomy kept.shown at none none (histogram q) (histogram r) here has).1 in
      let equal : q ≡ r = cc bodies in
      let lawful = kept.records.lawful at r has in
      let bounds : boundaries_of (spec_of state.words at) ≡ boundaries_of found.spec =
      boundaries_are shape state.words kept.anatomy kept.shown kept.anatomy.version at r has lawful
      ∙ (ap boundaries_of (specified ∙ sym same.1) ∙ same_boundaries knows.first_spec found.spec knows.same) in (
        stands.1,
        (
          bucket,
          ap packed_bucket (form_is shape state.words kept.anatomy kept.shown kept.anatomy.version at r has lawful 1)
              ∙ subst (λ (q : Record). packed_bucket (form_at 1 q) ≡ Some bucket) equal packs,
          ap (λ (boundaries : List ℕ). pos (slice_index boundaries bucket)) bounds ∙ (Decides-int_eq (bucket_key (Some found) bucket) key).0 passes.1,
        ),
      ))
      (λ still. let none = still.0 a r.name key in absurd (omega (arith, none, above)))
      (moves_or_not a.hand.place)

  -- a histogram that lists what is held of each key has the units that were counted, less those in transit
  pub units_are_read : (h : Histogram) → h.reference ≡ at → h.name ≡ r.name → h.spec ≡ spec_of state.words at
      → ((key : ℤ) → units_read h key ≡ units_of_key kept.anatomy h.name key) → ReadsUnits opened.version state h
  units_are_read h place named its listed = record {
    counted = λ key.
        let units = listed key in
        let balance = kept.balanced.units h.name key in
        omega (arith, units, balance);
    ended = λ key.
        let units = listed key in
        let balance = kept.balanced.units h.name key in
        let ended = all_ended shape opened state kept h.name key in
        omega (arith, units, balance, ended);
    begun = λ key.
        let units = listed key in
        let balance = kept.balanced.units h.name key in
        let begun = all_begun shape opened state kept h.name key in
        omega (arith, units, balance, begun);
    local = λ key above.
        let (who, a, there, moves) = some_counts (λ (a : Actor). moving_at a r.name key a.hand.place) state.actors
        (subst (λ (name : List ℕ). 0 < all_moving name key state.actors) named above) in
        let (one, (bucket, packed, keyed)) = moved who a key there moves in (
          sym kept.same.0 ∙ one,
          (
            bucket,
            subst (λ (at : ℕ). packed_bucket (record_single 1 state.words at) ≡ Some bucket) (sym place) packed,
            ap (λ (spec : Spec). key_of_bucket spec bucket) its ∙ keyed,
          ),
        );
  }
