-- What a record, its counts and the calls that move its units have of a bucket is just what was counted there; so is what a sample has of
-- its value, and a redundant count of all units.
use Rattle.segment_invariant.proofs.Prelude.Std.{◌≡◌, ◌≢◌, ℕ, ◌+◌, ◌<◌, ℤ, pos, Bool, true, false, List, Some, ⊎_elim, refl, sym, ap, ◌∙◌, subst, arith, slice_index, sum_by, ◌==◌, ◌&&◌, if◌then◌else◌, eqb-true, and_parts, some, none, get_elem?}
use Rattle.segment_invariant.proofs.Prelude.Machine.{Dimensions, Spec, buckets_of, packed_bucket, units_packed, Actor, Known, Look, Place, Moving, bucket_key, all_counted, all_noted, cost_of, tally_units, tally_noted, State, units_in}
use Rattle.segment_invariant.proofs.Prelude.Invariant.{Record, Counts, Sample, Anatomy, sample, form_at, key_of_bucket, keyed, at_bucket, units_held, all_held, HasRecord, HasCounts, HasSample, IsFirst, IsFirstOf, IsRightlyKnown, IsCountsOf, Invariant}
use Rattle.std.specs.Prelude as std
use Rattle.bucket_ranges.specs.declared.spec.Spec.TheVariants as spec
use Rattle.segment_machine.specs.Actor.{transit_at, transit_of}
use Rattle.segment_invariant.proofs.Frames.LaidOut.{laid_out}
use Rattle.segment_invariant.proofs.Blocks.Pieces.{one_stands}
use Rattle.segment_invariant.proofs.Lists.FewTerms.{sum_none}
use Rattle.segment_invariant.proofs.Frames.OneActor.{moves_or_not}
use Rattle.segment_invariant.proofs.Consistency.Books.{units_book, bucket_alone, bucket_mounted, value_held, keyed_one, sample_first}
use Rattle.segment_invariant.proofs.Consistency.Firsts.{record_of_first, sample_of_first}
use Rattle.segment_invariant.proofs.Consistency.Keys.{packed_units, packed_within, same_boundaries, same_buckets}
use Rattle.segment_invariant.proofs.Consistency.Sums.{noted_is}
use Rattle.segment_invariant.proofs.Consistency.Totals.{moved_all, moved_none}
use Rattle.segment_invariant.proofs.Counting.Held.{not_sparse}

module _ (shape : Dimensions) (opened : Anatomy) (state : State) (kept : Invariant shape opened state) where
  abbrev version : ℕ
  version = kept.anatomy.version

  -- nothing of a bucket is in transit if nobody moves units of it
  pub rests : (at i : ℕ) → ((who : ℕ) (x : Actor) (look : Look) (units : ℕ) → get_elem? state.actors who ≡ some x → x.hand.place ≡ Moving look i units
      → look.histogram ≡ at → ⊥) → transit_of state.actors at i ≡ 0
  rests at i nobody = sum_none (λ x. transit_at x.hand.place at i) state.actors (λ who x there _. ⊎_elim
      (λ moves. let (look, bucket, units, place) = moves in
      ap (λ (place : Place). transit_at place at i) place
      ∙ by_test ((look.histogram == at) && (bucket == i)) units (λ both.
      let parts = and_parts (look.histogram == at) (bucket == i) both in
      let same : bucket ≡ i = eqb-true bucket i parts.1 in
      nobody who x look units there (place ∙ ap (λ (b : ℕ). Moving look b units) same) (eqb-true look.histogram at parts.0)))
      (λ still. still.1 at i)
      (moves_or_not x.hand.place))
    where
      by_test : (b : Bool) (units : ℕ) → (b ≡ true → ⊥) → (if b then units else 0) ≡ 0
      by_test true units nobody_does = absurd (nobody_does refl)
      by_test false units nobody_does = refl

  module _ (name : List ℕ) (kind : Spec) (at : ℕ) (r : Record) (first : IsFirst kept.anatomy.records name kind at) (has : HasRecord kept.anatomy.pieces at r)
      (named : r.name ≡ name) (specified : r.spec ≡ kind) (i : ℕ) (below : i < buckets_of r.spec) where
    abbrev key : ℤ
    key = key_of_bucket r.spec i

    bucketed : r.spec ≢ spec.Sparse
    bucketed = not_sparse r.spec i below

    packed : at_bucket r.spec key (packed_bucket (form_at version r)) (units_in (form_at version r)) ≡ units_packed (form_at version r) i
    packed = packed_units r.spec (kept.records.lawful at r has).lawful bucketed i below (form_at version r)
        (λ bucket is. packed_within version (buckets_of r.spec) r.single bucket is)

    moved : std.sum_by (λ (x : Actor). transit_at x.hand.place at i) state.actors + all_held (units_held version name key) kept.anatomy.pieces
        ≡ tally_units (all_counted state.actors) name key
    moved =
        let moving = moved_all shape opened state kept name kind at r first has named specified bucketed i below in
        let ledger = kept.balanced.units name key in
        omega (arith, moving, ledger)

    -- of a bucket, while no counts are mounted
    pub whole_alone : r.counts ≡ 0 → units_packed (form_at version r) i + transit_of state.actors at i ≡ tally_units (all_counted state.actors) name key
    whole_alone unmounted =
        let all = bucket_alone shape opened state.words (laid_out shape opened state kept) name kind at r first has named specified key _ _ _ _ (units_book version name key kept.versions) bucketed unmounted in
        omega (arith, all, packed, moved)

    -- and then
    pub whole_mounted : (c : Counts) → HasCounts kept.anatomy.pieces r.counts c → IsCountsOf version at r c
        → slice_index c.units i + units_packed (form_at version r) i + transit_of state.actors at i ≡ tally_units (all_counted state.actors) name key
    whole_mounted c mounted of_it =
        let all = bucket_mounted shape opened state.words (laid_out shape opened state kept) name kind at r first has named specified key _ _ _ _ (units_book version name key kept.versions) bucketed c mounted
        of_it.named in
        let one = ap (λ (kind : Spec). keyed kind key c.units) of_it.same
        ∙ keyed_one r.spec c.units i (kept.records.lawful at r has).lawful bucketed of_it.units below in
        omega (arith, all, packed, moved, one)

  -- of a value
  pub whole_sample : (of : ℕ) (value : ℤ) (at : ℕ) (s : Sample) → IsFirstOf kept.anatomy.records of value at → HasSample kept.anatomy.pieces at s
      → s.units ≡ tally_units (all_counted state.actors) s.name value
  whole_sample of value at s first has =
      let (t, (stands, of_it, valued)) = sample_of_first shape opened state.words (laid_out shape opened state kept) of value at first in
      let bodies : sample t ≡ sample s = (one_stands shape state.words kept.anatomy kept.shown at none none (sample t) (sample s) stands has).1 in
      let same : t ≡ s = cc bodies in
      let its : s.of ≡ of = sym (ap (λ (s : Sample). s.of) same) ∙ of_it in
      let is_value : s.value ≡ value = sym (ap (λ (s : Sample). s.value) same) ∙ valued in
      let record_first = subst (λ (at : ℕ). IsFirst kept.anatomy.records s.name spec.Sparse at) its (sample_first shape opened state.words (laid_out shape opened state kept) at s has) in
      let (r, (here, named, sparse)) = record_of_first shape opened state.words (laid_out shape opened state kept) s.name spec.Sparse of record_first in
      let held = value_held shape opened state.words (laid_out shape opened state kept) s.name spec.Sparse of r record_first here named sparse value _ _ _ _ (units_book version s.name value kept.versions)
      sparse at s first has its is_value in
      let moving = moved_none shape opened state kept s.name spec.Sparse of r record_first here named sparse sparse value in
      let ledger = kept.balanced.units s.name value in
      omega (arith, held, moving, ledger)

  -- of all units
  pub whole_noted : (name : List ℕ) (kind : Spec) (at : ℕ) (r : Record) → IsFirst kept.anatomy.records name kind at → HasRecord kept.anatomy.pieces at r
      → r.name ≡ name → r.noted ≡ cost_of kept.roles.opener.entries.first_noted name + tally_noted (all_noted state.actors) name
  whole_noted name kind at r first has named =
      let is = noted_is shape opened state.words (laid_out shape opened state kept) name kind at r first has named in
      let ledger = kept.balanced.noted name in
      let begun = kept.first_noted name in
      omega (arith, is, ledger, begun)

  -- what is known of a histogram: its record, the first of its name, and its buckets with their keys
  pub known_first : (known : Known) → IsRightlyKnown kept.anatomy known
      → (r : Record) × IsFirst kept.anatomy.records known.name r.spec known.reference × HasRecord kept.anatomy.pieces known.reference r × (r.name ≡ known.name)
      × (buckets_of r.spec ≡ buckets_of known.spec) × ((i : ℕ) → key_of_bucket r.spec i ≡ bucket_key (std.Some known) i)
  known_first known knows =
      let (r, (has, named, specified)) = record_of_first shape opened state.words (laid_out shape opened state kept) known.name knows.first_spec known.reference knows.first in (
        r,
        subst (λ (kind : Spec). IsFirst kept.anatomy.records known.name kind known.reference) (sym specified) knows.first,
        has,
        named,
        ap buckets_of specified ∙ same_buckets knows.first_spec known.spec knows.same,
        λ i. ap (λ (kind : Spec). key_of_bucket kind i) specified
            ∙ ap (λ (boundaries : List ℕ). pos (slice_index boundaries i)) (same_boundaries knows.first_spec known.spec knows.same),
      )
