-- If a recorder is alone, each key of a histogram that is counted is that of one of its buckets, or the value of a sample that the recorder
-- visited.
use Rattle.segment_invariant.proofs.Prelude.Std.{◌≡◌, ◌≢◌, ◌⊎◌, ℕ, ◌<◌, ℤ, pos, true, false, ◌++◌, All, Contains, inl, inr, ⊎_elim, refl, sym, ap, ◌∙◌, subst, subst₂, arith, ◌==◌, Some, slice_index, All-contains, Contains-append_left, Contains-append_cases, some, get_elem?}
use Rattle.segment_invariant.proofs.Prelude.Machine.{Dimensions, Spec, buckets_of, spec_fields, boundaries_of, Actor, Known, Spent, is_of, tally_units, log_of, counted_of, has_buckets, bucket_key, accepted_by, all_counted, is_opener, SawSample, is_untouched, State}
use Rattle.segment_invariant.proofs.Prelude.Invariant.{Anatomy, IsFirst, IsFirstOf, IsRightlyKnown, IsAlone, HasKey, Invariant}
use Rattle.bucket_ranges.specs.declared.spec.Spec.TheVariants as spec
use Rattle.segment_invariant.proofs.Lists.Tallies.{tally_at}
use Rattle.segment_invariant.proofs.Consistency.Keys.{same_boundaries, same_buckets}
use Rattle.segment_invariant.proofs.Consistency.Books.{one_first}
use Rattle.segment_invariant.proofs.Consistency.Totals.{sparse_kind}
use Rattle.segment_invariant.proofs.Recorders.Alone.{counted_accepted}
use Rattle.segment_invariant.proofs.Recorders.Splits.{logged_counted}

-- a histogram has buckets, or it is sparse
pub bucketed_or_sparse : (kind : Spec) → (has_buckets kind ≡ true) ⊎ (kind ≡ spec.Sparse)
bucketed_or_sparse (spec.Linear min max n) = inl refl
bucketed_or_sparse spec.Boolean = inl refl
bucketed_or_sparse (spec.Custom values) = inl refl
bucketed_or_sparse spec.Sparse = inr refl

bucketed : (kind : Spec) (bucket : ℕ) → bucket < buckets_of kind → has_buckets kind ≡ true
bucketed kind bucket below = ⊎_elim
    (λ is. is)
    (λ sparse. let none_there = ap buckets_of sparse in absurd (omega (arith, below, none_there)))
    (bucketed_or_sparse kind)

-- a key is that of a bucket of a known histogram
abbrev pub IsBucketKey : Known → ℤ → Type 0
IsBucketKey known key =
    (has_buckets known.spec ≡ true) × ((bucket : ℕ) × (bucket < buckets_of known.spec) × (key ≡ bucket_key (Some known) bucket))

module _ (shape : Dimensions) (opened : Anatomy) (state : State) (kept : Invariant shape opened state) (id : ℕ) (a : Actor)
    (mine : get_elem? state.actors id ≡ some a) (records : is_opener a.role ≡ false) (lives : a.hand.place ≢ Spent) (alone : IsAlone state.actors a)
    (known : Known) (has : Contains a.answers.names known) (quiet : All (λ c. (is_of known.name c.entry ≡ false) ⊎ (is_untouched c ≡ true)) a.entries.running) where
  -- or the value of a sample that it visited
  abbrev pub IsMet : ℤ → Type 0
  IsMet key = (known.spec ≡ spec.Sparse)
      × ((at : ℕ) × IsFirstOf kept.anatomy.records known.reference key at × Contains a.seen.chain at × SawSample a.seen known.reference key at)

  pub counted_at : (key : ℤ) → 0 < tally_units (all_counted state.actors) known.name key → IsBucketKey known key ⊎ IsMet key
  counted_at key some_units =
      let fits = kept.each id a mine lives in
      let knows = All-contains (IsRightlyKnown kept.anatomy) a.answers.names known fits.names has in
      let (entry, among, named, keyed, units) = tally_at (all_counted state.actors) known.name key some_units in
      let (kind, at, first, place) = subst₂ (HasKey kept.anatomy.records) named keyed (kept.keys entry among units) in
      let (at_is, kind_is) = one_first shape opened state kept known.name kind knows.first_spec at known.reference first knows.first in
      ⊎_elim
      (λ (bucket, below, key_is).
      let many = ap buckets_of kind_is in
      let buckets = same_buckets knows.first_spec known.spec knows.same in
      let within : bucket < buckets_of known.spec = omega (arith, below, many, buckets) in
      let bounds : boundaries_of kind ≡ boundaries_of known.spec = ap boundaries_of kind_is ∙ same_boundaries knows.first_spec known.spec knows.same in
      inl (bucketed known.spec bucket within, (bucket, within, key_is ∙ (λ i. pos (slice_index (bounds i) bucket)))))
      (λ (sparse, spot, first_of).
      let fields : spec_fields known.spec ≡ spec_fields spec.Sparse = sym knows.same.0 ∙ ap spec_fields (sym kind_is ∙ sparse) in
      let accepted = counted_accepted shape opened state kept id a mine records lives alone known.name quiet key in
      let (e, there, of_name, of_key, more) = tally_at (accepted_by a) known.name key (omega (arith, accepted, some_units)) in
      let counted : Contains (a.entries.inherited ++ counted_of a) e = ⊎_elim
      (λ before. Contains-append_left a.entries.inherited (counted_of a) e before)
      (λ since. logged_counted a e fits.calls.ended since)
      (Contains-append_cases a.entries.inherited (log_of a) e there) in
      let met = fits.calls.met e known.reference counted more
      (subst₂ (λ name at. IsFirst kept.anatomy.records name spec.Sparse at) (sym of_name) at_is
      (subst (λ kind. IsFirst kept.anatomy.records known.name kind at) sparse first)) in
      inr (
        sparse_kind known.spec (ap (λ list. slice_index list 0 == 4) fields),
        subst (λ key. (at : ℕ) × IsFirstOf kept.anatomy.records known.reference key at × Contains a.seen.chain at × SawSample a.seen known.reference key at) of_key met,
      ))
      place
