-- What all deltas took, once one of them has taken all that it saw, is at least what its recorder had accepted and seen.
use Rattle.segment_invariant.proofs.Prelude.Std.{◌≡◌, ◌≢◌, ℕ, ◌<◌, ℤ, ⊎_elim, arith, false, some, get_elem?, true, Contains}
use Rattle.segment_invariant.proofs.Prelude.Machine.{Dimensions, buckets_of, Spent, Actor, Known, has_buckets, is_opener, State}
use Rattle.segment_invariant.proofs.Prelude.Invariant.{Anatomy, Invariant}
use Rattle.bucket_ranges.specs.declared.spec.Spec.TheVariants as spec
use Rattle.segment_machine.specs.Note.{TookAll}
use Rattle.segment_invariant.specs.Consistent.{units_taken}
use Rattle.segment_invariant.proofs.Counting.Owed.{mark_taken, sample_taken}
use Rattle.segment_promises.specs.Deltas.{DeltasTakeAccepted}
use Rattle.segment_promises.proofs.Enough.{CoversBucket, CoversValue, knower_lives, buckets_enough, values_enough}

module _ (shape : Dimensions) (opened : Anatomy) (state : State) (kept : Invariant shape opened state) (id : ℕ) (a : Actor)
    (mine : get_elem? state.actors id ≡ some a) (records : is_opener a.role ≡ false) (known : Known) (has : Contains a.answers.names known) (took : TookAll a known) where
  lives : a.hand.place ≢ Spent
  lives = knower_lives shape opened state kept id a mine known has

  abbrev taken : ℤ → ℕ
  taken = units_taken state.actors known.name

  -- a bucket's total is at most a mark that was seen
  bucket_taken : has_buckets known.spec ≡ true → (i : ℕ) → i < buckets_of known.spec
      → CoversBucket shape opened state kept id a mine known has records taken i
  bucket_taken bucketed i below =
      let (total, seen, either) = took.buckets bucketed i below in (
        total,
        seen,
        ⊎_elim
            (λ none. omega (arith, none))
            (λ (at, mark, where_at, marked, le).
            let most = mark_taken shape opened state kept id a mine lives known i at mark has below where_at marked in
            omega (arith, le, most))
            either,
      )

  -- so is the count of a first sample
  value_taken : known.spec ≡ spec.Sparse → (value : ℤ) → CoversValue shape opened state kept id a mine known has records taken value
  value_taken sparse value at least first (met, sampled) owes =
      let (count, counted, either) = took.samples sparse value at met sampled in
      let le = owes count counted in
      ⊎_elim
      (λ none. omega (arith, le, none))
      (λ (mark, marked, below).
      let most = sample_taken shape opened state kept id a mine lives known value at has sparse first mark marked in
      omega (arith, le, below, most))
      either

pub deltas_take_accepted : DeltasTakeAccepted
deltas_take_accepted shape opened state who a known kept mine records has took = (
  λ bucketed. buckets_enough shape opened state kept who a mine known has records (units_taken state.actors known.name)
      (bucket_taken shape opened state kept who a mine records known has took bucketed),
  λ sparse. values_enough shape opened state kept who a mine known has records (units_taken state.actors known.name) sparse
      (value_taken shape opened state kept who a mine records known has took sparse),
)
