-- The totals of a look count the calls that had ended at its first moment, and none that had not begun at its last.
use Rattle.segment_invariant.proofs.Prelude.Std.{◌≡◌, ◌≢◌, ℕ, ◌<◌, ◌≤◌, ℤ, List, ⊎_elim, refl, sym, ap, subst, ◌∙◌, arith}
use Rattle.segment_invariant.proofs.Prelude.Machine.{Dimensions, State, Spec, buckets_of, all_counted, tally_units, total_of}
use Rattle.segment_invariant.proofs.Prelude.Invariant.{Anatomy, Record, key_of_bucket, moving_at, HasRecord, IsFirst, StandsRight, Invariant}
use Rattle.std.specs.List.{flat_map}
use Rattle.std.proofs.Math.Decide.{dec_lt}
use Rattle.bucket_ranges.specs.declared.spec.Spec.TheVariants as spec
use Rattle.segment_machine.specs.Actor.{log_of}
use Rattle.segment_looks.specs.Looks.{counts_reference}
use Rattle.segment_invariant.specs.Ledger.{all_moving}
use Rattle.segment_invariant.proofs.Lists.FewTerms.{sum_none}
use Rattle.segment_invariant.proofs.Lists.Tallies.{tally_at}
use Rattle.segment_invariant.proofs.Frames.LaidOut.{laid_out}
use Rattle.segment_invariant.proofs.Frames.OneActor.{moves_or_not}
use Rattle.segment_invariant.proofs.Consistency.Books.{one_first}
use Rattle.segment_invariant.proofs.Consistency.Firsts.{record_of_first}
use Rattle.segment_invariant.proofs.Consistency.Totals.{total_held}
use Rattle.segment_promises.specs.Reads.{begun_of}
use Rattle.segment_promises.proofs.Readings.Entries.{all_ended, all_begun}
use Rattle.look_promises.specs.Images.{total_looked, LooksCountCalls}
use Rattle.look_promises.proofs.Moments.Runs.{kept_at, rises_at}
use Rattle.look_promises.proofs.Moments.Firsts.{first_on}
use Rattle.look_promises.proofs.Copies.ThreeCopies.{ThreeCopies, three_copies, seen_in}
use Rattle.look_promises.proofs.Copies.Following.{first_last}
use Rattle.look_promises.proofs.Amounts.Marks.{total_there}
use Rattle.look_promises.proofs.Amounts.Totals.{totals_between}

-- ---- a state of version 2

module _ (shape : Dimensions) (opened : Anatomy) (state : State) (kept : Invariant shape opened state) (two : kept.anatomy.version ≡ 2) where
  -- no units are in transit
  pub no_moving : (name : List ℕ) (key : ℤ) → all_moving name key state.actors ≡ 0
  no_moving name key = sum_none (λ a. moving_at a name key a.hand.place) state.actors (λ who a there _. ⊎_elim
      (λ moves.
      let (look, bucket, units, place) = moves in
      let stands = subst (StandsRight shape kept.anatomy who a) place (kept.standing who a there) in
      let one = stands.1 in
      absurd (omega (arith, one, two)))
      (λ still. still.0 a name key)
      (moves_or_not a.hand.place))

  -- a total is what was counted
  module _ (x : ℕ) (r : Record) (has : HasRecord kept.anatomy.pieces x r) (first : IsFirst kept.anatomy.records r.name r.spec x) (i : ℕ) (below : i < buckets_of r.spec) where
    bucketed : r.spec ≢ spec.Sparse
    bucketed sparse = let none = ap buckets_of sparse in omega (arith, none, below)

    pub counted_is : total_of 2 state.words x i ≡ tally_units (all_counted state.actors) r.name (key_of_bucket r.spec i)
    counted_is =
        let held = total_held shape opened state.words (laid_out shape opened state kept) r.name r.spec x r first has refl refl bucketed i below in
        let frozen = ap (λ (v : ℕ). total_of v state.words x i) two in
        let balance = kept.balanced.units r.name (key_of_bucket r.spec i) in
        let still = no_moving r.name (key_of_bucket r.spec i) in
        omega (arith, held, frozen, balance, still)

-- ---- a look

module _ (copies : ThreeCopies) where
  open copies use {run, shape, opened, at, first, last, two, three}
  open seen_in copies use {early, late}

  version_at : (m : ℕ) → (kept_at run m).anatomy.version ≡ 2
  version_at m = (kept_at run m).same.0 ∙ run.version

  module _ (x i : ℕ) (r : Record) (has : HasRecord late.anatomy.pieces x r) (its : IsFirst late.anatomy.records r.name r.spec x) (below : i < buckets_of r.spec) where
    abbrev key : ℤ
    key = key_of_bucket r.spec i

    abbrev total : ℕ
    total = total_looked two x (counts_reference two three x) (buckets_of r.spec) i

    -- what was counted at the last moment
    pub counted_most : total ≤ tally_units (all_counted (at last).actors) r.name key
    counted_most =
        let up = (totals_between copies x i r has below).1 _
        (total_there shape opened (at last) late (version_at last) x r has i below) in
        let counted = counted_is shape opened (at last) late (version_at last) x r has its i below in
        omega (arith, up, counted)

    pub begun : total ≤ tally_units (flat_map begun_of (at last).actors) r.name key
    begun = let counted = counted_most in let most = all_begun shape opened (at last) late r.name key in omega (arith, counted, most)

    -- if something was counted at the first moment, the record was the first of its name then
    pub some_counted : 0 < tally_units (all_counted (at first).actors) r.name key → tally_units (all_counted (at first).actors) r.name key ≤ total
    some_counted more =
        let (entry, among, named, keyed, some_units) = tally_at (all_counted (at first).actors) r.name key more in
        let (kind, place, here, by) = early.keys entry among some_units in
        let mine : IsFirst early.anatomy.records r.name kind place = subst (λ (name : List ℕ). IsFirst early.anatomy.records name kind place) named here in
        let (behind, longer) = (rises_at run first last (first_last copies)).records in
        let later : IsFirst late.anatomy.records r.name kind place = first_on early.anatomy.records late.anatomy.records behind longer r.name kind place mine in
        let (at_x, same) = one_first shape opened (at last) late r.name kind r.spec place x later its in
        let was : IsFirst early.anatomy.records r.name r.spec x = subst (λ (kind : Spec). IsFirst early.anatomy.records r.name kind x) same
        (subst (λ (place : ℕ). IsFirst early.anatomy.records r.name kind place) at_x mine) in
        let (q, (stands, called, specified)) = record_of_first shape opened (at first).words (laid_out shape opened (at first) early) r.name r.spec x was in
        let its_first : IsFirst early.anatomy.records q.name q.spec x = subst (λ (name : List ℕ). IsFirst early.anatomy.records name q.spec x) (sym called)
        (subst (λ (kind : Spec). IsFirst early.anatomy.records r.name kind x) (sym specified) was) in
        let inside : i < buckets_of q.spec = let many = ap buckets_of specified in omega (arith, many, below) in
        let counted = counted_is shape opened (at first) early (version_at first) x q stands its_first i inside in
        let up = (totals_between copies x i r has below).0 _
        (total_there shape opened (at first) early (version_at first) x q stands i inside) in
        let tally : tally_units (all_counted (at first).actors) q.name (key_of_bucket q.spec i) ≡ tally_units (all_counted (at first).actors) r.name key =
        (λ j. tally_units (all_counted (at first).actors) (called j) (key_of_bucket (specified j) i)) in
        omega (arith, counted, up, tally)

    pub ended : tally_units (flat_map log_of (at first).actors) r.name key ≤ total
    ended =
        let least = all_ended shape opened (at first) early r.name key in
        elim (dec_lt 0 (tally_units (all_counted (at first).actors) r.name key)) [
          | yes more ↦ let most = some_counted more in omega (arith, least, most)
          | no none ↦ omega (arith, least, none)
        ]

pub looks_count_calls : LooksCountCalls
looks_count_calls shape opened at first last moments one two three run loaded =
    let copies = three_copies shape opened at first last moments one two three run loaded in (
      kept_at copies.run last,
      λ reference i r has its below. (
        ended copies reference i r has its below,
        begun copies reference i r has its below,
      ),
    )
