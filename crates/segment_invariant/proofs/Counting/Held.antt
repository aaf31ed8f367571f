-- What a record and its counts block hold of a bucket is at most what was counted there, and so is what a sample holds of its value. So it
-- needs nobody's past: it holds of counts that an actor comes to know only now.
use Rattle.segment_invariant.proofs.Prelude.Std.{◌≡◌, ◌≢◌, ℕ, ◌+◌, ◌<◌, ◌≤◌, List, [], set, refl, sym, ap, ◌∙◌, arith, Bool, if◌then◌else◌, slice_index, Decides-int_eq, some, some-injective, get_elem?, set_else, sum_at_least, sum_beside}
use Rattle.segment_invariant.proofs.Prelude.Machine.{Dimensions, Spec, buckets_of, units_packed, all_counted, tally_units, State}
use Rattle.segment_invariant.proofs.Prelude.Invariant.{Record, Counts, Sample, Body, plain, histogram, counts, sample, Piece, Anatomy, form_at, key_of_bucket, keyed, units_held, all_held, HasRecord, HasCounts, HasSample, IsCountsOf, Invariant}
use Rattle.bucket_ranges.specs.declared.spec.Spec.TheVariants as spec
use Rattle.segment_invariant.proofs.Consistency.Keys.{packed_within, packed_units}
use Rattle.segment_invariant.proofs.Consistency.Sums.{of_mine}
use Rattle.segment_invariant.proofs.Consistency.Books.{keyed_one}

-- two blocks hold no more than all do
pub two_held : (holds : Body → ℕ) (pieces : List Piece) (j k : ℕ) (p q : Piece) → holds (plain []) ≡ 0
    → get_elem? pieces j ≡ some p → get_elem? pieces k ≡ some q → k ≢ j → holds p.body + holds q.body ≤ all_held holds pieces
two_held holds pieces j k p q silent there here apart =
    let blank : Piece = record { at = p.at; owner = p.owner; body = plain [] } in
    let rest = sum_beside (λ (piece : Piece). holds piece.body) pieces j p blank there in
    let least = sum_at_least (λ (piece : Piece). holds piece.body) (set pieces j blank) k q (set_else pieces j k blank apart ∙ here) in
    omega (arith, rest, least, silent)

-- a spec that has a bucket is not sparse
pub not_sparse : (kind : Spec) (bucket : ℕ) → bucket < buckets_of kind → kind ≢ spec.Sparse
not_sparse kind bucket below sparse = let none_there = ap buckets_of sparse in omega (arith, below, none_there)

module _ (shape : Dimensions) (opened : Anatomy) (state : State) (kept : Invariant shape opened state) where
  pub held_most : (at : ℕ) (r : Record) (c : Counts) (bucket : ℕ) → HasRecord kept.anatomy.pieces at r → HasCounts kept.anatomy.pieces r.counts c
      → IsCountsOf kept.anatomy.version at r c → bucket < buckets_of r.spec
      → slice_index c.units bucket + units_packed (form_at kept.anatomy.version r) bucket
      ≤ tally_units (all_counted state.actors) r.name (key_of_bucket r.spec bucket)
  held_most at r c bucket (j, there) (k, here) of_it below =
      let version : ℕ = kept.anatomy.version in
      let key = key_of_bucket r.spec bucket in
      let lawful = (kept.records.lawful at r (j, there)).lawful in
      let bucketed = not_sparse r.spec bucket below in
      let ledger = kept.balanced.units r.name key in
      let apart : k ≢ j = λ same.
      cc (ap (λ (p : Piece). p.body) (some-injective _ _ (sym here ∙ (ap (get_elem? kept.anatomy.pieces) same ∙ there)))) in
      let both = two_held (units_held version r.name key) kept.anatomy.pieces j k _ _ refl there here apart in
      let packed : units_held version r.name key (histogram r) ≡ units_packed (form_at version r) bucket =
      of_mine r.name r.name _ refl
      ∙ packed_units r.spec lawful bucketed bucket below (form_at version r) (λ b is. packed_within version (buckets_of r.spec) r.single b is) in
      let counted : units_held version r.name key (counts c) ≡ slice_index c.units bucket =
      of_mine c.name r.name _ of_it.named
      ∙ (ap (λ (kind : Spec). keyed kind key c.units) of_it.same ∙ keyed_one r.spec c.units bucket lawful bucketed of_it.units below) in
      omega (arith, ledger, both, packed, counted)

  -- what a sample has of its value was counted
  pub sample_most : (at : ℕ) (s : Sample) → HasSample kept.anatomy.pieces at s → s.units ≤ tally_units (all_counted state.actors) s.name s.value
  sample_most at s (k, there) =
      let one = sum_at_least (λ piece. units_held kept.anatomy.version s.name s.value piece.body) kept.anatomy.pieces k _ there in
      let held : units_held kept.anatomy.version s.name s.value (sample s) ≡ s.units =
      of_mine s.name s.name _ refl ∙ ap (λ (b : Bool). if b then s.units else 0) ((Decides-int_eq s.value s.value).1 refl) in
      let ledger = kept.balanced.units s.name s.value in
      omega (arith, one, held, ledger)
