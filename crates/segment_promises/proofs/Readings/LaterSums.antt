-- The sum of a record and the sum mark that it had in an earlier state are no bad sums.
use Rattle.segment_invariant.proofs.Prelude.Std.{◌≡◌, ℕ, ◌||◌, ℤ, ◌-ℤ◌, false, unsigned_abs, inl, inr, refl, arith, w64, cast_signed, le-ltb}
use Rattle.segment_invariant.proofs.Prelude.Machine.{Dimensions, State, units_of}
use Rattle.segment_invariant.proofs.Prelude.Invariant.{Record, Anatomy, HasRecord, summed_cost, Invariant}
use Rattle.std.proofs.lemmas.List.Sums.{sum_by-le-sum_by}
use Rattle.bucket_ranges.specs.Reading.{is_bad_sum, is_beyond}
use Rattle.segment_invariant.specs.Rises.{SumsRise}
use Rattle.segment_invariant.proofs.Counting.Learned.{summed_least}
use Rattle.segment_invariant.proofs.Frames.SumsRise.{distance_through}
use Rattle.segment_promises.proofs.Readings.Records.{small}

module _ (shape : Dimensions) (opened : Anatomy) (start state : State) (kept : Invariant shape opened start) (next : Invariant shape opened state)
    (rise : SumsRise kept.anatomy.pieces next.anatomy.pieces start.actors state.actors) (at : ℕ) (r s : Record) (was : HasRecord kept.anatomy.pieces at r)
    (is : HasRecord next.anatomy.pieces at s) where
  abbrev sum : ℤ
  sum = cast_signed w64 s.sum

  abbrev mark : ℤ
  mark = cast_signed w64 r.sum_mark

  -- what was spent by the earlier state parts the sum from its mark there; what was spent since, the later sum from that one
  apart : is_beyond (sum -ℤ mark) ≡ false
  apart =
      let way = distance_through sum (cast_signed w64 r.sum) mark in
      let moved = rise.sums at r s was is in
      let near = kept.sums at r (cast_signed w64 r.sum) mark was (inr (inl refl)) (inr (inr (inl refl))) in
      let few = sum_by-le-sum_by (summed_cost r.name) units_of state.actors (summed_least r.name) in
      let pool = next.pool in
      le-ltb 9223372034707292160 (unsigned_abs (sum -ℤ mark)) (omega (arith, way, moved, near, few, pool))

  pub sums_near_later : is_bad_sum (cast_signed w64 s.sum) (cast_signed w64 r.sum_mark) ≡ false
  sums_near_later =
      λ i. small shape opened state next at s is sum (inr (inl refl)) i || small shape opened start kept at r was mark (inr (inr (inl refl))) i || apart i
