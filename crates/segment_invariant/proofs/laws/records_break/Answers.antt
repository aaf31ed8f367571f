use Rattle.segment_invariant.proofs.Prelude.Std.{ℕ, List, refl, ap, arith, slice_index}
use Rattle.bucket_ranges.specs.declared.spec.Spec.TheVariants as spec
use Rattle.segment_machine.specs.declared.actor.Made.TheVariants as made
use Rattle.segment_machine.specs.Examples.{letter_a}
use Rattle.segment_invariant.proofs.laws.records_break.Goals as goal

pub returns : goal.returns
returns c records =
    let held = records.made (record { reference = 16; made = made.Histogram letter_a spec.Boolean }) (0, omega arith, refl) in
    let e = ap (λ (name : List ℕ). slice_index name 0) held.2 in
    absurd (omega (arith, e))
