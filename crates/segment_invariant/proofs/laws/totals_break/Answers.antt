use Rattle.std.proofs.Common.{[], ◌∷◌, refl, arith}
use Rattle.segment_machine.specs.Examples.{letter_a, mounted_segment}
use Rattle.segment_invariant.proofs.Examples.OneRecord.{the_one}
use Rattle.segment_invariant.proofs.laws.totals_break.Goals as goal

pub returns : goal.returns
returns c totals =
    let words = mounted_segment 4294967298 0 2 0 2 (0 ∷ 2 ∷ 0 ∷ 0 ∷ 0 ∷ 0 ∷ []) in
    let e = totals.buckets letter_a 16 1 (the_one words letter_a refl refl) refl (omega arith) in
    absurd (omega (arith, e))
