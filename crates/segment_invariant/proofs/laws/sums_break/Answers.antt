use Rattle.segment_invariant.proofs.Prelude.Std.{refl, ap, arith, unsigned_abs}
use Rattle.segment_machine.specs.Examples.{letter_a, packed_segment}
use Rattle.segment_invariant.proofs.Examples.OneRecord.{the_one}
use Rattle.segment_invariant.proofs.laws.sums_break.Goals as goal

pub returns : goal.returns
returns c sums =
    let e = ap unsigned_abs (sums.sum letter_a 16 (the_one (packed_segment 4294967297 0 0 0 1) letter_a refl refl)) in
    absurd (omega (arith, e))
