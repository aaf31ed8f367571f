use Rattle.std.proofs.Common.{refl, arith}
use Rattle.segment_machine.specs.Examples.{letter_a, packed_segment}
use Rattle.segment_invariant.proofs.Examples.OneRecord.{the_one}
use Rattle.segment_invariant.proofs.laws.marks_break.Goals as goal

pub returns : goal.returns
returns c marks =
    let e = (marks.buckets letter_a 16 1 (the_one (packed_segment 4294967298 2 2 2 2) letter_a refl refl) refl (omega arith)).0 in
    absurd (omega (arith, e))
