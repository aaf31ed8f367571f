use Rattle.std.proofs.Common.{◌<◌, ◌-◌, pos, length, arith}
use Rattle.std.proofs.lemmas.Int.{ints}
use Rattle.reading_sums.specs.declared.key.KeySum.{KeySum}
use Rattle.reading_sums.proofs.Buckets.{bucket-here}
use Rattle.reading_sums.proofs.check.are_buckets.Goals as goal

pub returns-then-keys-i : goal.returns-then-keys-i
returns-then-keys-i c = (
  λ e. absurd (cc),
  λ same.
      let zero : KeySum = record { value = pos 0; units = 0; marks = 0 } in
      let within : c.loop-i.i < length c.args.keys.now = omega (arith, c.loop-i-test.true) in
      let short : c.loop-i.i < length c.args.ranges.now - 1 = omega (arith, within, c.len.ensures, c.if-keys-len.false) in
      let here = bucket-here c.args.keys.now c.args.ranges.now c.loop-i.i (length c.args.ranges.now - 1) zero within short (omega arith) same in
      absurd (omega (arith, ints, c.if-keys-i.true, here, c.low.ensures.value)),
)
