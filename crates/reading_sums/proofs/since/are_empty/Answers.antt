use Rattle.std.proofs.Common.{pos, get_or, inl, inr, arith}
use Rattle.reading_sums.specs.declared.key.KeySum.{KeySum}
use Rattle.reading_sums.proofs.KeysSince.{at-element, at-nothing}
use Rattle.reading_sums.proofs.since.are_empty.Goals as goal

zero : KeySum
zero = record { value = pos 0; units = 0; marks = 0 }

pub loop-key-preserved : goal.loop-key-preserved
unfolding zero
loop-key-preserved c = λ value. (
  at-nothing (λ (key : KeySum). key.units) c.args.keys.now c.loop-key.key-index zero value c.loop-key-test.true (omega (arith, c.if-key-gt0.false)) (c.loop-key.invariant value).0,
  at-nothing (λ (key : KeySum). key.marks) c.args.keys.now c.loop-key.key-index zero value c.loop-key-test.true (omega (arith, c.if-key-gt0-2.false)) (c.loop-key.invariant value).1,
)

pub returns-then-key-gt0 : goal.returns-then-key-gt0
unfolding zero
returns-then-key-gt0 c =
    ((get_or c.args.keys.now c.loop-key.key-index zero).value, inl (omega (arith, c.if-key-gt0.true, at-element (λ (key : KeySum). key.units) c.args.keys.now c.loop-key.key-index zero c.loop-key-test.true)))

pub returns-then-key-gt0-2 : goal.returns-then-key-gt0-2
unfolding zero
returns-then-key-gt0-2 c =
    ((get_or c.args.keys.now c.loop-key.key-index zero).value, inr (omega (arith, c.if-key-gt0-2.true, at-element (λ (key : KeySum). key.marks) c.args.keys.now c.loop-key.key-index zero c.loop-key-test.true)))
