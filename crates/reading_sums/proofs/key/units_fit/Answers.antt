use Rattle.std.proofs.Common.{◌<◌, ◌^◌, ◌+◌, ℕ, pos, List, length, get_or, ap, refl, sym, subst, arith, ◌∙◌}
use Rattle.std.proofs.lemmas.List.Elements.{All-more}
use Rattle.std.proofs.lemmas.List.Sums.{sum_by_more}
use Rattle.reading_sums.specs.declared.key.KeySum.{KeySum}
use Rattle.std.proofs.lemmas.List.{take_all}
use Rattle.reading_sums.specs.Whole.{units_of, AreMarksInRange}
use Rattle.reading_sums.proofs.key.units_fit.Goals as goal

zero : KeySum
zero = record { value = pos 0; units = 0; marks = 0 }

pub loop-key-preserved : goal.loop-key-preserved
unfolding zero
loop-key-preserved c =
    let keys : List KeySum = c.args.keys.now in
    let i : ℕ = c.loop-key.key-index in
    let within : i < length keys = omega (arith, c.loop-key-test.true) in (
      c.in-Some.ensures.sum
          ∙ (ap (λ n. n + (get_or keys i zero).units) c.loop-key.invariant.0 ∙ sym (sum_by_more (λ (key : KeySum). key.units) keys i zero within)),
      c.in-Some.ensures.fits,
      All-more (λ (key : KeySum). key.marks < 2 ^ 64) keys i zero within c.loop-key.invariant.2 c.units_with.ensures.range,
    )

pub returns-clause-fit : goal.returns-clause-fit
returns-clause-fit c = (
  λ e. subst (λ (n : ℕ). n < 2 ^ 64)
      (c.loop-key.invariant.0 ∙ ap units_of (take_all c.loop-key.key-index c.args.keys.now c.loop-key-test.false)) c.loop-key.invariant.1,
  λ e. refl,
)

pub returns-clause-range : goal.returns-clause-range
returns-clause-range c = λ e. subst AreMarksInRange (take_all c.loop-key.key-index c.args.keys.now c.loop-key-test.false) c.loop-key.invariant.2
