-- None before it has that fault, and it does not have it either.
use Rattle.std.proofs.Common.{◌≡◌, ◌≢◌, true, false, List, length, take, subst, sym, ◌∙◌, arith}
use Rattle.std.specs.List.{All}
use Rattle.std.proofs.lemmas.List.{take_all}
use Rattle.std.proofs.lemmas.List.Elements.{All-more}
use Rattle.sum_commands.specs.declared.fault.InputFault.TheVariants.{TooMany}
use Rattle.sum_commands.specs.declared.summing.Left.{Left}
use Rattle.sum_commands.proofs.summing.Summed.has_too_many.Goals as goal
use Rattle.sum_commands.proofs.summing.Summed.has_too_many.Goals.{in-TooMany, in_default}

true-not-false : true ≡ false → ⊥
true-not-false wrong = absurd (cc)

abbrev IsOther : Left → Type 0
IsOther left = left.fault ≢ TooMany

pub loop-left-preserved : goal.loop-left-preserved
loop-left-preserved c =
    All-more IsOther c.deref-left-items.result.now c.loop-left.left-index c.left-item.result c.loop-left-test.true c.loop-left.invariant
    (subst IsOther c.left-item.is (elim c.match-matches.branch [ in-TooMany w ↦ λ e. absurd (true-not-false (sym w.matches-is ∙ c.if-matches.false)) | in_default w ↦ w.in_default.not-TooMany ]))

pub returns : goal.returns
returns c = λ none.
    subst (All IsOther) (take_all c.loop-left.left-index c.deref-left-items.result.now (omega (arith, c.loop-left-test.false)) ∙ c.deref-left-items.ensures.value)
    c.loop-left.invariant
