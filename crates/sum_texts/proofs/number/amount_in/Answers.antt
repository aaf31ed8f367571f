use Rattle.std.proofs.Common.{◌∙◌, Some, ap, sym, suc, arith}
use Rattle.std.proofs.lemmas.Option.{none-some, same_Some}
use Rattle.sum_texts.proofs.Numbers.{below_zero, less_a_size}
use Rattle.sum_texts.proofs.number.amount_in.Goals as goal

pub returns-in_err-size-in-45-clause-only : goal.returns-in_err-size-in-45-clause-only
returns-in_err-size-in-45-clause-only c amount fits is =
    let below = below_zero c.args.field.now amount (omega arith) is fits in
    absurd (none-some (suc below.0) (sym c.in_err-size-in-45.was ∙ c.size_in.ensures.only (suc below.0) (omega (arith, below.2)) below.3))

pub returns-then-size-eq0-clause-only : goal.returns-then-size-eq0-clause-only
returns-then-size-eq0-clause-only c amount fits is =
    let below = below_zero c.args.field.now amount (omega arith) is fits in
    let size = same_Some _ _ (sym c.in_ok-size-in-45.was ∙ c.size_in.ensures.only (suc below.0) (omega (arith, below.2)) below.3) in
    absurd (omega (arith, size, c.if-size-eq0.true))

pub returns-else-size-eq0-clause-only : goal.returns-else-size-eq0-clause-only
returns-else-size-eq0-clause-only c amount fits is =
    let below = below_zero c.args.field.now amount (omega arith) is fits in
    let size = same_Some _ _ (sym c.in_ok-size-in-45.was ∙ c.size_in.ensures.only (suc below.0) (omega (arith, below.2)) below.3) in
    less_a_size c.in_ok-size-in-45.size below.0 c.checked_sub_unsigned.result size below.2 c.checked_sub_unsigned.ensures ∙ ap Some (sym below.1)
