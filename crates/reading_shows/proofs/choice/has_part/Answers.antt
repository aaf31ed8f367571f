use Rattle.std.proofs.Common.{◌∙◌, Bool, ℕ, drop, length, nat_eq, sym, ap, arith}
use Rattle.std.specs.List.{starts_with}
use Rattle.reading_shows.proofs.Steps.{any_in_range, none-more}
use Rattle.reading_shows.proofs.choice.has_part.Goals as goal

pub returns-then-starts_with : goal.returns-then-starts_with
returns-then-starts_with c =
    let test : ℕ → Bool = λ i. starts_with nat_eq (drop i c.args.name.now) c.args.part.now in
    let here = ap (λ rest. starts_with nat_eq rest c.args.part.now) (sym c.split_at.ensures.back) ∙ (sym c.starts_with.ensures.value ∙ c.if-starts_with.true) in
    sym (any_in_range test (length c.args.name.now) c.loop-i.i (omega (arith, c.loop-i-test.true)) here)

pub loop-i-preserved : goal.loop-i-preserved
loop-i-preserved c =
    let test : ℕ → Bool = λ i. starts_with nat_eq (drop i c.args.name.now) c.args.part.now in
    let here = ap (λ rest. starts_with nat_eq rest c.args.part.now) (sym c.split_at.ensures.back) ∙ (sym c.starts_with.ensures.value ∙ c.if-starts_with.false) in
    none-more test c.loop-i.i c.loop-i.invariant here
