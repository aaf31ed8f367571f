-- Two lists have the same values above 0 exactly if each has the other's.
use Rattle.std.proofs.Common.{sym, ◌∙◌}
use Rattle.std.proofs.lemmas.Bool.{both_ways}
use Rattle.bucket_ranges.proofs.SameSpecs.{same-distinct, distinct-has_values}
use Rattle.bucket_ranges.proofs.spec.have_same_values.Goals as goal

pub returns-then-has_values : goal.returns-then-has_values
returns-then-has_values c = (
  (λ e. same-distinct c.args.values.now c.args.others.now (sym c.has_values.ensures ∙ c.if-has_values.true)
      (sym c.has_values-then-has_values.ensures ∙ e)),
  (λ e. c.has_values-then-has_values.ensures ∙ distinct-has_values c.args.others.now c.args.values.now (sym e)),
)

pub returns-else-has_values : goal.returns-else-has_values
returns-else-has_values c = (
  (λ e. absurd (both_ways c.has_values.result c.if-has_values.false e)),
  (λ e. c.has_values.ensures ∙ distinct-has_values c.args.values.now c.args.others.now e),
)
