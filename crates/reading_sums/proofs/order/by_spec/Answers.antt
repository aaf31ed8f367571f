-- Custom specs are equal if their values are.
use Rattle.std.proofs.Common.{◌≡◌, ap, sym, ◌∙◌}
use Rattle.std.proofs.Common.{nat_cmp}
use Rattle.std.specs.Cmp.Lexicographic.{slice_cmp}
use Rattle.bucket_ranges.specs.declared.spec.Spec.TheVariants.{Custom}
use Rattle.reading_sums.proofs.Orders.{equal-is, lists-equal}
use Rattle.reading_sums.proofs.order.by_spec.Goals as goal

pub returns-in-Custom-Custom-clause-same : goal.returns-in-Custom-Custom-clause-same
returns-in-Custom-Custom-clause-same c = λ e.
    let equal = equal-is c.cmp-in-Custom-Custom.result e in
    let same : c.in-Custom-Custom.values ≡ c.in-Custom-Custom.others =
    lists-equal c.in-Custom-Custom.values c.in-Custom-Custom.others
    (sym (λ i. slice_cmp nat_cmp (c.as_slice.ensures i) (c.as_slice-in-Custom-Custom.ensures i)) ∙ (sym c.cmp-in-Custom-Custom.ensures ∙ equal)) in
    c.in-Custom-Custom.is-0 ∙ (ap Custom same ∙ sym c.in-Custom-Custom.is-1)
