-- Names are equal if their order is.
use Rattle.std.proofs.Common.{sym, ◌∙◌, nat_cmp}
use Rattle.std.specs.Cmp.Lexicographic.{slice_cmp}
use Rattle.reading_sums.proofs.Orders.{lists-equal}
use Rattle.reading_sums.proofs.hist.by_name_and_spec.Goals as goal

pub returns-in-Equal-clause-name : goal.returns-in-Equal-clause-name
returns-in-Equal-clause-name c = λ e.
    lists-equal c.args.left.now.name.items c.args.right.now.name.items
    (sym (λ i. slice_cmp nat_cmp (c.as_slice.ensures.value i) (c.as_slice-2.ensures.value i)) ∙ sym c.in-Equal.ensures)
