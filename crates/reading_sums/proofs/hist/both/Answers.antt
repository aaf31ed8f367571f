-- What two have together has the sum of everything that each has.
use Rattle.reading_sums.specs.declared.key.KeySum.{KeySum}
use Rattle.std.proofs.Common.{◌++◌, List, ◌∙◌, subst, sym, rules}
use mir.Val.{to_z, of_z}
use Rattle.std.specs.List.Sorted.{IsStrictlySortedBy}
use Rattle.bucket_ranges.specs.declared.spec.Spec.{Spec}
use Rattle.reading_sums.specs.Keys.{SameKeys}
use Rattle.reading_sums.specs.Orders.{key_cmp}
use Rattle.reading_sums.specs.Whole.{IsWholeList}
use Rattle.reading_sums.proofs.Values.{whole-both}
use mir.Syntax.{w128}
use Rattle.std.proofs.lemmas.Int.{to_z-of_z}
use Rattle.reading_sums.specs.Totals.{Part}
use Rattle.reading_sums.specs.Views.{part_of}
use Rattle.reading_sums.proofs.Totals.{quantities-both, features-both}
use Rattle.std.proofs.lemmas.Result.{err_from_is_err_and}
use Rattle.reading_sums.proofs.LongHists.{fault-keys}
use Rattle.reading_sums.proofs.hist.both.Goals as goal

pub returns-clause-both : goal.returns-clause-both
returns-clause-both c =
    let P : List KeySum → Type 0 = λ z. SameKeys c.in_ok-fitting_keys_of_both.field-0.items z in
    let keys : SameKeys c.in_ok-fitting_keys_of_both.field-0.items (c.args.left.now.keys.items ++ c.args.right.now.keys.items) =
    subst P (λ i. c.deref-2.ensures.value i ++ c.deref-3.ensures.value i) c.in_ok-fitting_keys_of_both.ensures.same in
    let both : Part = part_of record {
      name = c.in_ok-from_slice.field-0;
      spec = c.in_ok-copy_of_spec.field-0;
      keys = c.in_ok-fitting_keys_of_both.field-0;
      sum = to_z w128 (of_z w128 c.in_ok-amount_of_both.field-0);
      sum_mark = to_z w128 (of_z w128 c.in_ok-amount_of_both-2.field-0);
      redundant = c.in_ok-number_of_both.field-0;
      images = c.in_ok-number_of_both-2.field-0;
      least = c.min.result;
    } in record {
      name = search rules;
      spec = search rules;
      quantities = quantities-both (part_of c.args.left.now) (part_of c.args.right.now) both keys
          (to_z-of_z w128 c.in_ok-amount_of_both.field-0 c.in_ok-amount_of_both.ensures.fits ∙ c.in_ok-amount_of_both.ensures.sum)
          (to_z-of_z w128 c.in_ok-amount_of_both-2.field-0 c.in_ok-amount_of_both-2.ensures.fits ∙ c.in_ok-amount_of_both-2.ensures.sum)
          c.in_ok-number_of_both.ensures.sum c.in_ok-number_of_both-2.ensures.sum;
      features = features-both (part_of c.args.left.now) (part_of c.args.right.now) both keys c.min.ensures;
    }

pub returns-clause-whole : goal.returns-clause-whole
returns-clause-whole c = λ specs first second.
    let keys = c.in_ok-fitting_keys_of_both in
    let P : List KeySum → Type 0 = λ z. SameKeys keys.field-0.items z in
    let same : SameKeys keys.field-0.items (c.args.left.now.keys.items ++ c.args.right.now.keys.items) =
    subst P (λ i. c.deref-2.ensures.value i ++ c.deref-3.ensures.value i) keys.ensures.same in
    let one : IsStrictlySortedBy key_cmp c.deref-2.result.now = subst (IsStrictlySortedBy key_cmp) (sym c.deref-2.ensures.value) first.ascending in
    let other : IsStrictlySortedBy key_cmp c.deref-3.result.now = subst (IsStrictlySortedBy key_cmp) (sym c.deref-3.ensures.value) second.ascending in
    let Q : Spec → Type 0 = λ spec. IsWholeList spec keys.field-0.items in
    subst Q (sym c.in_ok-copy_of_spec.ensures)
    (whole-both c.args.left.now.spec c.args.right.now.spec c.args.left.now.keys.items c.args.right.now.keys.items keys.field-0.items specs first second
    same (keys.ensures.ordered one other) keys.ensures.small)

pub returns-in_err-fitting_keys_of_both-clause-too_many : goal.returns-in_err-fitting_keys_of_both-clause-too_many
returns-in_err-fitting_keys_of_both-clause-too_many c =
    let p = err_from_is_err_and c.from_residual-in_err-fitting_keys_of_both.result c.from_residual-in_err-fitting_keys_of_both.ensures.1 in
    rw (p.1, p.2) (fault-keys _ (part_of c.args.left.now) (part_of c.args.right.now) _ _ c.deref-2.ensures.value c.deref-3.ensures.value
    c.in_err-fitting_keys_of_both.ensures.too_many)
