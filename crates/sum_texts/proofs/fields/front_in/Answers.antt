use Rattle.std.proofs.Common.{◌∙◌, ap, sym, refl, arith}
use Rattle.std.specs.Int.{w128}
use Rattle.std.specs.Fmt.{signed_decimal}
use Rattle.std.proofs.lemmas.Int.{to_z-of_z}
use Rattle.std.proofs.lemmas.Option.{same_Some}
use Rattle.sum_texts.specs.Lines.{hist_fields}
use Rattle.sum_texts.proofs.FieldLists.{one_more, word_is, text_at}
use Rattle.sum_texts.proofs.fields.front_in.Goals as goal

pub returns-clause-found : goal.returns-clause-found
returns-clause-found c =
    let fields = c.args.fields.now in
    one_more fields 0 _ _ _ (omega arith) (word_is _ _ c.if-ne.ensures ∙ c.as_slice.ensures)
    (one_more fields 1 _ _ _ (omega arith) refl
    (one_more fields 2 _ _ _ (omega arith) c.in_ok-images.ensures.found
    (one_more fields 3 _ _ _ (omega arith) c.in_ok-least.ensures.found
    (one_more fields 4 _ _ _ (omega arith) (c.in_ok-sum.ensures.found ∙ ap signed_decimal (sym (to_z-of_z w128 c.in_ok-sum.sum c.in_ok-sum.ensures.fits)))
    (one_more fields 5 _ _ _ (omega arith) (c.in_ok-sum_mark.ensures.found ∙ ap signed_decimal (sym (to_z-of_z w128 c.in_ok-sum_mark.sum_mark c.in_ok-sum_mark.ensures.fits)))
    (one_more fields 6 _ _ _ (omega arith) c.in_ok-redundant.ensures.found refl))))))

pub returns-clause-only : goal.returns-clause-only
returns-clause-only c part fits is =
    let fields = c.args.fields.now in
    let texts = hist_fields part in
    let images = same_Some _ _ (sym c.in_ok-images.was ∙ c.number_in.ensures.only part.images fits.images (text_at fields texts 2 _ is (omega arith))) in
    let least = same_Some _ _ (sym c.in_ok-least.was ∙ c.number_in-2.ensures.only part.least fits.least (text_at fields texts 3 _ is (omega arith))) in
    let sum = same_Some _ _ (sym c.in_ok-sum.was ∙ c.amount_in.ensures.only part.sum fits.sum (text_at fields texts 4 _ is (omega arith))) in
    let sum_mark = same_Some _ _ (sym c.in_ok-sum_mark.was ∙ c.amount_in-2.ensures.only part.sum_mark fits.sum_mark (text_at fields texts 5 _ is (omega arith))) in
    let redundant = same_Some _ _ (sym c.in_ok-redundant.was ∙ c.number_in-3.ensures.only part.redundant fits.redundant (text_at fields texts 6 _ is (omega arith))) in (
      text_at fields texts 1 _ is (omega arith),
      images,
      least,
      to_z-of_z w128 c.in_ok-sum.sum c.in_ok-sum.ensures.fits ∙ sum,
      to_z-of_z w128 c.in_ok-sum_mark.sum_mark c.in_ok-sum_mark.ensures.fits ∙ sum_mark,
      redundant,
    )
