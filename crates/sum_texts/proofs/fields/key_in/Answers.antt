use Rattle.std.proofs.Common.{◌∙◌, ap, sym, arith, w32}
use Rattle.std.specs.Fmt.{signed_decimal}
use Rattle.std.proofs.lemmas.Int.{to_z-of_z}
use Rattle.sum_texts.proofs.FieldLists.{one_more, none_left, word_is}
use Rattle.sum_texts.proofs.fields.key_in.Goals as goal

pub returns-clause-found : goal.returns-clause-found
returns-clause-found c =
    let fields = c.args.fields.now in
    let value = c.in_ok-value.ensures.found ∙ ap signed_decimal (sym (to_z-of_z w32 c.in_ok-value.value c.in_ok-value.ensures.fits)) in
    one_more fields 0 _ _ _ (omega arith) (word_is _ _ c.if-ne.ensures ∙ c.as_slice.ensures)
    (one_more fields 1 _ _ _ (omega arith) value
    (one_more fields 2 _ _ _ (omega arith) c.in_ok-units.ensures.found
    (one_more fields 3 _ _ _ (omega arith) c.in_ok-marks.ensures.found (none_left fields 4 (omega arith)))))
