use Rattle.std.proofs.Common.{◌∙◌, arith}
use Rattle.sum_texts.proofs.FieldLists.{one_more, none_left, word_is}
use Rattle.sum_texts.proofs.fields.segment_in.Goals as goal

pub returns-clause-found : goal.returns-clause-found
returns-clause-found c =
    let fields = c.args.fields.now in
    one_more fields 0 _ _ _ (omega arith) (word_is _ _ c.if-ne.ensures ∙ c.as_slice.ensures)
    (one_more fields 1 _ _ _ (omega arith) c.in_ok-number.ensures.found
    (one_more fields 2 _ _ _ (omega arith) c.in_ok-id.ensures.found (none_left fields 3 (omega arith))))
