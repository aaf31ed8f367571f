use Rattle.std.proofs.Common.{◌∙◌, arith}
use Rattle.std.proofs.lemmas.Option.{IfSome_then}
use Rattle.sum_texts.proofs.FieldLists.{one_more, none_left, word_is}
use Rattle.sum_texts.proofs.fields.fold_in.Goals as goal

pub returns-clause-found : goal.returns-clause-found
returns-clause-found c =
    let fields = c.args.fields.now in
    IfSome_then c.number_in.result c.number_in.ensures.found (λ serial found.
    one_more fields 0 _ _ _ (omega arith) (word_is _ _ c.if-ne.ensures ∙ c.as_slice.ensures)
    (one_more fields 1 _ _ _ (omega arith) found (none_left fields 2 (omega arith))))
