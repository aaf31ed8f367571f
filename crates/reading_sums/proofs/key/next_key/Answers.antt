-- The least key of both lists comes before what is left of them.
use Rattle.reading_sums.proofs.KeyOrder.{left-key, right-key, both-key}
use Rattle.std.proofs.lemmas.Result.{err_from_is_err_and}
use Rattle.reading_sums.proofs.LongKeys.{firsts-long}
use Rattle.reading_sums.proofs.key.next_key.Goals as goal

pub returns-in-Left-clause-ordered : goal.returns-in-Left-clause-ordered
returns-in-Left-clause-ordered c = left-key c.args.left.now c.args.right.now _ c.in-Left.ensures.0 c.in-Left.ensures.1

pub returns-in-Right-clause-ordered : goal.returns-in-Right-clause-ordered
returns-in-Right-clause-ordered c = right-key c.args.left.now c.args.right.now _ c.in-Right.ensures.0 c.in-Right.ensures.1

pub returns-in_ok-key_of_both-in-Both-clause-ordered : goal.returns-in_ok-key_of_both-in-Both-clause-ordered
returns-in_ok-key_of_both-in-Both-clause-ordered c =
    both-key c.args.left.now c.args.right.now c.in_ok-key_of_both-in-Both.field-0 _ c.in-Both.ensures.0 c.in-Both.ensures.1 c.in-Both.ensures.2
    c.in_ok-key_of_both-in-Both.ensures.both.value

pub returns-in_err-key_of_both-in-Both-clause-too_many : goal.returns-in_err-key_of_both-in-Both-clause-too_many
returns-in_err-key_of_both-in-Both-clause-too_many c =
    let p = err_from_is_err_and c.from_residual.result c.from_residual.ensures.1 in
    rw p.1 (firsts-long c.args.left.now c.args.right.now _ c.in-Both.ensures.0 c.in-Both.ensures.1 c.in-Both.ensures.2
    c.in_err-key_of_both-in-Both.ensures.too_many)
