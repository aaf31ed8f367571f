-- The least of both lists has what is taken of them.
use Rattle.reading_sums.specs.Views.{part_of}
use Rattle.reading_sums.proofs.HistOrder.{left-hist, right-hist, both-hist, first-has, copy-whole}
use Rattle.reading_sums.proofs.Nexts.{right-next, both-next, heads}
use Rattle.reading_sums.specs.declared.hist.HistSum.{HistSum}
use Rattle.reading_sums.specs.Whole.{IsInRange, IsWholeHist}
use Rattle.reading_sums.proofs.Alike.{copy-range}
use Rattle.std.proofs.lemmas.Result.{err_from_is_err_and}
use Rattle.reading_sums.proofs.LongHists.{firsts-long}
use Rattle.reading_sums.proofs.hist.next_hist.Goals as goal

pub returns-in_ok-copy_of-in-Right-clause-same : goal.returns-in_ok-copy_of-in-Right-clause-same
returns-in_ok-copy_of-in-Right-clause-same c =
    right-next c.args.left.now c.args.right.now c.index-right-0.result (part_of c.in_ok-copy_of-in-Right.field-0)
    c.in-Right.ensures.0 c.index-right-0.is c.in_ok-copy_of-in-Right.ensures

pub returns-in_ok-both-in-Both-clause-same : goal.returns-in_ok-both-in-Both-clause-same
returns-in_ok-both-in-Both-clause-same c =
    both-next c.args.left.now c.args.right.now c.index-left-0-in-Both.result c.index-right-0-in-Both.result (part_of c.in_ok-both-in-Both.field-0)
    c.in-Both.ensures.0 c.in-Both.ensures.1 c.index-left-0-in-Both.is c.index-right-0-in-Both.is
    (heads (λ (h : HistSum). h.name.items) c.args.left.now c.args.right.now c.index-left-0-in-Both.result c.index-right-0-in-Both.result c.in-Both.ensures.0 c.in-Both.ensures.1 c.index-left-0-in-Both.is c.index-right-0-in-Both.is c.in-Both.ensures.2)
    (heads (λ (h : HistSum). h.spec) c.args.left.now c.args.right.now c.index-left-0-in-Both.result c.index-right-0-in-Both.result c.in-Both.ensures.0 c.in-Both.ensures.1 c.index-left-0-in-Both.is c.index-right-0-in-Both.is c.in-Both.ensures.3) c.in_ok-both-in-Both.ensures.both

pub returns-in_ok-copy_of-in-Left-clause-ordered : goal.returns-in_ok-copy_of-in-Left-clause-ordered
returns-in_ok-copy_of-in-Left-clause-ordered c =
    left-hist c.args.left.now c.args.right.now c.index-left-0.result c.in_ok-copy_of-in-Left.field-0 c.in-Left.ensures.0 c.index-left-0.is c.in_ok-copy_of-in-Left.ensures c.in-Left.ensures.1

pub returns-in_ok-copy_of-in-Right-clause-ordered : goal.returns-in_ok-copy_of-in-Right-clause-ordered
returns-in_ok-copy_of-in-Right-clause-ordered c =
    right-hist c.args.left.now c.args.right.now c.index-right-0.result c.in_ok-copy_of-in-Right.field-0 c.in-Right.ensures.0 c.index-right-0.is c.in_ok-copy_of-in-Right.ensures c.in-Right.ensures.1

pub returns-in_ok-both-in-Both-clause-ordered : goal.returns-in_ok-both-in-Both-clause-ordered
returns-in_ok-both-in-Both-clause-ordered c =
    both-hist c.args.left.now c.args.right.now c.index-left-0-in-Both.result c.index-right-0-in-Both.result c.in_ok-both-in-Both.field-0
    c.in-Both.ensures.0 c.in-Both.ensures.1 c.index-left-0-in-Both.is c.index-right-0-in-Both.is
    (heads (λ (h : HistSum). h.name.items) c.args.left.now c.args.right.now c.index-left-0-in-Both.result c.index-right-0-in-Both.result c.in-Both.ensures.0 c.in-Both.ensures.1 c.index-left-0-in-Both.is c.index-right-0-in-Both.is c.in-Both.ensures.2)
    (heads (λ (h : HistSum). h.spec) c.args.left.now c.args.right.now c.index-left-0-in-Both.result c.index-right-0-in-Both.result c.in-Both.ensures.0 c.in-Both.ensures.1 c.index-left-0-in-Both.is c.index-right-0-in-Both.is c.in-Both.ensures.3)
    c.in_ok-both-in-Both.ensures.both.name c.in_ok-both-in-Both.ensures.both.spec

pub returns-in_ok-copy_of-in-Left-clause-whole : goal.returns-in_ok-copy_of-in-Left-clause-whole
returns-in_ok-copy_of-in-Left-clause-whole c = λ first second.
    copy-whole c.in_ok-copy_of-in-Left.field-0 c.index-left-0.result c.in_ok-copy_of-in-Left.ensures
    (first-has IsWholeHist c.args.left.now c.index-left-0.result c.in-Left.ensures.0 c.index-left-0.is first)

pub returns-in_ok-copy_of-in-Right-clause-whole : goal.returns-in_ok-copy_of-in-Right-clause-whole
returns-in_ok-copy_of-in-Right-clause-whole c = λ first second.
    copy-whole c.in_ok-copy_of-in-Right.field-0 c.index-right-0.result c.in_ok-copy_of-in-Right.ensures
    (first-has IsWholeHist c.args.right.now c.index-right-0.result c.in-Right.ensures.0 c.index-right-0.is second)

pub returns-in_ok-both-in-Both-clause-whole : goal.returns-in_ok-both-in-Both-clause-whole
returns-in_ok-both-in-Both-clause-whole c = λ first second.
    c.in_ok-both-in-Both.ensures.whole
    (heads (λ (h : HistSum). h.spec) c.args.left.now c.args.right.now c.index-left-0-in-Both.result c.index-right-0-in-Both.result c.in-Both.ensures.0 c.in-Both.ensures.1 c.index-left-0-in-Both.is c.index-right-0-in-Both.is c.in-Both.ensures.3)
    (first-has IsWholeHist c.args.left.now c.index-left-0-in-Both.result c.in-Both.ensures.0 c.index-left-0-in-Both.is first)
    (first-has IsWholeHist c.args.right.now c.index-right-0-in-Both.result c.in-Both.ensures.1 c.index-right-0-in-Both.is second)

pub returns-in_ok-copy_of-in-Left-clause-range : goal.returns-in_ok-copy_of-in-Left-clause-range
returns-in_ok-copy_of-in-Left-clause-range c = λ first second.
    copy-range c.in_ok-copy_of-in-Left.field-0 c.index-left-0.result c.in_ok-copy_of-in-Left.ensures
    (first-has IsInRange c.args.left.now c.index-left-0.result c.in-Left.ensures.0 c.index-left-0.is first)

pub returns-in_ok-copy_of-in-Right-clause-range : goal.returns-in_ok-copy_of-in-Right-clause-range
returns-in_ok-copy_of-in-Right-clause-range c = λ first second.
    copy-range c.in_ok-copy_of-in-Right.field-0 c.index-right-0.result c.in_ok-copy_of-in-Right.ensures
    (first-has IsInRange c.args.right.now c.index-right-0.result c.in-Right.ensures.0 c.index-right-0.is second)

pub returns-in_err-both-in-Both-clause-too_many : goal.returns-in_err-both-in-Both-clause-too_many
returns-in_err-both-in-Both-clause-too_many c =
    let p = err_from_is_err_and c.from_residual-in_err-both-in-Both.result c.from_residual-in_err-both-in-Both.ensures.1 in
    let x = c.index-left-0-in-Both.result in
    let y = c.index-right-0-in-Both.result in
    let some = c.in-Both.ensures.0 in
    let more = c.in-Both.ensures.1 in
    rw (p.1, p.2) (firsts-long _ c.args.left.now c.args.right.now x y some more c.index-left-0-in-Both.is c.index-right-0-in-Both.is
    (heads (λ (h : HistSum). h.name.items) c.args.left.now c.args.right.now x y some more c.index-left-0-in-Both.is c.index-right-0-in-Both.is c.in-Both.ensures.2)
    (heads (λ (h : HistSum). h.spec) c.args.left.now c.args.right.now x y some more c.index-left-0-in-Both.is c.index-right-0-in-Both.is c.in-Both.ensures.3)
    c.in_err-both-in-Both.ensures.too_many)
