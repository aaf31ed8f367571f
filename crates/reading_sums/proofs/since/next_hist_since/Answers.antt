-- What is taken of the later list is what it has more than the earlier one; and what is refused has its reason.
use Rattle.std.proofs.lemmas.List.Elements.{All-contains}
use Rattle.std.proofs.lemmas.Result.{err_from_is_err_and}
use Rattle.reading_sums.specs.declared.hist.HistSum.{HistSum}
use Rattle.reading_sums.specs.Orders.{hist_cmp}
use Rattle.reading_sums.specs.Whole.{IsWholeHist}
use Rattle.reading_sums.proofs.HistOrder.{hist-total}
use Rattle.reading_sums.proofs.HistsWalk.{later-taken, both-taken, both-ordered, stands-between, first-of, alone-settled, both-settled, alone-reason, both-reason}
use Rattle.reading_sums.proofs.Nexts.{heads}
use Rattle.reading_sums.proofs.Walk.{taken-later, taken-earlier}
use Rattle.reading_sums.proofs.since.next_hist_since.Goals as goal

pub returns-in_err-pass_over-in-Right-clause-refused : goal.returns-in_err-pass_over-in-Right-clause-refused
returns-in_err-pass_over-in-Right-clause-refused c =
    let p = err_from_is_err_and c.from_residual-in_err-pass_over-in-Right.result c.from_residual-in_err-pass_over-in-Right.ensures.1 in
    rw (p.1, p.2) (λ later earlier.
    let between = stands-between c.args.before.now c.args.later.now c.args.earlier.now c.index-earlier-0.result c.in-Right.ensures.0 c.index-earlier-0.is c.in-Right.ensures.1
    later.ascending earlier.ascending in
    alone-reason c.args.before.now c.args.later.now c.args.earlier.now c.index-earlier-0.result c.in_err-pass_over-in-Right.field-0.0 c.in-Right.ensures.0 c.index-earlier-0.is
    between (c.in_err-pass_over-in-Right.ensures.refused between))

pub returns-in_err-hist_since-in-Both-clause-refused : goal.returns-in_err-hist_since-in-Both-clause-refused
returns-in_err-hist_since-in-Both-clause-refused c =
    let p = err_from_is_err_and c.from_residual-in_err-hist_since-in-Both.result c.from_residual-in_err-hist_since-in-Both.ensures.1 in
    let x = c.index-later-0-in-Both.result in
    let e = c.index-earlier-0-in-Both.result in
    let some = c.in-Both.ensures.0 in
    let more = c.in-Both.ensures.1 in
    rw (p.1, p.2) (λ later earlier.
    both-reason c.args.before.now c.args.later.now c.args.earlier.now x e c.in_err-hist_since-in-Both.field-0.0 some more c.index-later-0-in-Both.is c.index-earlier-0-in-Both.is
    (heads (λ (h : HistSum). h.name.items) c.args.later.now c.args.earlier.now x e some more c.index-later-0-in-Both.is c.index-earlier-0-in-Both.is c.in-Both.ensures.2)
    (heads (λ (h : HistSum). h.spec) c.args.later.now c.args.earlier.now x e some more c.index-later-0-in-Both.is c.index-earlier-0-in-Both.is c.in-Both.ensures.3)
    (c.in_err-hist_since-in-Both.ensures.refused
    (All-contains IsWholeHist _ x later.whole (first-of c.args.before.now c.args.later.now x some c.index-later-0-in-Both.is))
    (All-contains IsWholeHist _ e earlier.whole (first-of c.args.before.now c.args.earlier.now e more c.index-earlier-0-in-Both.is))))

pub returns-in_ok-copy_of-in-Left-clause-since : goal.returns-in_ok-copy_of-in-Left-clause-since
returns-in_ok-copy_of-in-Left-clause-since c =
    later-taken c.args.later.now c.index-later-0.result c.in_ok-copy_of-in-Left.field-0 c.in-Left.ensures.0 c.index-later-0.is c.in_ok-copy_of-in-Left.ensures

pub returns-in_ok-copy_of-in-Left-clause-ordered : goal.returns-in_ok-copy_of-in-Left-clause-ordered
returns-in_ok-copy_of-in-Left-clause-ordered c = taken-later hist-total c.args.later.now c.args.earlier.now c.in-Left.ensures.0 c.in-Left.ensures.1

pub returns-in_ok-pass_over-in-Right-clause-ordered : goal.returns-in_ok-pass_over-in-Right-clause-ordered
returns-in_ok-pass_over-in-Right-clause-ordered c = taken-earlier hist_cmp c.args.later.now c.args.earlier.now c.in-Right.ensures.0

pub returns-in_ok-pass_over-in-Right-clause-settled : goal.returns-in_ok-pass_over-in-Right-clause-settled
returns-in_ok-pass_over-in-Right-clause-settled c = λ later earlier.
    let between = stands-between c.args.before.now c.args.later.now c.args.earlier.now c.index-earlier-0.result c.in-Right.ensures.0 c.index-earlier-0.is c.in-Right.ensures.1
    later earlier in
    alone-settled _ c.args.earlier.now c.index-earlier-0.result c.in-Right.ensures.0 c.index-earlier-0.is
    (c.in_ok-pass_over-in-Right.ensures.unnamed between) c.in_ok-pass_over-in-Right.ensures.nothing

pub returns-in_ok-hist_since-in-Both-clause-since : goal.returns-in_ok-hist_since-in-Both-clause-since
returns-in_ok-hist_since-in-Both-clause-since c =
    let x = c.index-later-0-in-Both.result in
    let e = c.index-earlier-0-in-Both.result in
    let some = c.in-Both.ensures.0 in
    let more = c.in-Both.ensures.1 in
    both-taken c.args.later.now c.args.earlier.now x e c.in_ok-hist_since-in-Both.field-0 some more c.index-later-0-in-Both.is c.index-earlier-0-in-Both.is
    (heads (λ (h : HistSum). h.name.items) c.args.later.now c.args.earlier.now x e some more c.index-later-0-in-Both.is c.index-earlier-0-in-Both.is c.in-Both.ensures.2)
    (heads (λ (h : HistSum). h.spec) c.args.later.now c.args.earlier.now x e some more c.index-later-0-in-Both.is c.index-earlier-0-in-Both.is c.in-Both.ensures.3)
    c.in_ok-hist_since-in-Both.ensures.since

pub returns-in_ok-hist_since-in-Both-clause-ordered : goal.returns-in_ok-hist_since-in-Both-clause-ordered
returns-in_ok-hist_since-in-Both-clause-ordered c =
    both-ordered c.args.later.now c.args.earlier.now c.in-Both.ensures.0 c.in-Both.ensures.1 c.in-Both.ensures.2 c.in-Both.ensures.3

pub returns-in_ok-hist_since-in-Both-clause-settled : goal.returns-in_ok-hist_since-in-Both-clause-settled
returns-in_ok-hist_since-in-Both-clause-settled c = λ later earlier.
    let x = c.index-later-0-in-Both.result in
    let e = c.index-earlier-0-in-Both.result in
    let some = c.in-Both.ensures.0 in
    let more = c.in-Both.ensures.1 in
    both-settled c.args.before.now c.args.later.now c.args.earlier.now x e c.in_ok-hist_since-in-Both.field-0 some more c.index-later-0-in-Both.is c.index-earlier-0-in-Both.is
    (heads (λ (h : HistSum). h.name.items) c.args.later.now c.args.earlier.now x e some more c.index-later-0-in-Both.is c.index-earlier-0-in-Both.is c.in-Both.ensures.2)
    (heads (λ (h : HistSum). h.spec) c.args.later.now c.args.earlier.now x e some more c.index-later-0-in-Both.is c.index-earlier-0-in-Both.is c.in-Both.ensures.3)
    c.in_ok-hist_since-in-Both.ensures.since c.in_ok-hist_since-in-Both.ensures.short
