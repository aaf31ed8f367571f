-- The inputs before it, then those of the sum, and then those of it that were not appended.
use Rattle.std.proofs.Common.{◌≤◌, ◌∙◌, arith}
use Rattle.std.proofs.lemmas.Result.{on_ok_weaker}
use Rattle.sum_commands.proofs.Taking.{may-more-taken, may-more-first, may-more-within}
use Rattle.sum_commands.proofs.summing.Summed.add_summed.Goals as goal

pub returns-clause-sum : goal.returns-clause-sum
returns-clause-sum g c =
    on_ok_weaker c.add_up_to-2.result
    (λ last behind before.
    last
    (may-more-taken (g.S.Source.are_whole c.args.source.now) (g.S.Source.may_be c.args.source.now) c.args.is_strict c.args.summed c.add_up_to.new.self c.append.new.self
    (c.in_ok-add_up_to.ensures.sum before) behind c.in_ok-append.ensures)) c.add_up_to-2.ensures.sum

pub returns-clause-first : goal.returns-clause-first
returns-clause-first g c =
    on_ok_weaker c.add_up_to-2.result
    (λ last. last ∙ (may-more-first c.args.is_strict c.args.summed c.add_up_to.new.self c.append.new.self c.in_ok-append.ensures ∙ c.in_ok-add_up_to.ensures.first))
    c.add_up_to-2.ensures.first

pub returns-clause-within : goal.returns-clause-within
returns-clause-within g c =
    on_ok_weaker c.add_up_to-2.result
    (λ last most start order end.
    let first : c.args.summed.first ≤ most = omega (arith, order, end) in
    last most
    (may-more-within c.args.is_strict c.args.summed c.add_up_to.new.self c.append.new.self most c.in_ok-append.ensures (c.in_ok-add_up_to.ensures.within most start first) end) end)
    c.add_up_to-2.ensures.within
