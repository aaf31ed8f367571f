-- What a step returns has its cause, and it keeps what holds of all allocations.
use Rattle.std.proofs.Common.{◌∙◌, ap, subst}
use Rattle.alloc_core.specs.Alloc.{Allocation, answer, IsStep, IsLawful}
use Rattle.alloc_core.proofs.Steps.{stepped, goes_on, full_cause, corrupt_cause, steps_keep, done_block}
use Rattle.alloc_core.proofs.alloc.Alloc.step.Goals as goal

-- what is known after the last call
is_step : (c : goal.After-answer) → IsStep c.args.self.now c.args.words.now c.go_on.new.self c.act-found.new.words c.answer.result
is_step c =
    stepped c.args.self.now c.go_on.new.self c.args.words.now c.act-found.new.words c.answer.result c.act-found.result c.requires.running
    c.act-found.ensures.words c.act-found.ensures.found c.go_on.ensures
    (c.answer.ensures ∙ ap (λ (a : Allocation). answer a.stage) c.self.view_is)

pub returns-clause-step : goal.returns-clause-step
returns-clause-step c = is_step c

pub returns-clause-more : goal.returns-clause-more
returns-clause-more c more = goes_on c.go_on.new.self c.answer.result (is_step c).answers more

pub returns-clause-full : goal.returns-clause-full
returns-clause-full c full =
    full_cause c.go_on.new.self c.answer.result (subst IsLawful c.self.view_is c.self.invariant) (is_step c).answers full

pub returns-clause-corrupt : goal.returns-clause-corrupt
returns-clause-corrupt c corrupt =
    corrupt_cause c.args.self.now c.go_on.new.self c.args.words.now c.act-found.new.words c.answer.result (is_step c) corrupt

pub returns-clause-keeps : goal.returns-clause-keeps
returns-clause-keeps c allocations owner mine keeps =
    steps_keep c.args.self.now c.go_on.new.self c.args.words.now c.act-found.new.words c.answer.result allocations owner (is_step c) mine keeps

pub returns-clause-done : goal.returns-clause-done
returns-clause-done c reference done allocations owner mine keeps =
    done_block c.args.self.now c.go_on.new.self c.args.words.now c.act-found.new.words c.answer.result reference allocations owner (is_step c) done mine keeps
