-- What a step returns has its cause, and it keeps what holds of the list.
use Rattle.std.proofs.Common.{List, ℕ, ◌∙◌, ap}
use Rattle.list_core.specs.Publish.{Publishing, answer, IsStep, chain_after, StandsOn}
use Rattle.list_core.proofs.Steps.{is_step, goes_on, stray_cause, step_keeps, step_stands, other_stands, done_stop, no_stray}
use Rattle.list_core.proofs.publish.Publish.step.Goals as goal

-- what is known after the last call
stepped : (c : goal.After-answer) → IsStep c.args.self.now c.args.words.now c.go_on.new.self c.act-found.new.words c.answer.result
stepped c =
    is_step c.args.self.now c.go_on.new.self c.args.words.now c.act-found.new.words c.answer.result c.act-found.result c.requires.running
    c.act-found.ensures.words c.act-found.ensures.found c.go_on.ensures
    (c.answer.ensures ∙ ap (λ (p : Publishing). answer p.stage) c.self.view_is)

pub returns-clause-step : goal.returns-clause-step
returns-clause-step c = stepped c

pub returns-clause-more : goal.returns-clause-more
returns-clause-more c more = goes_on c.go_on.new.self c.answer.result (stepped c).answers more

pub returns-clause-stray : goal.returns-clause-stray
returns-clause-stray c stray =
    stray_cause c.args.self.now c.go_on.new.self c.args.words.now c.act-found.new.words c.answer.result (stepped c) stray

-- where the publish then is on a list
stands : (c : goal.After-answer) (chain : List ℕ) → StandsOn c.args.words.now chain c.args.self.now
    → StandsOn c.act-found.new.words (chain_after c.args.words.now chain c.args.self.now) c.go_on.new.self
stands c chain on =
    step_stands c.args.self.now c.go_on.new.self c.args.words.now c.act-found.new.words chain c.answer.result (stepped c) c.requires.reach on

pub returns-clause-list : goal.returns-clause-list
returns-clause-list c chain on = stands c chain on

pub returns-clause-others : goal.returns-clause-others
returns-clause-others c chain other on also within ne =
    other_stands c.args.self.now c.go_on.new.self other c.args.words.now c.act-found.new.words chain c.answer.result (stepped c) c.requires.reach on also within ne

pub returns-clause-tail : goal.returns-clause-tail
returns-clause-tail c chain on =
    (step_keeps c.args.self.now c.go_on.new.self c.args.words.now c.act-found.new.words chain c.answer.result (stepped c) c.requires.reach on).tail

pub returns-clause-done : goal.returns-clause-done
returns-clause-done c chain on done =
    done_stop c.go_on.new.self c.act-found.new.words (chain_after c.args.words.now chain c.args.self.now) c.answer.result (stands c chain on)
    (stepped c).answers done

pub returns-clause-lawful : goal.returns-clause-lawful
returns-clause-lawful c chain on =
    no_stray c.go_on.new.self c.act-found.new.words (chain_after c.args.words.now chain c.args.self.now) c.answer.result (stands c chain on) (stepped c).answers
