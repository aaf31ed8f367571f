-- A step keeps the places of its cursor and of others.
use Rattle.std.proofs.Common.{rules}
use Rattle.list_core.specs.Cursor.{IsStep}
use Rattle.list_core.proofs.Cursors.{step_goes, stands_on}
use Rattle.list_core.proofs.cursor.Cursor.step.Goals as goal

stepped : (c : goal.After-self-1) → IsStep c.args.self.now c.args.words.now c.args.shared.now c.after-self-inside.result c.act-found.new.shared c.said-said.result
stepped c = search rules

pub returns-clause-given : goal.returns-clause-given
returns-clause-given c chain given shared on =
    step_goes c.args.words.now chain given c.args.shared.now c.act-found.new.shared c.args.self.now c.after-self-inside.result c.said-said.result
    (stepped c) shared on

pub returns-clause-others : goal.returns-clause-others
returns-clause-others c chain given other on = stands_on chain given c.said-said.result other on
