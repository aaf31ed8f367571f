use Rattle.std.proofs.Common.{ap, ◌∙◌, Some, Ok, subst, sym}
use Rattle.povundiri_c.specs.Mailbox.{IsKeeper}
use Rattle.povundiri_c.proofs.Passing.{keeper_2, keeps_1, laid, may_2, may_take_1, passes_in_err, passes_in_ok, refused, same_3, seats_2, IsLaid}
use Rattle.povundiri_c.proofs.mailbox.Mailbox.pass.Goals as goal

pub returns-in-Err-Some-clause-keeper : goal.returns-in-Err-Some-clause-keeper
returns-in-Err-Some-clause-keeper c =
    subst (IsKeeper c.args.self.now.table.shared.table_id c.args.self.now.table.shared.key)
    (sym (refused c.look-number.result.0 (Some c.args.recorder) c.in-Err-Some.field-0 c.args.keeper.now c.look-number.result.1 c.replace_by.new.keeper c.replace_by.new.seat c.requires.keeper.4 c.in-Err-Some.ensures).1)
    c.requires.keeper

pub returns-in-Err-Some-clause-passes : goal.returns-in-Err-Some-clause-passes
returns-in-Err-Some-clause-passes c =
    let it = refused c.look-number.result.0 (Some c.args.recorder) c.in-Err-Some.field-0 c.args.keeper.now c.look-number.result.1 c.replace_by.new.keeper c.replace_by.new.seat c.requires.keeper.4 c.in-Err-Some.ensures in
    (cc (sym c.in-Err-Some.field-0-is ∙ it.0), λ i. (it.1 i, c.args.gone.now))

pub take-met-requires-clause-may : goal.take-met-requires-clause-may
take-met-requires-clause-may c =
    let put : IsLaid c.look-number.result.0 c.args.recorder c.args.keeper.now c.look-number.result.1 c.replace_by.new.keeper c.replace_by.new.seat =
    laid c.look-number.result.0 c.args.recorder c.args.keeper.now c.look-number.result.1 c.replace_by.new.keeper c.replace_by.new.seat c.replace_by.result
    (c.in-Ok-None.is ∙ ap Ok c.in-Ok-None.field-0-is) c.replace_by.ensures in
    may_take_1 c.args.self.now.table.shared.table_id c.args.self.now.table.shared.key c.look-number.result.0 c.args.recorder c.args.keeper.now c.look-number.result.1
    c.replace_by.new.keeper c.replace_by.new.seat c.requires.keeper c.if-number-ne0.false c.if-number-ge-LAST.false put

pub take-met-requires-clause-keeper : goal.take-met-requires-clause-keeper
take-met-requires-clause-keeper c =
    let put : IsLaid c.look-number.result.0 c.args.recorder c.args.keeper.now c.look-number.result.1 c.replace_by.new.keeper c.replace_by.new.seat =
    laid c.look-number.result.0 c.args.recorder c.args.keeper.now c.look-number.result.1 c.replace_by.new.keeper c.replace_by.new.seat c.replace_by.result
    (c.in-Ok-None.is ∙ ap Ok c.in-Ok-None.field-0-is) c.replace_by.ensures in
    let kept = keeps_1 c.args.self.now.table.shared.table_id c.args.self.now.table.shared.key c.look-number.result.0 c.args.recorder c.args.keeper.now c.look-number.result.1
    c.replace_by.new.keeper c.replace_by.new.seat c.requires.keeper put in
    (kept.0, kept.1, kept.3)

pub replace_by-requires-2-clause-seats : goal.replace_by-requires-2-clause-seats
replace_by-requires-2-clause-seats c =
    let put : IsLaid c.look-number.result.0 c.args.recorder c.args.keeper.now c.look-number.result.1 c.replace_by.new.keeper c.replace_by.new.seat =
    laid c.look-number.result.0 c.args.recorder c.args.keeper.now c.look-number.result.1 c.replace_by.new.keeper c.replace_by.new.seat c.replace_by.result
    (c.in-Ok-None.is ∙ ap Ok c.in-Ok-None.field-0-is) c.replace_by.ensures in
    seats_2 c.args.from.now.table.shared.table_id c.args.self.now.table.shared.table_id c.args.self.now.table.shared.key c.look-number.result.0 c.args.recorder c.args.keeper.now
    c.look-number.result.1 c.replace_by.new.keeper c.replace_by.new.seat c.take-met.new.keeper c.take-met.result c.requires.keeper c.look-number.ensures.0 c.look-number.ensures.2 put c.take-met.ensures

pub returns-in-Ok-clause-keeper : goal.returns-in-Ok-clause-keeper
returns-in-Ok-clause-keeper c =
    let put : IsLaid c.look-number.result.0 c.args.recorder c.args.keeper.now c.look-number.result.1 c.replace_by.new.keeper c.replace_by.new.seat =
    laid c.look-number.result.0 c.args.recorder c.args.keeper.now c.look-number.result.1 c.replace_by.new.keeper c.replace_by.new.seat c.replace_by.result
    (c.in-Ok-None.is ∙ ap Ok c.in-Ok-None.field-0-is) c.replace_by.ensures in
    subst (IsKeeper c.args.self.now.table.shared.table_id c.args.self.now.table.shared.key)
    (sym (same_3 c.args.self.now.table.shared.table_id c.args.self.now.table.shared.key c.look-number.result.0 c.args.recorder c.args.keeper.now c.look-number.result.1 c.replace_by.new.keeper
    c.replace_by.new.seat c.take-met.new.keeper c.replace_by-2.new.keeper c.replace_by-2.new.seat c.take-met.result c.replace_by-2.result c.requires.keeper put c.take-met.ensures c.replace_by-2.ensures))
    (keeper_2 c.args.self.now.table.shared.table_id c.args.self.now.table.shared.key c.look-number.result.0 c.args.recorder c.args.keeper.now c.look-number.result.1 c.replace_by.new.keeper
    c.replace_by.new.seat c.take-met.new.keeper c.take-met.result c.requires.keeper put c.take-met.ensures)

pub returns-in-Err-clause-keeper : goal.returns-in-Err-clause-keeper
returns-in-Err-clause-keeper c =
    let put : IsLaid c.look-number.result.0 c.args.recorder c.args.keeper.now c.look-number.result.1 c.replace_by.new.keeper c.replace_by.new.seat =
    laid c.look-number.result.0 c.args.recorder c.args.keeper.now c.look-number.result.1 c.replace_by.new.keeper c.replace_by.new.seat c.replace_by.result
    (c.in-Ok-None.is ∙ ap Ok c.in-Ok-None.field-0-is) c.replace_by.ensures in
    subst (IsKeeper c.args.self.now.table.shared.table_id c.args.self.now.table.shared.key)
    (sym (same_3 c.args.self.now.table.shared.table_id c.args.self.now.table.shared.key c.look-number.result.0 c.args.recorder c.args.keeper.now c.look-number.result.1 c.replace_by.new.keeper
    c.replace_by.new.seat c.take-met.new.keeper c.replace_by-2.new.keeper c.replace_by-2.new.seat c.take-met.result c.replace_by-2.result c.requires.keeper put c.take-met.ensures c.replace_by-2.ensures))
    (keeper_2 c.args.self.now.table.shared.table_id c.args.self.now.table.shared.key c.look-number.result.0 c.args.recorder c.args.keeper.now c.look-number.result.1 c.replace_by.new.keeper
    c.replace_by.new.seat c.take-met.new.keeper c.take-met.result c.requires.keeper put c.take-met.ensures)

pub returns-in-Err-clause-passes : goal.returns-in-Err-clause-passes
returns-in-Err-clause-passes c =
    let put : IsLaid c.look-number.result.0 c.args.recorder c.args.keeper.now c.look-number.result.1 c.replace_by.new.keeper c.replace_by.new.seat =
    laid c.look-number.result.0 c.args.recorder c.args.keeper.now c.look-number.result.1 c.replace_by.new.keeper c.replace_by.new.seat c.replace_by.result
    (c.in-Ok-None.is ∙ ap Ok c.in-Ok-None.field-0-is) c.replace_by.ensures in
    passes_in_err c.args.from.now.table.shared.table_id c.args.self.now.table.shared.table_id c.args.self.now.table.shared.key c.look-number.result.0 c.args.recorder c.args.keeper.now
    c.look-number.result.1 c.replace_by.new.keeper c.replace_by.new.seat c.take-met.new.keeper c.replace_by-2.new.keeper c.replace_by-2.new.seat c.args.gone.now c.take-met.result c.in-Err.field-0 c.replace_by-2.result c.requires.keeper
    c.look-number.ensures.0 put c.take-met.ensures c.in-Err.is c.replace_by-2.ensures

pub returns-in-Ok-clause-passes : goal.returns-in-Ok-clause-passes
returns-in-Ok-clause-passes c =
    let put : IsLaid c.look-number.result.0 c.args.recorder c.args.keeper.now c.look-number.result.1 c.replace_by.new.keeper c.replace_by.new.seat =
    laid c.look-number.result.0 c.args.recorder c.args.keeper.now c.look-number.result.1 c.replace_by.new.keeper c.replace_by.new.seat c.replace_by.result
    (c.in-Ok-None.is ∙ ap Ok c.in-Ok-None.field-0-is) c.replace_by.ensures in
    passes_in_ok c.args.from.now.table.shared.table_id c.args.self.now.table.shared.table_id c.args.self.now.table.shared.key c.look-number.result.0 c.args.recorder c.args.keeper.now
    c.look-number.result.1 c.replace_by.new.keeper c.replace_by.new.seat c.take-met.new.keeper c.replace_by-2.new.keeper c.replace_by-2.new.seat c.args.gone.now c.take-met.result c.in-Ok.back
    c.replace_by-2.result c.requires.keeper c.look-number.ensures.0 put c.take-met.ensures c.in-Ok.is c.replace_by-2.ensures

pub replace_by-requires-2-clause-may : goal.replace_by-requires-2-clause-may
replace_by-requires-2-clause-may c =
    let put : IsLaid c.look-number.result.0 c.args.recorder c.args.keeper.now c.look-number.result.1 c.replace_by.new.keeper c.replace_by.new.seat =
    laid c.look-number.result.0 c.args.recorder c.args.keeper.now c.look-number.result.1 c.replace_by.new.keeper c.replace_by.new.seat c.replace_by.result
    (c.in-Ok-None.is ∙ ap Ok c.in-Ok-None.field-0-is) c.replace_by.ensures in
    may_2 c.args.self.now.table.shared.table_id c.args.self.now.table.shared.key c.look-number.result.0 c.args.recorder c.args.keeper.now c.look-number.result.1 c.replace_by.new.keeper
    c.replace_by.new.seat c.take-met.new.keeper c.take-met.result c.requires.keeper put c.take-met.ensures
