use Rattle.povundiri_c.proofs.Passing.{acting_at, may_act, replaced_by}
use Rattle.povundiri_c.proofs.mailbox.Mailbox.replace_by.Goals as goal

pub replace-answer-requires-clause-seat : goal.replace-answer-requires-clause-seat
replace-answer-requires-clause-seat c =
    acting_at c.args.self.now.table.shared.table_id c.args.keeper.now c.args.seat.now c.arrange.new.one c.arrange.new.other c.arrange.ensures c.requires.seats.0 c.requires.seats.1 c.requires.seats.2

pub replace-answer-requires-clause-may : goal.replace-answer-requires-clause-may
replace-answer-requires-clause-may c = may_act c.args.number c.args.keeper.now c.args.seat.now c.arrange.new.one c.arrange.new.other c.arrange.ensures c.requires.may

pub returns : goal.returns
returns c =
    replaced_by c.args.number c.args.recorder c.args.keeper.now c.args.seat.now c.arrange.new.one c.arrange.new.other c.replace-answer.new.seat c.arrange-2.new.one
    c.arrange-2.new.other c.replace-answer.result c.arrange.ensures c.replace-answer.ensures c.arrange-2.ensures
