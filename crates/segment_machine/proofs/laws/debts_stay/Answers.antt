use Rattle.segment_machine.proofs.laws.debts_stay.Goals as goal

pub returns : goal.returns
returns c may = cc may.8
