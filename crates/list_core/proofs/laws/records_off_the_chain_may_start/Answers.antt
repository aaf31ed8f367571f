use Rattle.list_core.proofs.laws.records_off_the_chain_may_start.Goals as goal

pub returns : goal.returns
returns c words chain reference is off = record { list = is; stands = off }
