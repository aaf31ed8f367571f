use Rattle.segment_machine.proofs.laws.words_off_first.Goals as goal

pub returns : goal.returns
returns c (look, moving, at) = cc moving
