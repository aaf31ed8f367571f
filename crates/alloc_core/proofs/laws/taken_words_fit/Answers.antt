use Rattle.alloc_core.proofs.Sums.{taken_fit, claimed_fit}
use Rattle.alloc_core.proofs.laws.taken_words_fit.Goals as goal

pub returns-clause-claimed : goal.returns-clause-claimed
returns-clause-claimed c shape state keeps = claimed_fit shape state keeps

pub returns-clause-taken : goal.returns-clause-taken
returns-clause-taken c shape state keeps = taken_fit shape state keeps
