use Rattle.alloc_core.proofs.Runs.{flags_by, other_flags_stay}
use Rattle.alloc_core.proofs.laws.flags_have_setters.Goals as goal

pub returns-clause-setters : goal.returns-clause-setters
returns-clause-setters c shape move old new keeps is = flags_by shape move old new keeps is

pub returns-clause-others : goal.returns-clause-others
returns-clause-others c shape move old new bit keeps is above = other_flags_stay shape move old new bit keeps is above
