use Rattle.alloc_core.proofs.Runs.{opening_keeps}
use Rattle.alloc_core.proofs.laws.opening_words_keep.Goals as goal

pub returns : goal.returns
returns c shape id lawful = opening_keeps shape id lawful
