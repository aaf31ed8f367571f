use Rattle.alloc_core.proofs.Keeping.{list_keeps}
use Rattle.alloc_core.proofs.laws.list_words_keep.Goals as goal

pub returns : goal.returns
returns c shape state at value keeps listed = list_keeps shape state.words state.allocations at value listed keeps
