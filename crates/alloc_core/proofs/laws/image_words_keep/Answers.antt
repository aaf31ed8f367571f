use Rattle.alloc_core.proofs.Keeping.{image_word_keeps}
use Rattle.alloc_core.proofs.laws.image_words_keep.Goals as goal

pub returns : goal.returns
returns c shape state at value keeps which = image_word_keeps shape state.words state.allocations keeps at value which
