use Rattle.alloc_core.proofs.Beside.{header_word_kept}
use Rattle.alloc_core.proofs.laws.header_words_stay.Goals as goal

pub returns : goal.returns
returns c shape move old new at keeps is low flags free = header_word_kept shape move old new at keeps is low flags free
