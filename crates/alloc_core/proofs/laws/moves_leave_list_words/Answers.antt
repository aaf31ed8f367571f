use Rattle.alloc_core.proofs.Beside.{list_word_kept, list_word_stays}
use Rattle.alloc_core.proofs.laws.moves_leave_list_words.Goals as goal

pub returns : goal.returns
returns c shape move old new at keeps is listed =
    (list_word_kept shape move old new at keeps is listed, list_word_stays shape move old new at is listed)
