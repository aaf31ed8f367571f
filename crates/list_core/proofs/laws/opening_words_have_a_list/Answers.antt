use Rattle.list_core.proofs.Keeping.{blank_list}
use Rattle.list_core.proofs.laws.opening_words_have_a_list.Goals as goal

pub returns : goal.returns
returns c size page id = blank_list size page id
