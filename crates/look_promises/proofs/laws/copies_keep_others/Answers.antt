use Rattle.look_promises.proofs.Copies.Others.{copies_keep_others}
use Rattle.look_promises.proofs.laws.copies_keep_others.Goals as goal

pub returns : goal.returns
returns c = copies_keep_others
