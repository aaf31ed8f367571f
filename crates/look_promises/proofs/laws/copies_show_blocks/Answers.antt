use Rattle.look_promises.proofs.Copies.Shown.{copies_show_blocks}
use Rattle.look_promises.proofs.laws.copies_show_blocks.Goals as goal

pub returns : goal.returns
returns c = copies_show_blocks
