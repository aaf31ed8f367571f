use Rattle.look_promises.proofs.Words.Counted.{looks_show_counts}
use Rattle.look_promises.proofs.laws.looks_show_counts.Goals as goal

pub returns : goal.returns
returns c = looks_show_counts
