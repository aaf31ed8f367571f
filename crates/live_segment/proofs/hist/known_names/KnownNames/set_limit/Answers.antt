use Rattle.std.proofs.Common.{refl}
use Rattle.live_segment.proofs.lemmas.Hist.NamesHeld.{names_same}
use Rattle.live_segment.proofs.hist.known_names.KnownNames.set_limit.Goals as goal

pub returns-clause-still : goal.returns-clause-still
returns-clause-still c = λ known has. names_same known _ _ refl c.set_limit.ensures.still.first has
