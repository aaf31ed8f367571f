use Rattle.live_segment.proofs.lemmas.Hist.NamesHeld.{none_named}
use Rattle.live_segment.proofs.hist.known_names.KnownNames.find_unentered.Goals as goal

pub returns-then-self-known : goal.returns-then-self-known
returns-then-self-known c = none_named c.args.known.now c.args.self.now c.args.name.now c.requires.has c.if-self-known.true c.requires.none
