use Rattle.std.proofs.lemmas.Bool.Decides.{same_from_decides}
use Rattle.reading_shows.specs.Since.{same_spec}
use Rattle.reading_shows.proofs.Came.{same_spec-decides}
use Rattle.reading_shows.proofs.since.same_spec.Goals as goal

pub returns : goal.returns
returns c = same_from_decides _ (same_spec c.args.one.now c.args.other.now) c.is_same.ensures (same_spec-decides c.args.one.now c.args.other.now)
