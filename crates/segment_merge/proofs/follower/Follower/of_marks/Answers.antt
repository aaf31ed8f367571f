use Rattle.std.proofs.Common.{map}
use Rattle.image_reader.specs.Views.{histogram_view}
use Rattle.segment_merge.proofs.DeltasTook.{taken_within}
use Rattle.segment_merge.proofs.follower.Follower.of_marks.Goals as goal

pub returns-clause-within : goal.returns-clause-within
returns-clause-within c =
    taken_within (map histogram_view c.args.reading.hists.items) (map histogram_view c.in_ok-noted.noted.items) c.in_ok-noted.ensures.taken
