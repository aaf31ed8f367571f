use Rattle.live_segment.proofs.lemmas.Add.SampleWords.{fits_is_value}
use Rattle.live_segment.proofs.segment.Segment.shows_value.Goals as goal

pub returns-in-None-clause-shown : goal.returns-in-None-clause-shown
returns-in-None-clause-shown c = c.in-None.ensures.shown c.args.value (fits_is_value c.args.value c.ranges.value)
