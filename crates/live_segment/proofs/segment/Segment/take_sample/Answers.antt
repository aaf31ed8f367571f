use Rattle.live_segment.proofs.lemmas.Delta.OneSample.{may_raise, took_units}
use Rattle.live_segment.proofs.segment.Segment.take_sample.Goals as goal

pub raise_mark-requires-clause-may : goal.raise_mark-requires-clause-may
raise_mark-requires-clause-may c =
    let (known, value, may) = c.requires.may in
    may_raise c.args.self.now known value c.args.sample c.args.count c.args.seat.now may

pub returns-clause-taken : goal.returns-clause-taken
returns-clause-taken c = λ known value may.
    took_units c.args.self.now known value c.args.sample c.args.count c.args.seat.now may c.raise_mark.result c.raise_mark.new.seat c.raise_mark.ensures
    c.saturating_sub.result c.saturating_sub.ensures
