use Rattle.std.proofs.Common.{refl, sym, ap, subst, ◌∙◌}
use Rattle.live_segment.specs.Known.{known_view}
use Rattle.live_segment.specs.Steps.{IsSame, Pass}
use Rattle.live_segment.proofs.segment.Segment.answer_with.Goals as goal

pub answer-requires-clause-may : goal.answer-requires-clause-may
answer-requires-clause-may c = record {
  recorder = c.requires.seat.1;
  known = known_view c.args.histogram.now;
  snapshot = c.args.snapshot;
  says = refl;
  alone = c.requires.alone;
  may = c.requires.may;
}

pub snapshot_said-requires : goal.snapshot_said-requires
snapshot_said-requires c = (c.args.histogram.now.reference, c.args.snapshot, refl)

pub stand-requires : goal.stand-requires
stand-requires c = (c.answer.ensures (known_view c.args.histogram.now) c.args.snapshot refl c.requires.alone).0.0 ∙ c.requires.seat.0

pub returns-clause-same : goal.returns-clause-same
returns-clause-same c =
    subst (IsSame c.args.seat.now) (sym c.stand.ensures.same) (c.answer.ensures (known_view c.args.histogram.now) c.args.snapshot refl c.requires.alone).0

pub returns-clause-answer : goal.returns-clause-answer
returns-clause-answer c = c.snapshot_said.ensures c.args.histogram.now.reference c.args.snapshot refl

pub returns-clause-view : goal.returns-clause-view
returns-clause-view c =
    ap (λ (seat : Pass). seat.me.0) c.stand.ensures.same ∙ (c.answer.ensures (known_view c.args.histogram.now) c.args.snapshot refl c.requires.alone).1
