use Rattle.std.proofs.Common.{sym, subst}
use Rattle.live_segment.specs.Known.{known_view}
use Rattle.live_segment.specs.Delta.Outcome.{AreUnits}
use Rattle.live_segment.specs.List.Values.{AreFewKeys}
use Rattle.live_segment.proofs.lemmas.Delta.FewKeys.{few_of_values}
use Rattle.live_segment.proofs.lemmas.Snapshot.SamplesSeen.{are_units, has_seen_samples}
use Rattle.live_segment.proofs.segment.Segment.snapshot_of_samples.Goals as goal

pub finish_snapshot-requires-clause-saw : goal.finish_snapshot-requires-clause-saw
finish_snapshot-requires-clause-saw c =
    (c.args.seat.now.me.0, c.requires.ready.rests, c.requires.ready.right.alone, has_seen_samples c.look_at_samples.ensures c.sort_by_key.ensures)

pub returns-clause-answer : goal.returns-clause-answer
returns-clause-answer c =
    c.finish_snapshot.ensures.answer c.args.seat.now.me.0 c.requires.ready.right.alone (has_seen_samples c.look_at_samples.ensures c.sort_by_key.ensures)

pub returns-clause-units : goal.returns-clause-units
returns-clause-units c =
    subst (λ v. AreUnits v.items) (sym c.finish_snapshot.ensures.counts)
    (are_units c.look_at_samples.ensures c.sort_by_key.ensures c.finish_snapshot.ensures.behind c.finish_snapshot.ensures.once)

pub returns-clause-few : goal.returns-clause-few
returns-clause-few c =
    subst (λ v. AreFewKeys c.args.self.now (known_view c.args.histogram.now) v.items) (sym c.finish_snapshot.ensures.counts)
    (few_of_values c.args.self.now (known_view c.args.histogram.now) c.requires.sparse c.look_at_samples.new.totals.items c.sort_by_key.new.counts.items
    c.sort_by_key.ensures c.look_at_samples.ensures.few)
