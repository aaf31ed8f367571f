use Rattle.std.proofs.Common.{rules, ℤ, FitsSigned, w64, sym, subst}
use Rattle.std.proofs.lemmas.Int.{to_z-of_z}
use Rattle.live_segment.specs.Delta.Outcome.{HasTaken}
use Rattle.live_segment.specs.Known.{known_view}
use Rattle.live_segment.proofs.lemmas.Delta.FewKeys.{few_of_values}
use Rattle.live_segment.proofs.lemmas.Delta.SamplesDelta.{has_taken_samples, may_take_sum}
use Rattle.live_segment.proofs.segment.Segment.delta_of_samples.Goals as goal

pub take_sum-requires-clause-may : goal.take_sum-requires-clause-may
take_sum-requires-clause-may c = may_take_sum c.take_samples.ensures

pub returns-clause-taken : goal.returns-clause-taken
returns-clause-taken c =
    let fits : FitsSigned w64 c.take_sum.result = search rules in
    subst (λ (d : ℤ). HasTaken (known_view c.args.histogram.now) c.sort_by_key.new.counts.items d c.args.seat.now.me.0 c.take_sum.new.seat.me.0)
    (sym (to_z-of_z w64 c.take_sum.result fits))
    (has_taken_samples c.take_samples.ensures c.sort_by_key.ensures c.take_sum.ensures.behind c.take_sum.ensures.once c.take_sum.ensures.taken)

pub returns-clause-few : goal.returns-clause-few
returns-clause-few c =
    few_of_values c.args.self.now (known_view c.args.histogram.now) c.requires.sparse c.take_samples.new.taken.items c.sort_by_key.new.counts.items
    c.sort_by_key.ensures c.take_samples.ensures.few
