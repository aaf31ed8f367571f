use Rattle.std.proofs.Common.{rules, ℤ, FitsSigned, w64, sym, ap, ◌∙◌, subst}
use Rattle.std.proofs.lemmas.Int.{to_z-of_z}
use Rattle.segment_machine.specs.declared.actor.Actor.{Actor}
use Rattle.live_segment.specs.Delta.Outcome.{HasTaken}
use Rattle.live_segment.specs.Known.{known_view}
use Rattle.segment_promises.specs.Onward.{Grows}
use Rattle.live_segment.proofs.lemmas.Hist.Knowing.{right_on}
use Rattle.live_segment.proofs.lemmas.Delta.OneDelta.{may_take, view, same, takes_word}
use Rattle.live_segment.proofs.lemmas.Delta.DeltaEnds.{may_take_sum, has_taken_all}
use Rattle.live_segment.proofs.lemmas.Delta.FewKeys.{few_of_buckets}
use Rattle.segment_promises.proofs.Growing.{grows_not}
use Rattle.live_segment.proofs.segment.Segment.delta_of_buckets.Goals as goal

pub take_single-word-requires-clause-may : goal.take_single-word-requires-clause-may
take_single-word-requires-clause-may c =
    may_take (known_view c.args.histogram.now) c.requires.ready.seated c.requires.ready.rests c.requires.ready.right.alone c.requires.bucketed

pub take_units-requires-clause-right : goal.take_units-requires-clause-right
take_units-requires-clause-right c =
    let is = view (known_view c.args.histogram.now) c.requires.ready.seated c.requires.ready.rests c.requires.ready.right.alone c.requires.bucketed c.take_single-word.result c.take_single-word.new.seat c.take_single-word.ensures in
    right_on c.args.self.now.setting c.args.seat.now.me.0 c.take_single-word.new.seat.me.0 (ap (λ (a : Actor). a.answers.names) is)
    (subst (λ (a : Actor). Grows c.args.seat.now.me.0.seen.chain a.seen.chain) (sym is) (grows_not c.args.seat.now.me.0.seen.chain)) c.args.histogram.now c.requires.ready.right

pub take_units-requires-clause-takes : goal.take_units-requires-clause-takes
take_units-requires-clause-takes c =
    takes_word (known_view c.args.histogram.now) c.requires.ready.seated c.requires.ready.rests c.requires.ready.right.alone c.requires.bucketed
    c.take_single-word.result c.take_single-word.new.seat c.take_single-word.ensures

pub take_sum-requires-clause-may : goal.take_sum-requires-clause-may
take_sum-requires-clause-may c =
    may_take_sum c.args.self.now (known_view c.args.histogram.now) c.args.seat.now c.take_single-word.new.seat c.take_units.new.seat c.take_single-word.result (takes_word (known_view c.args.histogram.now) c.requires.ready.seated c.requires.ready.rests c.requires.ready.right.alone c.requires.bucketed c.take_single-word.result c.take_single-word.new.seat c.take_single-word.ensures) (view (known_view c.args.histogram.now) c.requires.ready.seated c.requires.ready.rests c.requires.ready.right.alone c.requires.bucketed c.take_single-word.result c.take_single-word.new.seat c.take_single-word.ensures) _ c.take_units.ensures.same c.take_units.ensures.taken

pub returns-clause-same : goal.returns-clause-same
returns-clause-same c =
    let one = same (known_view c.args.histogram.now) c.requires.ready.seated c.requires.ready.rests c.requires.ready.right.alone c.requires.bucketed c.take_single-word.result c.take_single-word.new.seat c.take_single-word.ensures in
    let two = c.take_units.ensures.same in
    let three = c.take_sum.ensures.same in
    (three.0 ∙ (two.0 ∙ one.0), three.1 ∙ (two.1 ∙ one.1), three.2 ∙ (two.2 ∙ one.2))

pub returns-clause-taken : goal.returns-clause-taken
returns-clause-taken c =
    let fits : FitsSigned w64 c.take_sum.result = search rules in
    subst (λ (d : ℤ). HasTaken (known_view c.args.histogram.now) c.take_units.new.taken.items d c.args.seat.now.me.0 c.take_sum.new.seat.me.0)
    (sym (to_z-of_z w64 c.take_sum.result fits))
    (has_taken_all c.args.self.now (known_view c.args.histogram.now) c.args.seat.now c.take_single-word.new.seat c.take_units.new.seat c.take_single-word.result (takes_word (known_view c.args.histogram.now) c.requires.ready.seated c.requires.ready.rests c.requires.ready.right.alone c.requires.bucketed c.take_single-word.result c.take_single-word.new.seat c.take_single-word.ensures) (view (known_view c.args.histogram.now) c.requires.ready.seated c.requires.ready.rests c.requires.ready.right.alone c.requires.bucketed c.take_single-word.result c.take_single-word.new.seat c.take_single-word.ensures) _ c.take_units.ensures.same c.take_units.ensures.taken
    _ c.take_sum.new.seat.me.0 c.take_sum.ensures.taken)

pub returns-clause-few : goal.returns-clause-few
returns-clause-few c =
    few_of_buckets c.args.self.now (known_view c.args.histogram.now) c.take_units.new.taken.items c.requires.bucketed c.take_units.ensures.taken.few
