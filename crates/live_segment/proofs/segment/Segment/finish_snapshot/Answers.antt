use Rattle.std.proofs.Common.{rules, ℤ, w64, FitsSigned, to_z, of_z, refl, sym, ap, ◌∙◌, subst}
use Rattle.std.proofs.lemmas.Int.{to_z-of_z}
use Rattle.segment_calls.specs.declared.answer.Snapshot.{Snapshot}
use Rattle.segment_machine.specs.declared.actor.Actor.{Actor}
use Rattle.segment_machine.specs.Note.{answers, noted}
use Rattle.live_segment.specs.Known.{known_view}
use Rattle.live_segment.specs.Snapshot.Outcome.{HasSnapshot, saw_sum}
use Rattle.live_segment.specs.Steps.Taking.{answered_as}
use Rattle.live_segment.proofs.lemmas.Snapshot.Answering.{may_sum, may_answer, has_snapshot}
use Rattle.live_segment.proofs.segment.Segment.finish_snapshot.Goals as goal

pub look_at_sum-sum-requires-clause-may : goal.look_at_sum-sum-requires-clause-may
look_at_sum-sum-requires-clause-may c =
    let (old, rests, alone, all) = c.requires.saw in
    may_sum c.args.self.now (known_view c.args.histogram.now) c.args.seat.now old c.requires.table rests alone all.looked

pub answer_with-requires-clause-may : goal.answer_with-requires-clause-may
answer_with-requires-clause-may c =
    let (old, rests, alone, all) = c.requires.saw in
    let known = known_view c.args.histogram.now in
    let sum = c.look_at_sum-sum.result in
    let fits : FitsSigned w64 sum.0 = search rules in
    let snapshot : Snapshot = record { counts = c.args.counts; sum = to_z w64 (of_z w64 sum.0); redundant = sum.1 } in
    may_answer known old c.args.seat.now.me.0 all.looked snapshot c.look_at_sum-sum.new.seat.me.0 alone
    (all.saw c.look_at_sum-sum.ensures.behind c.look_at_sum-sum.ensures.once snapshot refl)
    (c.look_at_sum-sum.ensures.view ∙ ap (λ (s : ℤ). saw_sum c.args.seat.now.me.0 known.reference s sum.1) (sym (to_z-of_z w64 sum.0 fits)))

pub returns-clause-counts : goal.returns-clause-counts
returns-clause-counts c = ap (λ (s : Snapshot). s.counts) c.answer_with.ensures.answer

pub returns-clause-answer : goal.returns-clause-answer
returns-clause-answer c = λ old alone all.
    let known = known_view c.args.histogram.now in
    let sum = c.look_at_sum-sum.result in
    let fits : FitsSigned w64 sum.0 = search rules in
    let snapshot : Snapshot = record { counts = c.args.counts; sum = to_z w64 (of_z w64 sum.0); redundant = sum.1 } in
    subst (λ (s : Snapshot). HasSnapshot known old s c.answer_with.new.seat.me.0) (sym c.answer_with.ensures.answer)
    (has_snapshot known old c.args.seat.now.me.0 all.looked snapshot c.answer_with.new.seat.me.0
    (all.saw c.look_at_sum-sum.ensures.behind c.look_at_sum-sum.ensures.once snapshot refl)
    (c.answer_with.ensures.view ∙ ap (λ (x : Actor). noted x (answers (answered_as x known snapshot)))
    (c.look_at_sum-sum.ensures.view ∙ ap (λ (s : ℤ). saw_sum c.args.seat.now.me.0 known.reference s sum.1) (sym (to_z-of_z w64 sum.0 fits)))))
