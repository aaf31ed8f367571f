use Rattle.std.proofs.Common.{◌≡◌, true, refl, sym, ap, subst, ◌∙◌}
use Rattle.std.proofs.lemmas.Result.{err_from_is_err_and}
use Rattle.segment_machine.specs.declared.actor.Known.{Known}
use Rattle.segment_machine.specs.Actor.{has_buckets}
use Rattle.live_segment.specs.Holders.{opened_with}
use Rattle.live_segment.specs.Snapshot.Outcome.{HasSnapshot}
use Rattle.live_segment.specs.List.Values.{AreFewKeys}
use Rattle.live_segment.proofs.lemmas.Add.Adds.{meant}
use Rattle.live_segment.proofs.Seating.Recorders.{recorder_still, seat_searched}
use Rattle.segment_invariant.proofs.Lists.Elements.{contains_at}
use Rattle.live_segment.proofs.lemmas.Delta.Behind.{answered_behind}
use Rattle.live_segment.proofs.lemmas.Delta.NoMore.{has_no_more}
use Rattle.live_segment.proofs.lemmas.Delta.Owed.{has_enough}
use Rattle.live_segment.proofs.lemmas.Delta.Given.{looked_rests, looked_of, looked_names, looked_share}
use Rattle.live_segment.proofs.lemmas.List.IndexKept.{seen_on}
use Rattle.live_segment.proofs.recorder.state.RecorderState.snapshot.Goals as goal

pub returns-in_err-totals-clause-answer : goal.returns-in_err-totals-clause-answer
returns-in_err-totals-clause-answer c =
    let p = err_from_is_err_and c.from_residual.result c.from_residual.ensures.1 in
    let old = c.args.self.now in
    let looked = c.look_for_own-has_all.ensures in
    rw (p.1, p.2) (
      refl,
      looked.view,
      λ known means bucketed.
          let one = meant old.known.items old.seat.me.0.answers.names c.args.histogram.index c.index-known.result.now known c.requires.at.listed c.index-known.ensures c.requires.knows means in
          let still = looked.still (subst (λ (k : Known). has_buckets k.spec ≡ true) (sym one) bucketed) in
          λ i. record old { seat = still.0 i; samples = still.1 i },
    )

pub returns-in_err-totals-clause-at : goal.returns-in_err-totals-clause-at
returns-in_err-totals-clause-at c =
    let old = c.args.self.now in
    let looked = c.look_for_own-has_all.ensures in
    let (is, share) = seat_searched c.args.segment.now old.seat _ c.requires.at.seated c.requires.at.rests looked.same looked.view looked.free in
    recorder_still c.args.segment.now old _ old.units _ c.requires.at is (c.requires.at.counted ∙ sym share) looked.indexed

pub returns-clause-at : goal.returns-clause-at
returns-clause-at c =
    let old = c.args.self.now in
    let looked = c.look_for_own-has_all.ensures in
    let a = old.seat.me.0 in
    let b = c.look_for_own-has_all.new.seat.me.0 in
    let last = c.take_snapshot-snapshot.ensures.answer in
    let same = c.take_snapshot-snapshot.ensures.same in
    let has = answered_behind a b looked.view _ _ _ last in
    recorder_still c.args.segment.now old _ old.units _ c.requires.at
    (record {
      same = (same.0 ∙ looked.same.0, same.1 ∙ looked.same.1, same.2 ∙ looked.same.2);
      of = looked_of _ _ _ _ has _ c.requires.at.seated.of;
      rests = looked_rests _ _ _ _ has c.requires.at.rests;
      names = looked_names _ _ _ _ has;
      chain = has.seen.chain;
      words = has.seen.words;
    })
    (c.requires.at.counted ∙ sym (looked_share _ _ _ _ has)) (seen_on _ _ _ _ last.seen looked.indexed)

pub returns-clause-answer : goal.returns-clause-answer
returns-clause-answer c = λ known means.
    let old = c.args.self.now in
    let a = old.seat.me.0 in
    let b = c.look_for_own-has_all.new.seat.me.0 in
    answered_behind a b c.look_for_own-has_all.ensures.view known c.take_snapshot-snapshot.result c.take_snapshot-snapshot.new.seat.me.0
    (subst (λ (k : Known). HasSnapshot k b c.take_snapshot-snapshot.result c.take_snapshot-snapshot.new.seat.me.0)
    (meant old.known.items a.answers.names c.args.histogram.index c.index-known.result.now known c.requires.at.listed c.index-known.ensures c.requires.knows means)
    c.take_snapshot-snapshot.ensures.answer)

pub returns-clause-few : goal.returns-clause-few
returns-clause-few c = λ known means.
    let old = c.args.self.now in
    subst (λ (k : Known). AreFewKeys c.args.segment.now k c.take_snapshot-snapshot.result.counts.items)
    (meant old.known.items old.seat.me.0.answers.names c.args.histogram.index c.index-known.result.now known c.requires.at.listed c.index-known.ensures c.requires.knows means)
    c.take_snapshot-snapshot.ensures.few

pub returns-clause-values : goal.returns-clause-values
returns-clause-values c = λ known means sparse.
    let old = c.args.self.now in
    let same = meant old.known.items old.seat.me.0.answers.names c.args.histogram.index c.index-known.result.now known c.requires.at.listed c.index-known.ensures c.requires.knows means in
    c.take_snapshot-snapshot.ensures.units (ap (λ (k : Known). k.spec) same ∙ sparse)

pub returns-clause-owed : goal.returns-clause-owed
returns-clause-owed c = λ known means.
    let old = c.args.self.now in
    let a = old.seat.me.0 in
    let b = c.look_for_own-has_all.new.seat.me.0 in
    let same = meant old.known.items a.answers.names c.args.histogram.index c.index-known.result.now known c.requires.at.listed c.index-known.ensures c.requires.knows means in
    has_enough (opened_with c.args.segment.now) c.take_snapshot-snapshot.new.seat.id known c.take_snapshot-snapshot.result a c.take_snapshot-snapshot.new.seat.me.0
    (answered_behind a b c.look_for_own-has_all.ensures.view known c.take_snapshot-snapshot.result c.take_snapshot-snapshot.new.seat.me.0
    (subst (λ (k : Known). HasSnapshot k b c.take_snapshot-snapshot.result c.take_snapshot-snapshot.new.seat.me.0) same
    c.take_snapshot-snapshot.ensures.answer))
    (contains_at a.answers.names c.args.histogram.index known means) c.requires.at.rests.recorder c.take_snapshot-snapshot.ensures.stands

pub returns-clause-most : goal.returns-clause-most
returns-clause-most c = λ known means.
    let old = c.args.self.now in
    let a = old.seat.me.0 in
    let b = c.look_for_own-has_all.new.seat.me.0 in
    let same = meant old.known.items a.answers.names c.args.histogram.index c.index-known.result.now known c.requires.at.listed c.index-known.ensures c.requires.knows means in
    has_no_more (opened_with c.args.segment.now) c.take_snapshot-snapshot.new.seat.id known c.take_snapshot-snapshot.result a c.take_snapshot-snapshot.new.seat.me.0
    (answered_behind a b c.look_for_own-has_all.ensures.view known c.take_snapshot-snapshot.result c.take_snapshot-snapshot.new.seat.me.0
    (subst (λ (k : Known). HasSnapshot k b c.take_snapshot-snapshot.result c.take_snapshot-snapshot.new.seat.me.0) same
    c.take_snapshot-snapshot.ensures.answer))
    (contains_at a.answers.names c.args.histogram.index known means) c.take_snapshot-snapshot.ensures.stands
