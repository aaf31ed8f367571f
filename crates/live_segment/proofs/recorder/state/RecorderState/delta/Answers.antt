use Rattle.std.proofs.Common.{◌≡◌, true, ℤ, FitsSigned, w64, rules, refl, sym, subst, ◌∙◌}
use Rattle.std.proofs.lemmas.Int.{to_z-of_z}
use Rattle.std.proofs.lemmas.Result.{err_from_is_err_and}
use Rattle.segment_machine.specs.declared.actor.Known.{Known}
use Rattle.segment_machine.specs.Actor.{has_buckets}
use Rattle.live_segment.specs.Holders.{opened_with}
use Rattle.live_segment.specs.Delta.Outcome.{HasTaken}
use Rattle.live_segment.specs.List.Values.{AreFewKeys}
use Rattle.live_segment.proofs.lemmas.Add.Adds.{meant}
use Rattle.live_segment.proofs.Seating.Recorders.{recorder_still, seat_searched}
use Rattle.segment_invariant.proofs.Lists.Elements.{contains_at}
use Rattle.live_segment.proofs.lemmas.Delta.Behind.{taken_behind}
use Rattle.live_segment.proofs.lemmas.Delta.Owed.{took_enough}
use Rattle.live_segment.proofs.lemmas.Delta.Given.{taken_rests, taken_of, taken_names, taken_share}
use Rattle.live_segment.proofs.lemmas.List.IndexKept.{seen_on}
use Rattle.live_segment.proofs.recorder.state.RecorderState.delta.Goals as goal

pub returns-in_err-counts-clause-taken : goal.returns-in_err-counts-clause-taken
returns-in_err-counts-clause-taken c =
    let old = c.args.self.now in
    let looked = c.look_for_own-has_all.ensures in
    let p = err_from_is_err_and c.from_residual.result c.from_residual.ensures.1 in
    rw (p.1, p.2) (
      refl,
      looked.view,
      λ known means bucketed.
          let one = meant old.known.items old.seat.me.0.answers.names c.args.histogram.index c.index-known.result.now known c.requires.at.listed c.index-known.ensures c.requires.knows means in
          let still = looked.still (subst (λ (k : Known). has_buckets k.spec ≡ true) (sym one) bucketed) in
          λ i. record old { seat = still.0 i; samples = still.1 i },
    )

pub returns-in_err-counts-clause-at : goal.returns-in_err-counts-clause-at
returns-in_err-counts-clause-at c =
    let old = c.args.self.now in
    let looked = c.look_for_own-has_all.ensures in
    let (is, share) = seat_searched c.args.segment.now old.seat _ c.requires.at.seated c.requires.at.rests looked.same looked.view looked.free in
    recorder_still c.args.segment.now old _ old.units _ c.requires.at is (c.requires.at.counted ∙ sym share) looked.indexed

pub returns-clause-at : goal.returns-clause-at
returns-clause-at c =
    let old = c.args.self.now in
    let looked = c.look_for_own-has_all.ensures in
    let a = old.seat.me.0 in
    let b = c.look_for_own-has_all.new.seat.me.0 in
    let last = c.take_delta-sum.ensures.taken in
    let same = c.take_delta-sum.ensures.same in
    let taken = taken_behind a b looked.view _ _ _ _ last in
    recorder_still c.args.segment.now old _ old.units _ c.requires.at
    (record {
      same = (same.0 ∙ looked.same.0, same.1 ∙ looked.same.1, same.2 ∙ looked.same.2);
      of = taken_of _ _ _ _ _ taken _ c.requires.at.seated.of;
      rests = taken_rests _ _ _ _ _ taken c.requires.at.rests;
      names = taken_names _ _ _ _ _ taken;
      chain = taken.seen.chain;
      words = taken.seen.words;
    })
    (c.requires.at.counted ∙ sym (taken_share _ _ _ _ _ taken)) (seen_on _ _ _ _ last.seen looked.indexed)

pub returns-clause-taken : goal.returns-clause-taken
returns-clause-taken c = λ known means.
    let old = c.args.self.now in
    let a = old.seat.me.0 in
    let b = c.look_for_own-has_all.new.seat.me.0 in
    let fits : FitsSigned w64 c.take_delta-sum.result = search rules in
    subst (λ (d : ℤ). HasTaken known c.take_delta-sum.new.taken.items d a c.take_delta-sum.new.seat.me.0) (sym (to_z-of_z w64 c.take_delta-sum.result fits))
    (taken_behind a b c.look_for_own-has_all.ensures.view known c.take_delta-sum.new.taken.items c.take_delta-sum.result c.take_delta-sum.new.seat.me.0
    (subst (λ (k : Known). HasTaken k c.take_delta-sum.new.taken.items c.take_delta-sum.result b c.take_delta-sum.new.seat.me.0)
    (meant old.known.items a.answers.names c.args.histogram.index c.index-known.result.now known c.requires.at.listed c.index-known.ensures c.requires.knows means) c.take_delta-sum.ensures.taken))

pub returns-clause-few : goal.returns-clause-few
returns-clause-few c = λ known means.
    let old = c.args.self.now in
    subst (λ (k : Known). AreFewKeys c.args.segment.now k c.take_delta-sum.new.taken.items)
    (meant old.known.items old.seat.me.0.answers.names c.args.histogram.index c.index-known.result.now known c.requires.at.listed c.index-known.ensures c.requires.knows means)
    c.take_delta-sum.ensures.few

pub returns-clause-owed : goal.returns-clause-owed
returns-clause-owed c = λ known means.
    let old = c.args.self.now in
    let a = old.seat.me.0 in
    let b = c.look_for_own-has_all.new.seat.me.0 in
    let same = meant old.known.items a.answers.names c.args.histogram.index c.index-known.result.now known c.requires.at.listed c.index-known.ensures c.requires.knows means in
    took_enough (opened_with c.args.segment.now) c.take_delta-sum.new.seat.id known c.take_delta-sum.new.taken.items c.take_delta-sum.result a c.take_delta-sum.new.seat.me.0
    (taken_behind a b c.look_for_own-has_all.ensures.view known c.take_delta-sum.new.taken.items c.take_delta-sum.result c.take_delta-sum.new.seat.me.0
    (subst (λ (k : Known). HasTaken k c.take_delta-sum.new.taken.items c.take_delta-sum.result b c.take_delta-sum.new.seat.me.0) same
    c.take_delta-sum.ensures.taken))
    (contains_at a.answers.names c.args.histogram.index known means) c.requires.at.rests.recorder c.take_delta-sum.ensures.stands
