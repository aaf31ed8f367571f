use Rattle.std.proofs.Common.{List, ℕ, ap, subst, sym, ◌∙◌}
use Rattle.segment_machine.specs.declared.actor.Actor.{Actor}
use Rattle.live_segment.specs.List.Walk.{HasCome}
use Rattle.live_segment.proofs.lemmas.List.Indexed.{indexed_still}
use Rattle.live_segment.proofs.Seating.Recorders.{recorder_given, seat_walked}
use Rattle.live_segment.proofs.recorder.state.RecorderState.fresh_records.Goals as goal

pub returns-clause-at : goal.returns-clause-at
returns-clause-at c =
    let old = c.args.self.now in
    let on = c.walk.ensures.walked in
    let (is, share) = seat_walked c.args.segment.now old.seat c.walk.new.seat _ c.requires.seated c.requires.rests c.walk.ensures.same on.walked in
    recorder_given c.args.segment.now old c.walk.new.seat old.units c.walk.new.place old.samples c.requires is
    (c.requires.counted ∙ sym share)
    (subst (λ (chain : List ℕ). HasCome c.args.segment.now.setting.shape.size chain c.walk.new.place) (sym (ap (λ (a : Actor). a.seen.chain) on.walked.view)) on.come)
    (indexed_still _ _ _ is.words _ _ is.chain c.requires.sampled)
