use Rattle.std.proofs.Common.{◌∙◌, ℕ, List, ap, sym, refl, subst, map, length}
use Rattle.std.proofs.lemmas.Option.{slice_get_read, slice_get-map}
use Rattle.std.specs.Option.{option_map}
use Rattle.segment_invariant.proofs.Lists.Maps.{contains_map}
use Rattle.live_segment.specs.Hist.Answer.{IsAnsweredWith}
use Rattle.live_segment.specs.Holders.{view_of_recorder}
use Rattle.live_segment.specs.RecorderState.{IsNamed}
use Rattle.persist_report_core.specs.Script.{hist_view}
use Rattle.persist_commands.proofs.Meetings.{met_more}
use Rattle.persist_commands.proofs.Went.{recorded_asking, recorded_nowhere}
use Rattle.persist_commands.proofs.worker.meet.Goals as goal

pub returns-in-Some-met-clause-went : goal.returns-in-Some-met-clause-went
returns-in-Some-met-clause-went c = recorded_nowhere (map hist_view c.args.hists.now) (view_of_recorder c.args.recorder.now)

pub returns-clause-went : goal.returns-clause-went
returns-clause-went c =
    let x = c.in-Some.hist.now in
    let look = c.in-Some.ensures.lookup in
    recorded_asking (map hist_view c.args.hists.now) (hist_view x) c.in_ok-histogram.histogram (view_of_recorder c.args.recorder.now) (view_of_recorder c.hist.new.self)
    (contains_map hist_view c.args.hists.now x (c.args.index, look.3.0, sym look.1))
    (subst (λ (name : List ℕ). IsAnsweredWith name x.spec c.in_ok-histogram.histogram (view_of_recorder c.args.recorder.now) (view_of_recorder c.hist.new.self)) c.deref.ensures.value
    c.in_ok-histogram.ensures.answer)

pub returns-clause-met : goal.returns-clause-met
returns-clause-met c =
    let x = c.in-Some.hist.now in
    let look = c.in-Some.ensures.lookup in
    met_more (map hist_view c.args.hists.now) c.args.recorder.now c.hist.new.self c.args.met.now c.args.index (hist_view x) c.in_ok-histogram.histogram
    c.in_ok-histogram.ensures.same c.requires.met
    (slice_get-map hist_view c.args.hists.now c.args.index ∙ ap (option_map hist_view) (slice_get_read c.args.hists.now (length c.args.hists.now) c.args.index x refl look.3.0 look.1))
    (subst (λ (name : List ℕ). IsNamed name x.spec c.hist.new.self.state c.in_ok-histogram.histogram) c.deref.ensures.value c.in_ok-histogram.ensures.named)

pub returns-clause-found : goal.returns-clause-found
returns-clause-found c =
    let x = c.in-Some.hist.now in
    let look = c.in-Some.ensures.lookup in (
      hist_view x,
      slice_get-map hist_view c.args.hists.now c.args.index ∙ ap (option_map hist_view) (slice_get_read c.args.hists.now (length c.args.hists.now) c.args.index x refl look.3.0 look.1),
      subst (λ (name : List ℕ). IsNamed name x.spec c.hist.new.self.state c.in_ok-histogram.histogram) c.deref.ensures.value c.in_ok-histogram.ensures.named,
    )
