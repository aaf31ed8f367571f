use Rattle.std.proofs.Common.{◌≡◌, ◌∙◌, List, ℕ, All, map, refl, subst, sym, take, length, arith}
use Rattle.std.proofs.Math.Seq.{take-length}
use Rattle.live_segment.specs.Hist.Answer.{IsAnsweredWith}
use Rattle.live_segment.specs.Holders.{view_of_recorder}
use Rattle.live_segment.specs.RecorderState.{IsNamed}
use Rattle.persist_report_core.specs.declared.script.ScriptHist.{ScriptHist}
use Rattle.persist_report_core.specs.Script.{hist_view}
use Rattle.persist_commands.specs.Recording.{KnowsOf}
use Rattle.persist_commands.proofs.Meetings.{asked_next}
use Rattle.persist_commands.proofs.Went.{went_nowhere}
use Rattle.persist_commands.proofs.opening.ask_all.Goals as goal

pub loop-hist-init : goal.loop-hist-init
loop-hist-init c = (
  refl,
  went_nowhere (map hist_view c.args.hists.now) (view_of_recorder c.args.recorder.now) (view_of_recorder c.args.recorder.now) refl,
  λ k d below. absurd (omega (arith, below)),
)

pub loop-hist-preserved : goal.loop-hist-preserved
loop-hist-preserved c =
    let at = c.loop-hist.invariant in
    let x = c.hist-item.result in
    let next = asked_next c.args.hists.now c.loop-hist.hist-index x c.args.recorder.now c.loop-hist.recorder c.hist.new.self c.in_default.field-0
    c.loop-hist-test.true c.hist-item.is at.1 at.2 c.in_default.ensures.same
    (subst (λ (name : List ℕ). IsNamed name x.spec c.hist.new.self.state c.in_default.field-0) c.deref.ensures.value c.in_default.ensures.named)
    (subst (λ (name : List ℕ). IsAnsweredWith name x.spec c.in_default.field-0 (view_of_recorder c.loop-hist.recorder) (view_of_recorder c.hist.new.self)) c.deref.ensures.value
    c.in_default.ensures.answer) in
    (c.hist.ensures.kept ∙ at.0, next.0, next.1)

pub returns-clause-asked : goal.returns-clause-asked
returns-clause-asked c =
    let at = c.loop-hist.invariant in
    let last : c.loop-hist.hist-index ≡ length c.args.hists.now = omega arith in
    let whole : take c.loop-hist.hist-index c.args.hists.now ≡ c.args.hists.now = subst (λ n. take n c.args.hists.now ≡ c.args.hists.now) (sym last) (take-length c.args.hists.now) in
    (at.1, subst (λ (l : List ScriptHist). All (KnowsOf (view_of_recorder c.loop-hist.recorder)) (map hist_view l)) whole at.2)
