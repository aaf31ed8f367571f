use Rattle.std.proofs.Common.{sym, subst}
use Rattle.live_segment.specs.declared.recorder.state.RecorderState.{RecorderState}
use Rattle.live_segment.specs.Hist.Opened.{OpensRecord}
use Rattle.live_segment.specs.RecorderState.{IsRecorderAt, KnowsOn, view_of_state}
use Rattle.live_segment.proofs.lemmas.List.Fronts.{open_first}
use Rattle.live_segment.proofs.recorder.state.RecorderState.open.Goals as goal

pub stand-requires : goal.stand-requires
stand-requires c = c.in_ok-found.ensures.at.seated.table

pub returns-clause-at : goal.returns-clause-at
returns-clause-at c =
    let found : RecorderState = c.find_record.new.self in
    subst (IsRecorderAt c.args.segment.now) (λ i. record found { seat = sym c.stand.ensures.same i }) c.in_ok-found.ensures.at

pub returns-clause-same : goal.returns-clause-same
returns-clause-same c =
    let found : RecorderState = c.find_record.new.self in
    subst (KnowsOn c.args.self.now) (λ i. record found { seat = sym c.stand.ensures.same i }) c.in_ok-found.ensures.same

pub returns-clause-answer : goal.returns-clause-answer
returns-clause-answer c =
    let found : RecorderState = c.find_record.new.self in
    subst (λ (state : RecorderState). OpensRecord c.args.reference (view_of_state c.args.self.now) c.in_ok-found.found (view_of_state state))
    (λ i. record found { seat = sym c.stand.ensures.same i }) c.in_ok-found.ensures.answer

pub returns-clause-first : goal.returns-clause-first
returns-clause-first c = open_first _ _ _ c.in_ok-found.found c.stand.ensures.stands
