use Rattle.std.proofs.Common.{◌∙◌, Bor, Option, ap, subst, sym}
use Rattle.live_segment.specs.declared.recorder.Hist.{Hist}
use Rattle.live_segment.specs.declared.segment.Segment.{Segment}
use Rattle.live_segment.specs.Hist.Opened.{OpensRecord}
use Rattle.live_segment.specs.List.Values.{AreFewKeys}
use Rattle.live_segment.specs.RecorderState.{view_of_state}
use Rattle.live_segment.proofs.Seating.Callers.{knows_same}
use Rattle.live_reading.proofs.Looks.{goes_not, goes_opened, goes_read, goes_same, goes_searched, goes_then, looks_searched, place_known, read_by}
use Rattle.live_reading.proofs.live_reading.read_record.Goals as goal

-- there was no memory to open it
pub returns-in_err-histogram-clause-onward : goal.returns-in_err-histogram-clause-onward
returns-in_err-histogram-clause-onward c =
    goes_searched c.args.recorder.now.state c.open.new.self.state c.in_err-histogram.ensures.same c.in_err-histogram.ensures.answer.1

-- it has none
pub returns-in_default-clause-onward : goal.returns-in_default-clause-onward
returns-in_default-clause-onward c =
    goes_opened c.args.reference c.in_ok-histogram.field-0 c.args.recorder.now.state c.open.new.self.state c.in_ok-histogram.ensures.same c.in_ok-histogram.ensures.answer

pub returns-in_default-clause-answer : goal.returns-in_default-clause-answer
returns-in_default-clause-answer c =
    let old = c.args.recorder.now.state in
    let new = c.open.new.self.state in record {
      asked = old;
      opened = new;
      before = goes_not old;
      opens = subst (λ (found : Option Hist). OpensRecord c.args.reference (view_of_state old) found (view_of_state new)) c.in_default.is c.in_ok-histogram.ensures.answer;
      behind = goes_not new;
    }

-- it has one
pub snapshot-requires : goal.snapshot-requires
snapshot-requires c =
    let old = c.args.recorder.now.state in
    let mid = c.open.new.self.state in
    place_known c.args.reference c.in-Some.histogram old mid
    (subst (λ (found : Option Hist). OpensRecord c.args.reference (view_of_state old) found (view_of_state mid)) c.in-Some.is c.in_ok-histogram.ensures.answer)

pub returns-in_err-snapshot-clause-onward : goal.returns-in_err-snapshot-clause-onward
returns-in_err-snapshot-clause-onward c =
    let old = c.args.recorder.now.state in
    let mid = c.open.new.self.state in
    let new = c.snapshot.new.self.state in
    goes_then old mid new (goes_opened c.args.reference c.in_ok-histogram.field-0 old mid c.in_ok-histogram.ensures.same c.in_ok-histogram.ensures.answer)
    (goes_same mid new c.in_err-snapshot.ensures.same (looks_searched (view_of_state mid) (view_of_state new) c.in_err-snapshot.ensures.answer.1))

pub name-requires : goal.name-requires
name-requires c =
    let old = c.args.recorder.now.state in
    let mid = c.open.new.self.state in
    let new = c.snapshot.new.self.state in
    knows_same mid new c.in-Some.histogram c.in_ok-snapshot.ensures.same
    (place_known c.args.reference c.in-Some.histogram old mid
    (subst (λ (found : Option Hist). OpensRecord c.args.reference (view_of_state old) found (view_of_state mid)) c.in-Some.is c.in_ok-histogram.ensures.answer))

pub returns-in_err-name-clause-onward : goal.returns-in_err-name-clause-onward
returns-in_err-name-clause-onward c =
    let old = c.args.recorder.now.state in
    let mid = c.open.new.self.state in
    let new = c.snapshot.new.self.state in
    goes_read c.args.reference c.in-Some.histogram c.in_ok-snapshot.snapshot old mid new c.in_ok-histogram.ensures.same
    (subst (λ (found : Option Hist). OpensRecord c.args.reference (view_of_state old) found (view_of_state mid)) c.in-Some.is c.in_ok-histogram.ensures.answer)
    c.in_ok-snapshot.ensures.same c.in_ok-snapshot.ensures.answer

pub spec-requires : goal.spec-requires
spec-requires c =
    let old = c.args.recorder.now.state in
    let mid = c.open.new.self.state in
    let new = c.snapshot.new.self.state in
    knows_same mid new c.in-Some.histogram c.in_ok-snapshot.ensures.same
    (place_known c.args.reference c.in-Some.histogram old mid
    (subst (λ (found : Option Hist). OpensRecord c.args.reference (view_of_state old) found (view_of_state mid)) c.in-Some.is c.in_ok-histogram.ensures.answer))

pub returns-in_err-spec-clause-onward : goal.returns-in_err-spec-clause-onward
returns-in_err-spec-clause-onward c =
    let old = c.args.recorder.now.state in
    let mid = c.open.new.self.state in
    let new = c.snapshot.new.self.state in
    goes_read c.args.reference c.in-Some.histogram c.in_ok-snapshot.snapshot old mid new c.in_ok-histogram.ensures.same
    (subst (λ (found : Option Hist). OpensRecord c.args.reference (view_of_state old) found (view_of_state mid)) c.in-Some.is c.in_ok-histogram.ensures.answer)
    c.in_ok-snapshot.ensures.same c.in_ok-snapshot.ensures.answer

pub returns-clause-onward : goal.returns-clause-onward
returns-clause-onward c =
    let old = c.args.recorder.now.state in
    let mid = c.open.new.self.state in
    let new = c.snapshot.new.self.state in
    goes_read c.args.reference c.in-Some.histogram c.in_ok-snapshot.snapshot old mid new c.in_ok-histogram.ensures.same
    (subst (λ (found : Option Hist). OpensRecord c.args.reference (view_of_state old) found (view_of_state mid)) c.in-Some.is c.in_ok-histogram.ensures.answer)
    c.in_ok-snapshot.ensures.same c.in_ok-snapshot.ensures.answer

pub returns-clause-answer : goal.returns-clause-answer
returns-clause-answer c =
    let old = c.args.recorder.now.state in
    let mid = c.open.new.self.state in
    let new = c.snapshot.new.self.state in
    read_by c.snapshot.new.self.segment.now c.args.reference c.in-Some.histogram
    (record { name = c.in_ok-name.name; spec = c.in_ok-spec.spec; snapshot = c.in_ok-snapshot.snapshot }) old mid new c.in_ok-histogram.ensures.same
    (subst (λ (found : Option Hist). OpensRecord c.args.reference (view_of_state old) found (view_of_state mid)) c.in-Some.is c.in_ok-histogram.ensures.answer)
    c.in_ok-snapshot.ensures.same c.in_ok-snapshot.ensures.answer c.in_ok-snapshot.ensures.owed c.in_ok-snapshot.ensures.most
    (λ known means.
    subst (λ (segment : Segment). AreFewKeys segment known c.in_ok-snapshot.snapshot.counts.items)
    (sym (ap (λ (segment : Bor Segment). segment.now) c.in_ok-snapshot.ensures.kept)) (c.in_ok-snapshot.ensures.few known means))
    c.in_ok-snapshot.ensures.values
    (λ known means. c.in_ok-name.ensures.items ∙ c.name.ensures known means)
    (λ known means. c.in_ok-spec.ensures ∙ c.spec.ensures known means)
