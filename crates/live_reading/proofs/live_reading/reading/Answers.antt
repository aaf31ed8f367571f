use Rattle.std.proofs.Common.{◌∙◌, ◌<◌, ◌≤◌, ℕ, Bor, List, [], length, take, get_or, refl, subst, sym, arith}
use Rattle.std.proofs.lemmas.List.{take_all, take_more}
use Rattle.segment_promises.specs.Values.{NoRepeats}
use Rattle.live_segment.specs.declared.segment.Segment.{Segment}
use Rattle.live_segment.specs.Holders.{opened_with}
use Rattle.live_segment.specs.RecorderState.{view_of_state}
use Rattle.live_segment.specs.Standing.{HasList}
use Rattle.live_reading.specs.declared.live_reading.LiveHistogram.{LiveHistogram}
use Rattle.live_reading.specs.Reading.{IsOutcome, ReadsList}
use Rattle.live_reading.proofs.Looks.{goes_same, goes_then, looks_walked}
use Rattle.live_reading.proofs.Underway.{IsUnderWay, has_names, knows_once, new_behind, reads_list, under_way_more, under_way_none}
use Rattle.live_reading.proofs.live_reading.reading.Goals as goal

pub loop-reference-init : goal.loop-reference-init
loop-reference-init c =
    let old = c.args.recorder.now.state in
    let listed = c.records.new.self.state in (
      c.in_ok-records.ensures.kept,
      goes_same old listed c.in_ok-records.ensures.same
          (looks_walked (view_of_state old) (view_of_state listed) c.in_ok-records.records.items c.in_ok-records.ensures.walked),
      subst (λ (hists : List LiveHistogram). IsUnderWay c.args.recorder.now.segment.now [] hists listed listed) (sym c.new-hists.ensures.items)
          (under_way_none c.args.recorder.now.segment.now listed),
    )

-- a record could not be read
pub returns-in_err-found-clause-same : goal.returns-in_err-found-clause-same
returns-in_err-found-clause-same c =
    (goes_then c.args.recorder.now.state c.loop-reference.recorder.state c.read_record.new.recorder.state c.loop-reference.invariant.1 c.in_err-found.ensures.onward).knows

pub returns-in_err-found-clause-looks : goal.returns-in_err-found-clause-looks
returns-in_err-found-clause-looks c =
    (goes_then c.args.recorder.now.state c.loop-reference.recorder.state c.read_record.new.recorder.state c.loop-reference.invariant.1 c.in_err-found.ensures.onward).looks

-- there was no memory for its histogram
pub returns-in_err-push_found-clause-same : goal.returns-in_err-push_found-clause-same
returns-in_err-push_found-clause-same c =
    (goes_then c.args.recorder.now.state c.loop-reference.recorder.state c.read_record.new.recorder.state c.loop-reference.invariant.1 c.in_ok-found.ensures.onward).knows

pub returns-in_err-push_found-clause-looks : goal.returns-in_err-push_found-clause-looks
returns-in_err-push_found-clause-looks c =
    (goes_then c.args.recorder.now.state c.loop-reference.recorder.state c.read_record.new.recorder.state c.loop-reference.invariant.1 c.in_ok-found.ensures.onward).looks

-- one more is read
pub loop-reference-preserved : goal.loop-reference-preserved
loop-reference-preserved c =
    let segment = c.args.recorder.now.segment.now in
    let old = c.args.recorder.now.state in
    let listed = c.records.new.self.state in
    let mid = c.loop-reference.recorder.state in
    let new = c.read_record.new.recorder.state in
    let items : List ℕ = c.deref-reference-items.result.now in
    let n : ℕ = c.loop-reference.reference-index in
    let below : n < length items = c.loop-reference-test.true in
    let kept = c.in_ok-found.ensures.kept ∙ c.loop-reference.invariant.0 in
    let once : NoRepeats items = subst NoRepeats (sym c.deref-reference-items.ensures.value) c.in_ok-records.ensures.walked.once in (
      kept,
      goes_then old mid new c.loop-reference.invariant.1 c.in_ok-found.ensures.onward,
      subst (λ (passed : List ℕ). IsUnderWay segment passed c.push_found.new.hists.items listed new) (sym (take_more items n 0 below))
          (under_way_more segment (take n items) c.loop-reference.hists.items c.push_found.new.hists.items (get_or items n 0) c.in_ok-found.found listed mid new
          c.loop-reference.invariant.2 c.in_ok-found.ensures.onward
          (subst (λ (segment : Bor Segment). IsOutcome segment.now mid new (get_or items n 0) c.in_ok-found.found) kept c.in_ok-found.ensures.answer)
          c.in_ok-push_found.ensures
          (knows_once c.read_record.new.recorder.segment.now new c.read_record.new.recorder.at)
          (new_behind items once n (get_or items n 0) below refl)),
    )

-- all are read
pub returns-clause-each : goal.returns-clause-each
returns-clause-each c =
    let old = c.args.recorder.now.state in
    let listed = c.records.new.self.state in
    let new = c.loop-reference.recorder.state in
    let items : List ℕ = c.deref-reference-items.result.now in
    let n : ℕ = c.loop-reference.reference-index in
    let records : List ℕ = c.in_ok-records.records.items in
    let hists = c.loop-reference.hists.items in
    let past : length items ≤ n = omega (arith, c.loop-reference-test.false) in
    subst (λ (segment : Bor Segment). ReadsList segment.now old hists new) (sym c.loop-reference.invariant.0)
    (reads_list c.args.recorder.now.segment.now records (take n items) hists old listed new c.in_ok-records.ensures.walked
    (subst (λ (segment : Bor Segment). HasList (opened_with segment.now) listed.seat.id (view_of_state listed) records) c.in_ok-records.ensures.kept
    c.in_ok-records.ensures.all)
    c.loop-reference.invariant.2 (take_all n items past ∙ c.deref-reference-items.ensures.value))

pub returns-clause-names : goal.returns-clause-names
returns-clause-names c =
    has_names c.args.recorder.now.segment.now (take c.loop-reference.reference-index c.deref-reference-items.result.now) c.loop-reference.hists.items
    c.records.new.self.state c.loop-reference.recorder.state c.loop-reference.invariant.2
