use Rattle.std.proofs.Common.{ℕ, List, Option, MatchOption, subst, sym}
use Rattle.std.specs.declared.vec.Vec.{Vec}
use Rattle.std.specs.declared.alloc.Global.{Global}
use Rattle.bucket_ranges.specs.declared.spec.Spec.{Spec}
use Rattle.live_segment.specs.Hist.Opened.{IsNotRead, ReadsRecord}
use Rattle.live_segment.proofs.Seating.Recorders.{recorder_searched}
use Rattle.live_segment.proofs.lemmas.Hist.Opening.{answered_open}
use Rattle.live_segment.proofs.recorder.state.RecorderState.find_record.Goals as goal

pub returns-in_err-name-clause-at : goal.returns-in_err-name-clause-at
returns-in_err-name-clause-at c =
    let read = c.in_err-name.ensures in
    recorder_searched c.args.segment.now c.args.self.now c.read_record.new.seat c.requires read.same read.view read.free

pub returns-in_default-clause-at : goal.returns-in_default-clause-at
returns-in_default-clause-at c =
    let read = c.in_ok-name.ensures in
    recorder_searched c.args.segment.now c.args.self.now c.read_record.new.seat c.requires read.same read.view read.free

pub open_as-requires : goal.open_as-requires
open_as-requires c =
    let read = c.in_ok-name.ensures in
    recorder_searched c.args.segment.now c.args.self.now c.read_record.new.seat c.requires read.same read.view read.free

pub returns-clause-answer : goal.returns-clause-answer
returns-clause-answer c =
    let old = c.args.self.now.seat.me.0 in
    let new = c.read_record.new.seat.me.0 in
    let read = c.in_ok-name.ensures in
    let reads =
    subst (λ (found : Option (Vec ℕ Global × Spec)). MatchOption found (IsNotRead c.args.reference old new)
    (λ named. ReadsRecord new.seen c.args.reference named.0.items named.1)) c.in-Some.is read.outcome in
    answered_open c.deref.result.now c.in-Some.spec c.args.reference old new c.open_as.new.self.seat.me.0 c.open_as.result read.view
    (subst (λ (name : List ℕ). ReadsRecord new.seen c.args.reference name c.in-Some.spec) (sym c.deref.ensures.value) reads)
    c.open_as.ensures.answer
