use Rattle.std.proofs.Common.{rules, ◌≡◌, List, ℤ, Some, OnOk, FitsSigned, to_z, of_z, w32, subst, sym}
use Rattle.std.proofs.lemmas.Int.{to_z-of_z}
use Rattle.segment_image.specs.Checks.{first_fault}
use Rattle.live_segment.specs.Add.Sample.{add_checks}
use Rattle.live_segment.specs.Holders.{view_of_recorder}
use Rattle.live_segment.specs.RecorderState.{IsNamed}
use Rattle.persist_report_core.specs.declared.script.CallKind.{CallKind}
use Rattle.persist_report_core.specs.declared.script.CallKind.TheVariants as kind
use Rattle.persist_report_core.specs.Script.{HistRecord}
use Rattle.persist_commands.specs.Entries.{deeds_in}
use Rattle.persist_commands.specs.Recording.{HasRecorded}
use Rattle.persist_commands.proofs.Meetings.{added_so}
use Rattle.persist_commands.proofs.Went.{recorded_taking}
use Rattle.persist_commands.proofs.worker.record_call.Goals as goal

pub returns-in-Add-clause-went : goal.returns-in-Add-clause-went
returns-in-Add-clause-went c =
    let value : FitsSigned w32 c.in-Add.value = search rules in
    let same : to_z w32 (of_z w32 c.in-Add.value) ≡ c.in-Add.value = to_z-of_z w32 c.in-Add.value value in
    let Goes : CallKind → Type 0 = λ k. OnOk c.add.result ((hists : List HistRecord) (hist : HistRecord) → IsNamed hist.name hist.spec c.args.recorder.now.state c.args.histogram
    → HasRecorded hists (deeds_in (Some hist) k) (view_of_recorder c.args.recorder.now) (view_of_recorder c.add.new.self)) in
    subst Goes (sym c.in-Add.is)
    (subst (λ (z : ℤ). Goes (kind.Add z c.in-Add.count)) same
    (added_so (first_fault (add_checks (view_of_recorder c.args.recorder.now) c.in-Add.count)) c.args.recorder.now c.add.new.self c.args.histogram
    (to_z w32 (of_z w32 c.in-Add.value)) c.in-Add.count c.add.result c.add.ensures.answer))

pub returns-in_ok-delta-in-Delta-clause-went : goal.returns-in_ok-delta-in-Delta-clause-went
returns-in_ok-delta-in-Delta-clause-went c = λ hists hist named.
    let (knows, rest) = named in
    let (known, means, is, same) = rest in
    let taken = c.in_ok-delta-in-Delta.ensures.taken known means in
    subst (λ (k : CallKind). HasRecorded hists (deeds_in (Some hist) k) (view_of_recorder c.args.recorder.now) (view_of_recorder c.delta.new.self)) (sym c.in-Delta.is)
    (recorded_taking hists hist known _ _ (view_of_recorder c.args.recorder.now) (view_of_recorder c.delta.new.self) is taken)
