use Rattle.std.proofs.Common.{◌≡◌, ◌∙◌, List, refl, map, rules, subst, sym, take, length, arith}
use Rattle.std.proofs.Math.Seq.{take-length}
use Rattle.live_segment.specs.Holders.{view_of_recorder}
use Rattle.persist_report_core.specs.declared.script.ScriptCall.{ScriptCall}
use Rattle.persist_report_core.specs.Script.{hist_view}
use Rattle.persist_commands.specs.Entries.{deeds_of}
use Rattle.persist_commands.specs.Parts.{part_of}
use Rattle.persist_commands.specs.Recording.{HasRecorded}
use Rattle.persist_commands.proofs.Meetings.{calls_next_at}
use Rattle.persist_commands.proofs.Went.{recorded_nowhere}
use Rattle.persist_commands.proofs.worker.make_own.Goals as goal

pub loop-number-init : goal.loop-number-init
loop-number-init g c = (refl, c.requires.len, c.requires.met, recorded_nowhere (map hist_view c.args.hists.now) (view_of_recorder c.args.recorder.now))

pub loop-number-preserved : goal.loop-number-preserved
loop-number-preserved g c =
    let at = c.loop-number.invariant in
    let one = c.in_ok-make_if_own.ensures in (
      one.kept ∙ at.0,
      search rules,
      one.met,
      calls_next_at (map hist_view c.args.hists.now) c.args.calls.now c.loop-number.number c.args.part.workers c.args.part.part _
          (view_of_recorder c.args.recorder.now) (view_of_recorder c.loop-number.recorder) (view_of_recorder c.make_if_own.new.recorder) c.loop-number-test.true at.3 one.went,
    )

pub returns-clause-went : goal.returns-clause-went
returns-clause-went g c =
    let at = c.loop-number.invariant in
    let last : c.loop-number.number ≡ length c.args.calls.now = omega arith in
    let whole : take c.loop-number.number c.args.calls.now ≡ c.args.calls.now = subst (λ n. take n c.args.calls.now ≡ c.args.calls.now) (sym last) (take-length c.args.calls.now) in
    subst (λ (l : List ScriptCall). HasRecorded (map hist_view c.args.hists.now) (deeds_of (map hist_view c.args.hists.now) (part_of c.args.part.workers c.args.part.part l)) (view_of_recorder c.args.recorder.now) (view_of_recorder c.loop-number.recorder))
    whole at.3
