use Rattle.std.proofs.Common.{rules, ◌≡◌, ◌∙◌, [], ◌∷◌, List, false, map, sym, subst}
use Rattle.live_segment.specs.Holders.{view_of_recorder}
use Rattle.persist_report_core.specs.declared.script.ScriptCall.{ScriptCall}
use Rattle.persist_report_core.specs.Script.{hist_view}
use Rattle.persist_commands.specs.Entries.{deeds_of}
use Rattle.persist_commands.specs.Parts.{part_from}
use Rattle.persist_commands.specs.Recording.{HasRecorded}
use Rattle.persist_commands.proofs.Parts.{part_first}
use Rattle.persist_commands.proofs.Went.{recorded_nowhere}
use Rattle.persist_commands.proofs.worker.make_if_own.Goals as goal

pub returns-then-not-is_in-clause-went : goal.returns-then-not-is_in-clause-went
returns-then-not-is_in-clause-went g c =
    let hists = map hist_view c.args.hists.now in
    let a = view_of_recorder c.args.recorder.now in
    let off : c.is_in.result ≡ false = search rules in
    let none : part_from c.args.number c.args.part.workers c.args.part.part (c.args.call.now ∷ []) ≡ [] =
    part_first c.args.number c.args.part.workers c.args.part.part c.args.call.now [] false (sym c.is_in.ensures ∙ off) in
    subst (λ (calls : List ScriptCall). HasRecorded hists (deeds_of hists calls) a a) (sym none) (recorded_nowhere hists a)
