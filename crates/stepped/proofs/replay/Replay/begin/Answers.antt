use Rattle.std.proofs.Common.{rules, ◌∙◌, [], ◌∷◌, refl, ap}
use Rattle.std.specs.Prelude.{OnOk, Ok}
use Rattle.std.specs.Io.KnownBytes.{Appends}
use Rattle.hist_core.specs.declared.call.Begun.TheVariants.{Going, Ended}
use Rattle.stepped.specs.declared.fault.ReplayFault.{ReplayFault}
use Rattle.stepped.specs.Form.{text_of}
use Rattle.stepped.specs.Lines.Deed.{Begins, AtOnce}
use Rattle.stepped.proofs.Shown.{is_begun, on_ok, same_ok, writes_one}
use Rattle.stepped.proofs.replay.Replay.begin.Goals as goal

pub returns-in-Going-clause-ok : goal.returns-in-Going-clause-ok
returns-in-Going-clause-ok g c =
    let start = g.W.Write.contents c.args.writer.now in let last = g.W.Write.contents c.show_begin.new.writer in
    let call = c.args.call.now in let form = c.args.self.now.form in
    let ok = same_ok ReplayFault c.begin.result c.in_ok-begun.begun c.in_ok-begun.ensures.cases ∙ ap Ok c.in-Going.is in
    let begun = is_begun c.args.place.actor call c.args.self.now.world.world_state c.begin.new.self.world_state c.begin.result Going ok
    (c.begin.ensures.faults, c.begin.ensures.says) c.begin.ensures.others c.begin.ensures.begins in
    let shown : OnOk c.map_err-in-Going.result (Appends start last (text_of form c.args.place (Begins call))) = search rules in
    on_ok c.map_err-in-Going.result (λ text. (Begins call ∷ [], (Going, begun, refl), writes_one c.args.place form form start last (Begins call) refl text)) shown

pub returns-in-Ended-clause-ok : goal.returns-in-Ended-clause-ok
returns-in-Ended-clause-ok g c =
    let start = g.W.Write.contents c.args.writer.now in let last = g.W.Write.contents c.show_at_once.new.writer in let answer = c.in-Ended.answer in
    let call = c.args.call.now in let form = c.args.self.now.form in
    let ok = same_ok ReplayFault c.begin.result c.in_ok-begun.begun c.in_ok-begun.ensures.cases ∙ ap Ok c.in-Ended.is in
    let begun = is_begun c.args.place.actor call c.args.self.now.world.world_state c.begin.new.self.world_state c.begin.result (Ended answer) ok
    (c.begin.ensures.faults, c.begin.ensures.says) c.begin.ensures.others c.begin.ensures.begins in
    let shown : OnOk c.map_err-in-Ended.result (Appends start last (text_of form c.args.place (AtOnce call answer))) = search rules in
    on_ok c.map_err-in-Ended.result
    (λ text. (AtOnce call answer ∷ [], (Ended answer, begun, refl), writes_one c.args.place form form start last (AtOnce call answer) refl text)) shown
