use Rattle.std.proofs.Common.{[], ◌∷◌, refl, subst, sym}
use Rattle.std.specs.Prelude.{OnOk}
use Rattle.std.specs.Io.KnownBytes.{Appends}
use Rattle.schedule.specs.declared.order.OrderKind.{OrderKind}
use Rattle.stepped.specs.declared.lines.LinePlace.{LinePlace}
use Rattle.stepped.specs.Form.{text_of}
use Rattle.stepped.specs.Lines.Deed.{Looks}
use Rattle.stepped.specs.Replay.{DoesOrder}
use Rattle.stepped.proofs.Shown.{on_ok, writes_one}
use Rattle.stepped.proofs.replay.Replay.obey.Goals as goal

pub returns-in-Look-clause-ok : goal.returns-in-Look-clause-ok
returns-in-Look-clause-ok g c =
    let form = c.args.self.now.form in let world_state = c.args.self.now.world.world_state in let deed = Looks world_state.words.items c.in-Look.at in
    let start = g.W.Write.contents c.args.writer.now in let last = g.W.Write.contents c.look.new.writer in
    let place : LinePlace = record { number = c.args.number; actor = c.args.order.now.actor } in
    let shown : OnOk c.look.result (Appends start last (text_of form place deed)) = c.look.ensures.ok in
    on_ok c.look.result (λ text. (
      deed ∷ [],
      subst (λ (k : OrderKind). DoesOrder c.args.order.now.actor k c.args.self.now.left world_state world_state c.args.self.now.left (deed ∷ [])) (sym c.in-Look.is)
          (refl, refl, refl),
      writes_one place form form start last deed refl text,
    )) shown
