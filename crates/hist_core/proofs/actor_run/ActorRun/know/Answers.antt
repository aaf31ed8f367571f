use Rattle.std.proofs.Common.{refl, sym, ap, ◌∙◌, ◌∷◌, ◌++◌, []}
use Rattle.std.specs.Prelude.{Some, is_ok, if◌then◌else◌}
use Rattle.hist_core.proofs.actor_run.ActorRun.know.Goals as goal

pub returns : goal.returns
returns c =
    let h = c.in-Some-Hist.hist in let list = c.args.self.now.known.items in (
      h,
      sym c.take.ensures.value ∙ (c.in-Some-Hist.is ∙ ap Some c.in-Some-Hist.field-0-is),
      ap (λ r. record c.args.self.now { known = c.push.new.self; running = r }) c.take.ensures.after,
      c.push.ensures.items ∙ ap (λ r. if is_ok r then list ++ (let known = h.asked in record known { reference = h.reference }) ∷ [] else list) c.unwrap.ensures,
      refl,
    )
