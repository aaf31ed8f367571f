use Rattle.stepped.specs.Said.{items_text, refusal_text}
use Rattle.stepped.proofs.Shown.{appends_both, on_ok}
use Rattle.stepped.proofs.said.put_stopped.Goals as goal

pub returns : goal.returns
returns g c =
    let start = g.W.Write.contents c.args.writer.now in let mid = g.W.Write.contents c.put_refusal.new.writer in let last = g.W.Write.contents c.put_items.new.writer in
    on_ok c.put_items.result (appends_both start mid last (refusal_text c.args.why) (items_text c.args.items) c.in_ok-put_refusal.ensures) c.put_items.ensures
