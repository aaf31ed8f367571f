use Rattle.std.proofs.Common.{codes}
use Rattle.stepped.specs.Lines.{spec_fault_word}
use Rattle.stepped.proofs.Shown.{appends_both, on_ok}
use Rattle.stepped.proofs.said.put_bad_spec.Goals as goal

pub returns : goal.returns
returns g c =
    let start = g.W.Write.contents c.args.writer.now in let mid = g.W.Write.contents c.put_spec.new.writer in let last = g.W.Write.contents c.put_fault.new.writer in
    on_ok c.put_fault.result (appends_both start mid last (codes "refused, BadSpec ") (spec_fault_word c.args.fault) c.in_ok-put_spec.ensures) c.put_fault.ensures
