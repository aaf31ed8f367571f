use Rattle.std.proofs.Common.{rules, codes}
use Rattle.std.specs.Io.KnownBytes.{Appends}
use Rattle.stepped.specs.Value.{packed_text}
use Rattle.stepped.proofs.Shown.{appends_both, on_ok}
use Rattle.stepped.proofs.value.put_frozen.Goals as goal

pub returns : goal.returns
returns g c =
    let start = g.W.Write.contents c.args.writer.now in let mid = g.W.Write.contents c.write_all.new.self in let last = g.W.Write.contents c.put_packed.new.writer in
    let first : Appends start mid (codes "frozen ") = search rules in
    on_ok c.put_packed.result (appends_both start mid last (codes "frozen ") (packed_text c.args.bucket c.args.units) first) c.put_packed.ensures
