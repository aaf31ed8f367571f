-- What the header says, and the lengths that were compared.
use Rattle.std.proofs.Common.{rules, sym}
use Rattle.segment_looks.proofs.Headed.{AreCopies-from_header}
use Rattle.segment_looks.proofs.composing.head_of.Goals as goal

pub returns-clause-copies : goal.returns-clause-copies
returns-clause-copies c =
    AreCopies-from_header c.in-Ok.head c.args.one.now c.args.two.now c.args.three.now (sym c.in-Ok.ensures) (search rules) (search rules)
