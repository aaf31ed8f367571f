use Rattle.std.proofs.Common.{refl, sym, true≢false, arith}
use Rattle.segment_machine.specs.Entry.{fresh}
use Rattle.segment_machine.specs.Examples.{one}
use Rattle.segment_machine.proofs.laws.entries_end_first.Goals as goal

pub returns : goal.returns
returns c = (λ may. true≢false (sym (may.1 0 (fresh (one 1)) (omega arith))), λ may. may.0 refl)
