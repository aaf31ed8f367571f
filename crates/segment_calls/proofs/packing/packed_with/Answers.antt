use Rattle.std.proofs.Common.{◌%◌, ◌^◌, ◌≤◌, inr, ⊎_elim, arith}
use Rattle.segment_calls.proofs.packing.packed_with.Goals as goal

pub returns : goal.returns
returns c = λ formed.
    let some_there : 1 ≤ c.args.word % 2 ^ 32 = ⊎_elim (λ none. omega arith) (λ one. one) formed in
    (omega arith, inr (c.args.word % 2 ^ 32, some_there, omega arith, omega arith, omega arith))
