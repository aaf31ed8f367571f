use Rattle.segment_invariant.proofs.Prelude.Std.{ℕ, Option, ap, arith, unwrap_or}
use Rattle.segment_invariant.proofs.laws.transit_breaks.Goals as goal

pub returns : goal.returns
returns c transit =
    let e = (transit 16 1 (omega arith)).1 in
    let zero_is_one = ap (λ (bucket : Option ℕ). unwrap_or bucket 0) e in
    absurd (omega (arith, zero_is_one))
