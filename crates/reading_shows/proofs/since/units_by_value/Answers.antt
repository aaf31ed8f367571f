use Rattle.std.proofs.Common.{ℤ, ℕ, pos, get_or, rules, w32, FitsSigned}
use Rattle.std.specs.Ordering.{int_cmp}
use Rattle.std.specs.BTreeMap.{get}
use Rattle.std.proofs.lemmas.Int.{to_z-of_z}
use Rattle.reading_shows.proofs.Came.{counted-more}
use Rattle.reading_shows.proofs.since.units_by_value.Goals as goal

pub loop-value-preserved : goal.loop-value-preserved
loop-value-preserved c = λ q.
    let count : ℤ × ℕ = get_or c.args.counts.now c.loop-value.value-index (pos 0, 0) in
    let fits : FitsSigned w32 count.0 = search rules in
    let put = rw (to_z-of_z w32 count.0 fits) at c.in_ok-insert.ensures.updates.0 q in
    counted-more c.args.counts.now c.loop-value.value-index (pos 0, 0) q (get int_cmp c.insert.new.self q) (get int_cmp c.loop-value.units q) c.loop-value-test.true
    put (c.loop-value.invariant q)
