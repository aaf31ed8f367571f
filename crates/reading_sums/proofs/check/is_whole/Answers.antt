-- The numbers that were read are in range.
use Rattle.std.proofs.Common.{Result, Ok, Err, IfOk, subst, rules}
use Rattle.reading_sums.specs.Whole.{AreMarksInRange, IsInRange}
use Rattle.reading_sums.proofs.check.is_whole.Goals as goal

-- what holds in any case, holds of a value
if-ok : {T E : Type 0} (P : T → Type 0) (r : Result T E) → ((t : T) → P t) → IfOk r P
if-ok P (Ok t) all = all t
if-ok P (Err e) all = tt

pub returns-then-units_fit-clause-range : goal.returns-then-units_fit-clause-range
returns-then-units_fit-clause-range c =
    let range : IsInRange c.args.hist.now = record {
      marks = subst AreMarksInRange c.deref-then-keys_ascend.ensures.value (c.units_fit.ensures.range c.if-units_fit.true);
      sum = search rules;
      sum_mark = search rules;
      redundant = c.are_in_range.ensures.redundant;
      images = c.are_in_range.ensures.images;
    } in
    if-ok _ c.has_its_buckets.result (λ is yes. range)
