use Rattle.reading_sums.proofs.Between.{named-at, some-there}
use Rattle.reading_sums.proofs.since.begins_with.Goals as goal

pub returns-then-not-is_empty : goal.returns-then-not-is_empty
returns-then-not-is_empty c =
    named-at c.args.hists.now 0 c.index-hists-0.result _ _ _ (some-there _ c.if-not-is_empty.ensures) c.index-hists-0.is c.as_slice.ensures.value c.eq.ensures
