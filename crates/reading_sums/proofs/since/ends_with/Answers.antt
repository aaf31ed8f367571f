use Rattle.std.proofs.Common.{◌<◌, ◌-◌, length, arith}
use Rattle.reading_sums.proofs.Between.{named-at, some-there}
use Rattle.reading_sums.proofs.since.ends_with.Goals as goal

pub returns-then-not-is_empty : goal.returns-then-not-is_empty
returns-then-not-is_empty c =
    let some : 0 < length c.args.hists.now = some-there _ c.if-not-is_empty.ensures in
    named-at c.args.hists.now (length c.args.hists.now - 1) c.index-hists-hists.result _ _ _ (omega (arith, some)) c.index-hists-hists.is c.as_slice.ensures.value c.eq.ensures
