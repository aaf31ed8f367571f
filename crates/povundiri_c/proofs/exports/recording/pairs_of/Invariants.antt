use Rattle.std.proofs.Common.{◌≡◌, map, take}
use Rattle.povundiri_c.specs.Asking.{pair_of}
use Rattle.povundiri_c.proofs.exports.recording.pairs_of.Given as goal

abbrev pub invariant-loop-item : goal.invariant-loop-item
invariant-loop-item l = l.pairs.items ≡ map pair_of (take l.item-index l.items)
